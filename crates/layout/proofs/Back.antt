-- What was written is read back.
use Rattle.std.proofs.Common.{◌≡◌, ℕ, zero, suc, ◌+◌, ◌-◌, ◌*◌, ◌/◌, ◌%◌, ◌^◌, ◌<◌, ◌≤◌, true, false, List, [], ◌∷◌, ◌++◌, length, get_or, take, drop, replicate, sym, refl, ap, ◌∙◌, ap₂, append_assoc, pow-suc, arith, take-append-drop}
use lib.Seq.{drop-append-add}
use Rattle.std.specs.List.{between, flat_map, AllByRecursion}
use Rattle.std.proofs.lemmas.List.{drop_at, drop_more, length-take, length-append, length-replicate, drop-replicate, take-replicate, replicate-append-replicate, get_or-take, get_or-drop}
use Rattle.std.proofs.lemmas.List.Concat.{flat_map-append}
use Rattle.std.proofs.ByRecursion.{All-get_or, All-take, All-drop}
use Rattle.std.proofs.lemmas.Nat.{div_below}
use Rattle.layout.specs.declared.exception.Exception.{Exception}
use Rattle.layout.specs.Entries.{entry, entry_from, pic, Fits, ReadBack}
use Rattle.layout.specs.Numbers.{le, value}
use Rattle.layout.specs.declared.chunk.ChunkSize.TheVariants.{One, Two, Four, Eight, Sixteen}
use Rattle.layout.specs.Headers.{HeaderBack}
use Rattle.layout.proofs.Made.{length_entries, length_entries-take}

pub value_le : (w n : ℕ) → n < 256 ^ w → value (le w n) ≡ n
value_le zero n h = omega arith
value_le (suc w) n h = let less : n / 256 < 256 ^ w = div_below n 256 (256 ^ w) (omega arith) (rw pow-suc at h) in let back = value_le w (n / 256) less in omega arith

pub le_value : (bs : List ℕ) → AllByRecursion (λ b. b < 256) bs → le (length bs) (value bs) ≡ bs
le_value [] h = refl
le_value (b ∷ bs) h =
    let low : (b + 256 * value bs) % 256 ≡ b = omega (arith, h.0) in
    let high : (b + 256 * value bs) / 256 ≡ value bs = omega (arith, h.0) in
    ap₂ (λ x y. x ∷ le (length bs) y) low high ∙ ap (λ l. b ∷ l) (le_value bs h.1)

part_at : (xs ys : List ℕ) (at k n : ℕ) → length xs ≡ at → between (at + k) (at + k + n) (xs ++ ys) ≡ take n (drop k ys)
part_at xs ys at k n h =
    let size : at + k + n - (at + k) ≡ n = omega arith in
    let place : at + k ≡ length xs + k = omega arith in
    ap₂ (λ m l. take m l) size (ap (λ m. drop m (xs ++ ys)) place ∙ drop-append-add xs ys k)

front_at : (xs ys : List ℕ) (at n : ℕ) → length xs ≡ at → between at (at + n) (xs ++ ys) ≡ take n ys
front_at xs ys at n h = let size : at + n - at ≡ n = omega arith in ap₂ (λ m l. take m l) size (drop_at xs ys at h)

pub entry_here : (xs zs : List ℕ) (e : Exception) (at : ℕ) → length xs ≡ at → Fits e → entry_from (xs ++ (entry e ++ zs)) at ≡ e
entry_here xs zs e at h fit =
    let old : value (between at (at + 8) (xs ++ (entry e ++ zs))) ≡ e.old = ap value (front_at xs (entry e ++ zs) at 8 h) ∙ value_le 8 e.old fit.old in
    let new : value (between (at + 8) (at + 8 + 8) (xs ++ (entry e ++ zs))) ≡ e.new = ap value (part_at xs (entry e ++ zs) at 8 8 h) ∙ value_le 8 e.new fit.new in
    λ i. record { old = old i; new = new i }

pub entry_past : (xs : List ℕ) (at n : ℕ) → length xs ≡ at → 16 ≤ n → entry_from (xs ++ replicate n 0) at ≡ record { old = 0; new = 0 }
entry_past xs at n h room =
    let old : value (between at (at + 8) (xs ++ replicate n 0)) ≡ 0 = ap value (front_at xs (replicate n 0) at 8 h ∙ take-replicate 8 n 0 (omega arith)) in
    let new : value (between (at + 8) (at + 8 + 8) (xs ++ replicate n 0)) ≡ 0 =
    ap value (part_at xs (replicate n 0) at 8 8 h ∙ ap (take 8) (drop-replicate 8 n 0) ∙ take-replicate 8 (n - 8) 0 (omega arith)) in
    λ i. record { old = old i; new = new i }

-- the entries before the one at k, that one, and what follows
split_at : (part : List Exception) (k : ℕ) (d : Exception) (zs : List ℕ) → k < length part → flat_map entry part ++ zs ≡ flat_map entry (take k part) ++ (entry (get_or part k d) ++ (flat_map entry (drop (k + 1) part) ++ zs))
split_at part k d zs h =
    let all : part ≡ take k part ++ (get_or part k d ∷ drop (k + 1) part) = sym (ap (λ l. take k part ++ l) (sym (drop_more part k d h)) ∙ take-append-drop k part) in
    ap (λ l. l ++ zs) (ap (flat_map entry) all ∙ flat_map-append entry (take k part) (get_or part k d ∷ drop (k + 1) part)) ∙ append_assoc (flat_map entry (take k part)) _ zs ∙ ap (λ l. flat_map entry (take k part) ++ l) (append_assoc (entry (get_or part k d)) (flat_map entry (drop (k + 1) part)) zs)

pub read_back : ReadBack
read_back = record { number = value_le; bytes = le_value; here = here; past = past }
  where
    here : (es : List Exception) (j k : ℕ) (d : Exception) → AllByRecursion Fits es → k < length (take 32 (drop (32 * j) es)) → entry_from (pic es j) (16 * k) ≡ get_or es (32 * j + k) d
    here es j k d fit h =
        let part = take 32 (drop (32 * j) es) in
        let few : k < 32 = omega (arith, length-take 32 (drop (32 * j) es)) in
        let is : get_or part k d ≡ get_or es (32 * j + k) d = get_or-take 32 (drop (32 * j) es) k d few ∙ get_or-drop (32 * j) es k d in
        ap (λ l. entry_from l (16 * k)) (split_at part k d (replicate (512 - length (flat_map entry part)) 0) h) ∙ entry_here (flat_map entry (take k part)) _ (get_or part k d) (16 * k) (length_entries-take part k (omega arith)) (All-get_or Fits part k d h (All-take Fits 32 (drop (32 * j) es) (All-drop Fits (32 * j) es fit))) ∙ is

    past : (es : List Exception) (j k : ℕ) → length (take 32 (drop (32 * j) es)) ≤ k → k < 32 → entry_from (pic es j) (16 * k) ≡ record { old = 0; new = 0 }
    past es j k h few =
        let part = take 32 (drop (32 * j) es) in
        let front = flat_map entry part in
        let size : length front ≡ 16 * length part = length_entries part in
        let more = 16 * k - length front in
        let zeros : replicate {A = ℕ} (512 - length front) 0 ≡ replicate more 0 ++ replicate (512 - 16 * k) 0 = let e : 512 - length front ≡ more + (512 - 16 * k) = omega arith in ap (λ n. replicate {A = ℕ} n 0) e ∙ sym (replicate-append-replicate {A = ℕ} more (512 - 16 * k) 0) in
        let place : length (front ++ replicate more 0) ≡ 16 * k = length-append front (replicate more 0) ∙ omega (arith, length-replicate {A = ℕ} more 0) in
        ap (λ l. entry_from (front ++ l) (16 * k)) zeros ∙ ap (λ l. entry_from l (16 * k)) (sym (append_assoc front (replicate more 0) _)) ∙ entry_past (front ++ replicate more 0) (16 * k) (512 - 16 * k) place (omega arith)

pub header_back : HeaderBack
header_back true One = refl
header_back true Two = refl
header_back true Four = refl
header_back true Eight = refl
header_back true Sixteen = refl
header_back false One = refl
header_back false Two = refl
header_back false Four = refl
header_back false Eight = refl
header_back false Sixteen = refl
