-- A sector whose entries are those of a list, with zeros after them, is the list's picture.
use Rattle.std.proofs.Common.{◌≡◌, ℕ, suc, ◌+◌, ◌-◌, ◌*◌, ◌<◌, ◌≤◌, true, eqb, List, [], ◌∷◌, ◌++◌, length, get_or, take, drop, replicate, sym, refl, ap, ◌∙◌, ap₂, arith, length-drop, length-take, drop-drop, take-add}
use Rattle.std.specs.List.{between, flat_map, AllByRecursion}
use Rattle.std.proofs.ByRecursion.{All-take, All-drop}
use Rattle.std.proofs.lemmas.List.{length-take-le, get_or-take, get_or-drop}
use Rattle.std.proofs.lemmas.Bool.{and_parts, eqb-true}
use Rattle.device.specs.Disk.{Bytes}
use Rattle.layout.specs.declared.exception.Exception.{Exception}
use Rattle.layout.specs.Entries.{nothing, entry, entry_from, pic}
use Rattle.layout.specs.Numbers.{le, value}
use Rattle.layout.proofs.Back.{le_value}
use Rattle.layout.proofs.Made.{length_entries}
use Rattle.store.specs.Image.{all_zero}
use Rattle.recovery.specs.Holding.{EntryWrittenAgain}

abbrev pub Small : Bytes → Type 0
Small b = AllByRecursion (λ x. x < 256) b

-- eight bytes that read as a number are that number's
number_bytes : (b : Bytes) (i n : ℕ) → Small b → i + 8 ≤ length b → value (between i (i + 8) b) ≡ n → take 8 (drop i b) ≡ le 8 n
number_bytes b i n small room is =
    let span : i + 8 - i ≡ 8 = omega arith in
    let size : length (take 8 (drop i b)) ≡ 8 = length-take-le 8 (drop i b) (simp length-drop (omega arith)) in
    let same : value (take 8 (drop i b)) ≡ n = ap (λ k. value (take k (drop i b))) (sym span) ∙ is in
    sym (le_value (take 8 (drop i b)) (All-take _ 8 (drop i b) (All-drop _ i b small))) ∙ ap₂ le size same

pub entry_written_again : EntryWrittenAgain
entry_written_again b i small room =
    let x = entry_from b i in
    let span : 16 ≡ i + 16 - i = omega arith in
    let cut : take 16 (drop i b) ≡ take 8 (drop i b) ++ take 8 (drop (i + 8) b) = take-add 8 8 (drop i b) ∙ ap (λ l. take 8 (drop i b) ++ take 8 l) (drop-drop 8 i b) in
    sym (ap (λ n. take n (drop i b)) (sym span) ∙ cut ∙ ap₂ ◌++◌ (number_bytes b i x.old small (omega arith) refl) (number_bytes b (i + 8) x.new small (omega arith) refl))

-- the first sixteen bytes, by the entry that they read as
entry_bytes : (b : Bytes) (x : Exception) → Small b → 16 ≤ length b → entry_from b 0 ≡ x → take 16 b ≡ entry x
entry_bytes b x small room is = sym (entry_written_again b 0 small room) ∙ ap entry is

entry_later : (b : Bytes) (r : ℕ) → entry_from (drop 16 b) (16 * r) ≡ entry_from b (16 * suc r)
entry_later b r =
    let a : 16 + 16 * r ≡ 16 * suc r = omega arith in
    let a' : 16 + (16 * r + 8) ≡ 16 * suc r + 8 = omega arith in
    let n : 16 * r + 8 - 16 * r ≡ 16 * suc r + 8 - 16 * suc r = omega arith in
    let n' : 16 * r + 8 + 8 - (16 * r + 8) ≡ 16 * suc r + 8 + 8 - (16 * suc r + 8) = omega arith in
    let old = ap value (ap₂ (λ k l. take k l) n (drop-drop (16 * r) 16 b ∙ ap (λ k. drop k b) a)) in
    let new = ap value (ap₂ (λ k l. take k l) n' (drop-drop (16 * r + 8) 16 b ∙ ap (λ k. drop k b) a')) in
    λ i. record { old = old i; new = new i }

-- bytes that read as the entries of a list are that list's
entries_bytes : (l : List Exception) (b : Bytes) → Small b → 16 * length l ≤ length b → ((r : ℕ) → r < length l → entry_from b (16 * r) ≡ get_or l r nothing) → take (16 * length l) b ≡ flat_map entry l
entries_bytes [] b small room is = refl
entries_bytes (x ∷ xs) b small room is =
    let size : 16 * length (x ∷ xs) ≡ 16 + 16 * length xs = omega arith in
    let left = length-drop 16 b in
    let rest = entries_bytes xs (drop 16 b) (All-drop _ 16 b small) (omega arith) (λ r h. entry_later b r ∙ is (suc r) (omega arith)) in
    ap (λ n. take n b) size ∙ take-add 16 (16 * length xs) b ∙ ap₂ ◌++◌ (entry_bytes b x small (omega arith) (is 0 (omega arith))) rest

-- the picture of a list in a sector, from bytes with its entries
pub sector_pic : (es : List Exception) (j n : ℕ) (b : Bytes) → length (take 32 (drop (32 * j) es)) ≡ n → length b ≡ 512 → Small b → ((r : ℕ) → r < n → entry_from b (16 * r) ≡ get_or es (32 * j + r) nothing) → take (16 * n) b ++ replicate (512 - 16 * n) 0 ≡ pic es j
sector_pic es j n b count long small is =
    let part = take 32 (drop (32 * j) es) in
    let few = length-take 32 (drop (32 * j) es) in
    let same : take (16 * length part) b ≡ flat_map entry part = entries_bytes part b small (omega arith) (λ r h. is r (omega arith) ∙ sym (get_or-take 32 (drop (32 * j) es) r nothing (omega arith) ∙ get_or-drop (32 * j) es r nothing)) in
    let size : length (flat_map entry part) ≡ 16 * n = length_entries part ∙ ap (λ k. 16 * k) count in
    ap₂ (λ k l. take (16 * k) b ++ replicate (512 - l) 0) (sym count) (sym size) ∙ ap (λ l. l ++ replicate (512 - length (flat_map entry part)) 0) same

-- bytes that are all zero
pub zeros_are : (b : Bytes) → all_zero b ≡ true → b ≡ replicate (length b) 0
zeros_are [] h = refl
zeros_are (x ∷ xs) h =
    let p = and_parts (eqb x 0) (all_zero xs) h in
    ap₂ (λ y l. y ∷ l) (eqb-true x 0 p.0) (zeros_are xs p.1)
