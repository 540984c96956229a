-- The entries of a sector, one by one.
use Rattle.std.proofs.Common.{◌≡◌, ℕ, zero, suc, ◌+◌, ◌-◌, ◌*◌, ◌/◌, ◌<◌, ◌≤◌, Option, Some, None, Bor, List, [], ◌∷◌, ◌++◌, length, get_or, take, drop, replicate, sym, refl, ap, ◌∙◌, ap₂, ⊎_elim, append_assoc, lit≤, arith, rules, tests}
use Rattle.std.specs.List.{between, flat_map, enumerate_from}
use Rattle.std.specs.Option.{UnwrapsOrElse}
use Rattle.std.specs.Slice.{IsGetRangeResult}
use Rattle.std.proofs.lemmas.Slice.{between_to_end}
use Rattle.std.specs.Slice.Iter.{iter_rest}
use Rattle.std.specs.Iterator.Adapters.{take_source, take_count, take_steps, enumerate_source, enumerate_count, enumerate_steps}
use Rattle.std.proofs.iter.Yields.{fronts}
use Rattle.std.proofs.lemmas.Iterator.{YieldsList, YieldsList-from_slice, YieldsList-from_take}
use Rattle.std.proofs.lemmas.Iterator.Consumers.{YieldsList-from_enumerate}
use Rattle.std.proofs.lemmas.List.FromFn.{length-enumerate_from, get_or-enumerate_from}
use Rattle.std.specs.Simd.{first_chunks}
use Rattle.std.proofs.lemmas.List.{take_at, drop_at, drop_all, take_all, take_more, flat_map_more, length-append, drop-replicate, take-take, drop-take, drop-drop}
use Rattle.layout.specs.declared.exception.Exception.{Exception}
use Rattle.layout.specs.Entries.{entry, entry_from, nth_entry, padded}
use Rattle.layout.proofs.Made.{length_entries-take}
use borrow.Rule.Slice.PartMut.{put_mid}
use Rattle.layout.specs.Numbers.{value}

get_or-first_chunks : (k : ℕ) (bs : List ℕ) (i : ℕ) (d : List ℕ) → i < k → get_or (first_chunks 16 k bs) i d ≡ take 16 (drop (16 * i) bs)
get_or-first_chunks zero bs i d h = absurd (omega arith)
get_or-first_chunks (suc k) bs zero d h = refl
get_or-first_chunks (suc k) bs (suc i) d h =
    let place : 16 + 16 * i ≡ 16 * suc i = omega arith in
    get_or-first_chunks k (drop 16 bs) i d (omega arith) ∙ ap (take 16) (drop-drop (16 * i) 16 bs ∙ ap (λ n. drop n bs) place)

entry_from-take : (bs : List ℕ) (at : ℕ) → entry_from (take 16 (drop at bs)) 0 ≡ entry_from bs at
entry_from-take bs at =
    let eight : 8 ≡ at + 8 - at = omega arith in
    let next : 8 ≡ at + 8 + 8 - (at + 8) = omega arith in
    let old : take 8 (take 16 (drop at bs)) ≡ between at (at + 8) bs = take-take 8 16 (drop at bs) (lit≤ tt) ∙ ap (λ n. take n (drop at bs)) eight in
    let new : take 8 (drop 8 (take 16 (drop at bs))) ≡ between (at + 8) (at + 8 + 8) bs = ap (take 8) (drop-take 8 8 (drop at bs) ∙ ap (take 8) (drop-drop 8 at bs)) ∙ take-take 8 8 (drop (at + 8) bs) (lit≤ tt) ∙ ap (λ n. take n (drop (at + 8) bs)) next in
    λ i. record { old = value (old i); new = value (new i) }

-- entry k is in chunk k
pub entry_from-chunk : (bs : List ℕ) (k : ℕ) (d : List ℕ) → k < length bs / 16 → entry_from (get_or (first_chunks 16 (length bs / 16) bs) k d) 0 ≡ nth_entry bs k
entry_from-chunk bs k d h =
    let within : 16 * k + 16 ≤ length bs = omega arith in
    ap (λ x. entry_from x 0) (get_or-first_chunks (length bs / 16) bs k d h) ∙ entry_from-take bs (16 * k) ∙ search (rules, tests)

-- what `get(n..).unwrap_or_default()` gives
rest_is : (xs : List Exception) (n : ℕ) (part : Option (Bor (List Exception))) (rest : Bor (List Exception)) → IsGetRangeResult xs n (length xs) part → UnwrapsOrElse part (λ x. x.now ≡ []) rest → rest.now ≡ drop n xs
rest_is xs n None rest got is = is ∙ sym (drop_all n xs (⊎_elim (λ l. omega arith) (λ l. omega arith) got.0))
rest_is xs n (Some part) rest got is = ap (λ x. x.now) is ∙ got.0.2 ∙ between_to_end xs n (length xs) (omega arith)

-- the items of `get(n..).unwrap_or_default().iter().take(m).enumerate()`
pub numbered : (xs : List Exception) (n m : ℕ) (part : Option (Bor (List Exception))) (rest : Bor (List Exception)) {s : _} → IsGetRangeResult xs n (length xs) part → UnwrapsOrElse part (λ x. x.now ≡ []) rest → iter_rest (take_source (enumerate_source s)) ≡ rest.now → take_count (enumerate_source s) ≡ m → enumerate_count s ≡ 0 → YieldsList (enumerate_steps (take_steps fronts)) (λ p. (p.0, p.1.now)) s (enumerate_from 0 (take m (drop n xs)))
numbered xs n m part rest got is a b c = YieldsList-from_enumerate (YieldsList-from_take m (YieldsList-from_slice (drop n xs) (a ∙ rest_is xs n part rest got is)) b) c

-- the item whose turn it is
item_is : (part : List Exception) (n k : ℕ) (e : Exception) → (n < length (enumerate_from 0 part)) × ((k, e) ≡ get_or (enumerate_from 0 part) n (k, e)) → (n < length part) × (k ≡ n) × (e ≡ get_or part n e)
item_is part n k e turn =
    let within : n < length part = omega (arith, turn.0, length-enumerate_from 0 part) in
    let both = turn.1 ∙ get_or-enumerate_from 0 part n (k, e) within in
    (within, omega (arith, ap (λ (p : ℕ × Exception). p.0) both), ap (λ (p : ℕ × Exception). p.1) both)

-- the next part, right after what is there
pub put_next : (xs zs ys : List ℕ) (a k : ℕ) → length xs ≡ a → put_mid a k (xs ++ zs) ys ≡ xs ++ (ys ++ drop k zs)
put_next xs zs ys a k h = ap₂ (λ l r. l ++ (ys ++ drop k r)) (take_at xs zs a h) (drop_at xs zs a h)

drop_zeros : (n m k : ℕ) → m - n ≡ k → drop n (replicate {A = ℕ} m 0) ≡ replicate k 0
drop_zeros n m k e = drop-replicate n m 0 ∙ ap (λ i. replicate i 0) e

padded_more : (xs ys : List ℕ) (a : ℕ) → length xs ≡ a → length ys ≡ 16 → put_mid a (a + 16 - a) (padded xs) ys ≡ padded (xs ++ ys)
padded_more xs ys a h l =
    let sixteen : a + 16 - a ≡ 16 = omega arith in
    let fewer : 512 - length xs - 16 ≡ 512 - length (xs ++ ys) = omega (arith, length-append xs ys) in
    ap (λ n. put_mid a n (padded xs) ys) sixteen
    ∙ put_next xs (replicate (512 - length xs) 0) ys a 16 h
    ∙ sym (append_assoc xs ys (drop 16 (replicate (512 - length xs) 0)))
    ∙ ap (λ zs. (xs ++ ys) ++ zs) (drop_zeros 16 (512 - length xs) (512 - length (xs ++ ys)) fewer)

pub entries_more : (part : List Exception) (n m k : ℕ) (e : Exception) {was ys : List ℕ} → (n < length (enumerate_from 0 part)) × ((k, e) ≡ get_or (enumerate_from 0 part) n (k, e)) → m ≡ n + 1 → was ≡ padded (flat_map entry (take n part)) → ys ≡ entry e → put_mid (16 * k) (16 * k + 16 - 16 * k) was ys ≡ padded (flat_map entry (take m part))
entries_more part n m k e turn more before now =
    let item = item_is part n k e turn in
    let long : length (flat_map entry (take n part)) ≡ 16 * k = omega (arith, length_entries-take part n (omega arith)) in
    let list : take n part ++ e ∷ [] ≡ take m part = ap (λ x. take n part ++ x ∷ []) item.2 ∙ sym (take_more part n e item.0) ∙ ap (λ i. take i part) (sym more) in
    (λ i. put_mid (16 * k) (16 * k + 16 - 16 * k) (before i) (now i))
    ∙ padded_more (flat_map entry (take n part)) (entry e) (16 * k) long refl
    ∙ ap padded (flat_map_more entry [] (take n part) e ∙ ap (flat_map entry) list)

-- every item has had its turn
pub entries_all : (part : List Exception) (n : ℕ) {was : List ℕ} → n ≡ length (enumerate_from 0 part) → was ≡ padded (flat_map entry (take n part)) → was ≡ padded (flat_map entry part)
entries_all part n e before = before ∙ ap (λ l. padded (flat_map entry l)) (take_all n part (omega (arith, length-enumerate_from 0 part)))
