-- The last run and the next place, as a table finds them.
use Rattle.std.proofs.Common.{◌≡◌, ℕ, zero, suc, ◌+◌, ◌^◌, ◌<◌, max, true, false, List, [], ◌∷◌, ◌++◌, map, length, take, refl, ap, ◌∙◌, add-one, rules, subst, sym, arith, Option, Some, IfSome}
use Rattle.std.specs.List.{fold, reduce, prefix_len, take_while}
use Rattle.std.specs.declared.ops.Range.{Range}
use Rattle.std.specs.declared.iter.Rev.{Rev}
use Rattle.std.specs.Iterator.Adapters.{rev_source, rev_steps}
use Rattle.std.proofs.iter.runs.Sources.{nat_range_steps_back}
use Rattle.std.proofs.lemmas.List.Folds.{length-prefix_len}
use Rattle.std.proofs.lemmas.Iterator.{YieldsList}
use Rattle.std.proofs.lemmas.Iterator.Splits.{YieldsList-from_shown_while}
use Rattle.layout.specs.declared.exception.Exception.{Exception}
use Rattle.layout.specs.Chunks.{is_data}
use Rattle.layout.specs.Entries.{nothing}
use Rattle.exceptions.specs.Table.{Below, news, largest, past_area, next_place, linked, reach, last_run}

-- the numbers below n, the last first, and the range that yields them
abbrev pub downs : ℕ → List ℕ
downs zero = []
downs (suc n) = n ∷ downs n

pub yields_downs : {s : Rev (Range ℕ)} (n : ℕ) → rev_source s ≡ record { start = 0; end = n } → YieldsList (rev_steps nat_range_steps_back) (λ x. x) s (downs n)
yields_downs {s} n is = subst (λ (r : Range ℕ). YieldsList (rev_steps nat_range_steps_back) (λ x. x) s (downs r.end)) is
    (YieldsList-from_shown_while (rev_steps nat_range_steps_back) (λ x. x) (λ r. downs (rev_source r).end) (λ r. (rev_source r).start ≡ 0)
    (λ r t z h. let e : (rev_source r).end ≡ 0 = omega arith in ap (λ k. length (downs k)) e)
    (λ r x t z h. (h.0 ∙ z, ap downs (h.1.2 ∙ add-one _) ∙ ap (λ k. k ∷ downs (rev_source t).end) (sym h.1.1)))
    s (ap (λ (r : Range ℕ). r.start) is))

-- the last run is the last exception, and so many before it as are linked from there on
reach_is : (c : ℕ) (es : List Exception) (n : ℕ) → prefix_len (linked c es) (downs n) ≡ reach c es n
reach_is c es zero = refl
reach_is c es (suc n) = grind (arith, reach_is c es n)

pub last_run_is : (c : ℕ) (es : List Exception) (n k : ℕ) → length es ≡ n + 1 → k ≡ length (take_while (linked c es) (downs n)) → k + 1 ≡ last_run c es
last_run_is c [] n k long is = absurd (omega arith)
last_run_is c (x ∷ xs) n k long is =
    let few : n ≡ length xs = omega arith in
    omega (arith, length-prefix_len (linked c (x ∷ xs)) (downs n), reach_is c (x ∷ xs) n, ap (reach c (x ∷ xs)) few)

-- the largest number, from the first on and from the last on
largest_from : (k : ℕ) (es : List Exception) → fold max k (map news es) ≡ max k (largest es)
largest_from k [] = omega arith
largest_from k (x ∷ xs) = omega (arith, largest_from (max k x.new) xs)

-- it has 32 bits where all have
pub largest_below : (es : List Exception) → Below news es → largest es < 2 ^ 32
largest_below [] b = omega arith
largest_below (x ∷ xs) b = let h = largest_below xs (λ i. b (suc i)) in let k = b 0 in omega arith

pub found_below : (es : List Exception) (k : Option ℕ) → Below news es → k ≡ reduce max (map news es) → IfSome k (λ n. n < 2 ^ 32)
found_below [] k b is = subst (λ m. IfSome m (λ n. n < 2 ^ 32)) (sym is) tt
found_below (x ∷ xs) k b is =
    let e : fold max x.new (map news xs) ≡ max x.new (largest xs) = largest_from x.new xs in
    let h : fold max x.new (map news xs) < 2 ^ 32 = omega (arith, e, largest_below (x ∷ xs) b) in
    subst (λ m. IfSome m (λ n. n < 2 ^ 32)) (sym is) h

-- where the largest is found
pub next_place_is : (c : ℕ) (es : List Exception) (k : ℕ) → Some k ≡ reduce max (map news es) → past_area c (k + 1) ≡ next_place c es
next_place_is c [] k is = cc
next_place_is c (x ∷ xs) k is =
    let e : k ≡ max x.new (largest xs) = search (rules, largest_from x.new xs) in
    ap (λ n. past_area c (n + 1)) e

-- the chunk after it is for data, or an area
module _ (c k : ℕ) where
  pub data_next : is_data c (k + 1) ≡ true → k + 1 ≡ past_area c (k + 1)
  data_next h = grind arith

  pub area_next : 0 < c → is_data c (k + 1) ≡ false → k + 1 + 1 ≡ past_area c (k + 1)
  area_next h e = grind arith

-- NUMBERS OF 32 BITS

module _ (number : Exception → ℕ) where
  none_below : (es : List Exception) → Below number es → number nothing < 2 ^ 32
  none_below [] b = b 0
  none_below (x ∷ xs) b = none_below xs (λ i. b (suc i))

  -- a list keeps them with one more exception, and so does its beginning
  pub push_below : (es : List Exception) (x : Exception) → Below number es → number x < 2 ^ 32 → Below number (es ++ x ∷ [])
  push_below [] x b h zero = h
  push_below [] x b h (suc i) = b 0
  push_below (y ∷ ys) x b h zero = b 0
  push_below (y ∷ ys) x b h (suc i) = push_below ys x (λ k. b (suc k)) h i

  pub take_below : (n : ℕ) (es : List Exception) → Below number es → Below number (take n es)
  take_below zero es b i = none_below es b
  take_below (suc n) [] b i = b 0
  take_below (suc n) (y ∷ ys) b zero = b 0
  take_below (suc n) (y ∷ ys) b (suc i) = take_below n ys (λ k. b (suc k)) i
