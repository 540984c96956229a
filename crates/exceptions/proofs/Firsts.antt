-- The first match is what `position` finds.
use Rattle.std.proofs.Common.{◌≡◌, ℕ, ◌+◌, cond, List, [], ◌∷◌, Some, refl, ap, ◌∙◌, ◌==◌}
use Rattle.std.specs.List.{position, position_from}
use Rattle.std.proofs.lemmas.Iterator.Adapters.{position_from-zero}
use Rattle.exceptions.specs.Search.{first_from, first}

module _ {X : Type 0} (key : X → ℕ) (k : ℕ) where
  counted_from : (i : ℕ) (xs : List X) → position_from (λ x. key x == k) i xs ≡ first_from key k i xs
  counted_from i [] = refl
  counted_from i (x ∷ xs) = ap (cond (key x == k) (Some i)) (counted_from (i + 1) xs)

  pub first_is : (xs : List X) → position (λ x. key x == k) xs ≡ first key k xs
  first_is xs = position_from-zero (λ x. key x == k) xs ∙ counted_from 0 xs
