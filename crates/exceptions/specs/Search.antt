-- The first match in a list.
use Rattle.std.specs.Prelude.{ℕ, ◌+◌, cond, List, [], ◌∷◌, Some, None, Option, ◌==◌}

-- the place of the first record whose key is k, counted on from i; nothing where there is none
abbrev pub first_from : {X : Type 0} → (X → ℕ) → ℕ → ℕ → List X → Option ℕ
first_from key k i [] = None
first_from key k i (x ∷ xs) = cond (key x == k) (Some i) (first_from key k (i + 1) xs)

-- its place in the list
abbrev pub first : {X : Type 0} → (X → ℕ) → ℕ → List X → Option ℕ
first key k xs = first_from key k 0 xs
