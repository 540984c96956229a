-- The numbers of a store whose chunks are one sector, at its edges.
use Rattle.std.specs.Prelude.{◌≡◌, ℕ, zero, suc, List, [], ◌∷◌, ◌++◌, length, Some, None}
use Rattle.layout.specs.declared.exception.Exception.{Exception}
use Rattle.layout.specs.Chunks.{area_chunk}
use Rattle.exceptions.specs.Table.{entries_at_most, next_place, room, last_run, without_run}

-- an exception by its two numbers
abbrev pub exception : ℕ → ℕ → Exception
exception old new = record { old = old; new = new }

-- a list that grew to n exceptions, of the old chunks 0, 1 and so on
abbrev pub grown : ℕ → ℕ → List Exception
grown c zero = []
grown c (suc n) = let table = grown c n in table ++ (exception n (next_place c table) ∷ [])

-- the new chunk of exception n
abbrev pub new_chunk : ℕ → ℕ → ℕ
new_chunk c n = next_place c (grown c n)

-- how many exceptions a list has once no more may be entered, or n were
abbrev pub filled : ℕ → ℕ → ℕ → List Exception → ℕ
filled c chunks zero table = length table
filled c chunks (suc n) table =
    elim (room entries_at_most c chunks table) [ None ↦ length table | Some place ↦ filled c chunks n (table ++ (exception (length table) place ∷ [])) ]

-- how many exceptions fit on a device of some chunks
abbrev pub capacity : ℕ → ℕ → ℕ
capacity c chunks = filled c chunks entries_at_most []

-- four exceptions: a run of three, and one by itself
abbrev pub four : List Exception
four = exception 5 2 ∷ exception 6 3 ∷ exception 7 4 ∷ exception 3 5 ∷ []

-- the last run of a list is so long, and so many exceptions are left without it
abbrev pub Drops : List Exception → ℕ → ℕ → Type 0
Drops table run left = (last_run 1 table ≡ run) × (length (without_run 1 table) ≡ left)

-- Areas at 1, 34 and 67; exceptions 31 and 32 at 33 and 35; devices of 3, 34, 35 and 36 sectors hold 1, 31, 32 and 33 exceptions;
-- four exceptions go in runs of 1 and 3, and then there is none
abbrev pub Edges : Type 0
Edges =
    ((area_chunk 1 0 ≡ 1) × (area_chunk 1 1 ≡ 34) × (area_chunk 1 2 ≡ 67))
    × ((new_chunk 1 31 ≡ 33) × (new_chunk 1 32 ≡ 35))
    × ((capacity 1 3 ≡ 1) × (capacity 1 34 ≡ 31) × (capacity 1 35 ≡ 32) × (capacity 1 36 ≡ 33))
    × (Drops four 1 3 × Drops (without_run 1 four) 3 0 × Drops (without_run 1 (without_run 1 four)) 0 0)
