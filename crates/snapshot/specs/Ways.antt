-- What a write does before its last step, and what it leaves of its work buffer.
use Rattle.std.specs.Prelude.{ℕ, ◌/◌, Bool, true, false, cond, List, [], ◌∷◌, length, Some, None, Option, ◌==◌}
use Rattle.device.specs.Disk.{Bytes}
use Rattle.device.specs.Plans.{Side, cow, Plan}
use Rattle.layout.specs.declared.chunk.ChunkSize.{ChunkSize}
use Rattle.layout.specs.declared.exception.Exception.{Exception}
use Rattle.layout.specs.Chunks.{sectors}
use Rattle.exceptions.specs.Table.{lookup}
use Rattle.store.specs.Steps.{spoiling}
use Rattle.history.specs.Faults.{Fault, at_side, store_fault}
use Rattle.history.specs.Steps.{Memory, closed, serving, invalid, Ground, Outcome, giving, refusing, while_serving, after, copying, next_free, first, not_stopped, opened, on_origin}
use Rattle.snapshot.specs.Pairs.{wiped}

-- the tests of an origin write after those of its buffers
abbrev pub place_tests : Ground → Memory → ℕ → Option Fault
place_tests g m s = first (not_stopped g ∷ opened m ∷ on_origin g s ∷ [])

-- a chunk without a copy is copied; without a place the store is spoilt, and the pair becomes invalid
abbrev pub way_diverging : Ground → ChunkSize → List Exception → ℕ → Option ℕ → Plan Side (Outcome Bool)
way_diverging g size table s None = after (serving size table) (at_side cow (spoiling (sectors size))) (λ _. giving invalid true)
way_diverging g size table s (Some p) = after (serving size table) (copying g size table (s / sectors size) p) (λ more. giving (serving size more) false)

-- by whether the chunk has a copy
abbrev pub way_served : Ground → ChunkSize → List Exception → ℕ → Option ℕ → Plan Side (Outcome Bool)
way_served g size table s None = way_diverging g size table s (next_free g size table)
way_served g size table s (Some p) = giving (serving size table) false

-- what is done before an origin write, and whether the pair became invalid by it
abbrev pub making_way : Ground → Memory → ℕ → Plan Side (Outcome Bool)
making_way g closed s = giving closed false
making_way g invalid s = giving invalid false
making_way g (serving size table) s = way_served g size table s (lookup table (s / sectors size))

-- the place of a copy, of a chunk that has none: it is copied there, or refused where there is no place
abbrev pub placing_free : Ground → ChunkSize → List Exception → ℕ → Option ℕ → Plan Side (Outcome ℕ)
placing_free g size table s None = refusing (serving size table) (store_fault 7 (s / sectors size) 0)
placing_free g size table s (Some p) = after (serving size table) (copying g size table (s / sectors size) p) (λ more. giving (serving size more) p)

-- by whether the chunk has a copy
abbrev pub placing_served : Ground → ChunkSize → List Exception → ℕ → Option ℕ → Plan Side (Outcome ℕ)
placing_served g size table s None = placing_free g size table s (next_free g size table)
placing_served g size table s (Some p) = giving (serving size table) p

-- what is done before a snapshot write, and where the copy stands then
abbrev pub placing : Ground → Memory → ℕ → Plan Side (Outcome ℕ)
placing g m s = while_serving m (λ size table. placing_served g size table s (lookup table (s / sectors size)))

-- what a call with a sector's bytes leaves of a work buffer: without both lengths it leaves it alone
abbrev pub wiped_with : Bytes → Bytes → Bytes
wiped_with bytes work = cond (length bytes == 512) (wiped work) work
