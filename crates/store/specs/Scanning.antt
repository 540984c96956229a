-- How an opening reads the areas: each is read whole, and then its entries are looked at in order.
use Rattle.std.specs.Prelude.{ℕ, zero, suc, ◌+◌, ◌/◌, cond, List, [], ◌∷◌, ◌++◌, length, ◌==◌, nat_le}
use Rattle.device.specs.Disk.{Bytes, Told, good, refused}
use Rattle.device.specs.Plans.{done, bind, onward, raised, gathering}
use Rattle.layout.specs.declared.exception.Exception.{Exception}
use Rattle.layout.specs.Chunks.{per_area, area_start}
use Rattle.layout.specs.Entries.{nth_entry}
use Rattle.exceptions.specs.Table.{entries_at_most}
use Rattle.store.specs.declared.shape.Shape.{Shape}
use Rattle.store.specs.Judge.{width, damaged}
use Rattle.store.specs.Refusals.{StoreRefusal, because, up, StoreSteps}

-- what the entries of one area come to: all are exceptions, an end entry at a place, one too many, or a damaged one at a place
pub data Parsed : Type 0 where
  full : List Exception → Parsed
  over : List Exception → ℕ → Parsed
  many : Parsed
  wrong : ℕ → Parsed

-- an entry x at place k of area a after the exceptions es, and else what is next
abbrev pub judged : Shape → ℕ → ℕ → List Exception → Exception → Parsed → Parsed
judged s a k es x next = cond (x.new == 0) (over es k) (cond (nat_le entries_at_most (length es)) many (cond (damaged s a k es x) (wrong k) next))

-- the next m entries of area a, from place k on, in the area's bytes
abbrev pub parsed : Shape → ℕ → Bytes → ℕ → ℕ → List Exception → Parsed
parsed s a bytes zero k es = full es
parsed s a bytes (suc m) k es = judged s a k es (nth_entry bytes k) (parsed s a bytes m (k + 1) (es ++ (nth_entry bytes k ∷ [])))

-- where a list ends: the exceptions, the area and the place of the end entry, and the bytes of that area
pub record Ending : Type 0 where
  pub table : List Exception
  pub area : ℕ
  pub place : ℕ
  pub bytes : Bytes

-- an ending by its parts
abbrev pub ending : List Exception → ℕ → ℕ → Bytes → Ending
ending es a k bytes = record { table = es; area = a; place = k; bytes = bytes }

-- what an area comes to, and else what is next
abbrev pub concluded : {A : Type 0} → (Told StoreRefusal Ending → A) → ℕ → Bytes → Parsed → (List Exception → A) → A
concluded said a bytes (full es) next = next es
concluded said a bytes (over es k) next = said (good (ending es a k bytes))
concluded said a bytes many next = said (refused (because 14 0 0))
concluded said a bytes (wrong k) next = said (refused (because 13 a k))

-- as many areas as may be full before the list is too long
abbrev pub most_areas : ℕ
most_areas = entries_at_most / 32 + 1

-- at most m areas, from area a on
unfoldable pub scanning : Shape → ℕ → ℕ → List Exception → StoreSteps Ending
scanning s zero a es = done (refused (because 14 0 0))
scanning s (suc m) a es =
    bind (gathering (area_start (width s) a) (width s) [])
    (λ t. onward (raised up t) (λ bytes. concluded done a bytes (parsed s a bytes (per_area (width s)) 0 es) (scanning s m (a + 1))))
