-- What the calls of a store leave, good or broken off, and after any power cut.
use Rattle.std.specs.Prelude.{◌≡◌, ℕ, ◌-◌, ◌/◌, ◌^◌, ◌<◌, true, ◌⊎◌, List, [], length, Some}
use Rattle.device.specs.Disk.{Disk, Told, good, refused, Cut}
use Rattle.device.specs.Plans.{Runs, one, lifted}
use Rattle.layout.specs.declared.chunk.ChunkSize.{ChunkSize}
use Rattle.layout.specs.declared.exception.Exception.{Exception}
use Rattle.layout.specs.Chunks.{sectors}
use Rattle.exceptions.specs.Table.{entries_at_most, last_run, room}
use Rattle.store.specs.Image.{Sizes, well_shaped}
use Rattle.store.specs.Refusals.{StoreRefusal, StoreSteps, because, up}
use Rattle.store.specs.Steps.{shape_of, making, spoiling, enter, drop_run}
use Rattle.recovery.specs.Readings.{image, found}
use Rattle.recovery.specs.Standing.{Stands, Presence, Finds, Lies}
use Rattle.recovery.specs.Breaks.{more, MakingLeaves, SpoilingLeaves, AfterDropping}

-- making a store, with chunks of so many sectors
abbrev pub make : ℕ → StoreSteps (Unit {0})
make c = lifted up (making c)

-- spoiling a store
abbrev pub spoil : ℕ → StoreSteps (Unit {0})
spoil c = lifted up (spoiling c)

-- making a store, when it is good: an empty list stands
abbrev pub MakeStands : Type 0
MakeStands = (z : Sizes) (size : ChunkSize) (d e : Disk) → well_shaped z (sectors size) ≡ true → Runs one (make (sectors size)) d (good tt) e → Stands z size [] e

-- making a store, wherever it breaks off
abbrev pub MakeBreaks : Type 0
MakeBreaks = MakingLeaves make Finds

abbrev pub MakeLies : Type 0
MakeLies = MakingLeaves make Lies

-- entering an old chunk, when it is good: the list that is remembered stands
abbrev pub EnterStands : Type 0
EnterStands =
    (z : Sizes) (size : ChunkSize) (es table : List Exception) (old : ℕ) (d e : Disk) → z.origin < 2 ^ 32 → z.cow < 2 ^ 32 →
    Stands z size es d → Runs one (enter (shape_of z size) es old) d (good table) e → Stands z size table e

-- entering an old chunk, wherever it breaks off: the list is there as it was, or with this chunk at the next place
abbrev pub EnterLeaves : Presence → Type 0
EnterLeaves There =
    (z : Sizes) (size : ChunkSize) (es : List Exception) (old : ℕ) (d e after : Disk) (t : Told StoreRefusal (List Exception)) → z.origin < 2 ^ 32 → z.cow < 2 ^ 32 →
    Stands z size es d → Runs one (enter (shape_of z size) es old) d t e → Cut e after →
    There z size es (image after) ⊎ ((p : ℕ) × (room entries_at_most (sectors size) (z.cow / sectors size) es ≡ Some p) × There z size (more es (record { old = old; new = p })) (image after))

abbrev pub EnterBreaks : Type 0
EnterBreaks = EnterLeaves Finds

abbrev pub EnterLies : Type 0
EnterLies = EnterLeaves Lies

-- dropping the last run, when it is good: the list that is remembered stands
abbrev pub DropStands : Type 0
DropStands =
    (z : Sizes) (size : ChunkSize) (es table : List Exception) (d e : Disk) →
    Stands z size es d → Runs one (drop_run (sectors size) es) d (good table) e → Stands z size table e

-- dropping the last run, wherever it breaks off
abbrev pub DropLeaves : Presence → Type 0
DropLeaves There =
    (z : Sizes) (size : ChunkSize) (es : List Exception) (d e after : Disk) (t : Told StoreRefusal (List Exception)) →
    Stands z size es d → Runs one (drop_run (sectors size) es) d t e → Cut e after →
    AfterDropping There z size es (length es - last_run (sectors size) es) (image after)

abbrev pub DropBreaks : Type 0
DropBreaks = DropLeaves Finds

abbrev pub DropLies : Type 0
DropLies = DropLeaves Lies

-- spoiling, when it is good: whatever a power cut leaves, the store is invalid
abbrev pub SpoilStays : Type 0
SpoilStays =
    (z : Sizes) (size : ChunkSize) (d e after : Disk) →
    well_shaped z (sectors size) ≡ true → Runs one (spoil (sectors size)) d (good tt) e → Cut e after → found z (image after) ≡ refused (because 6 0 0)

-- spoiling, wherever it breaks off
abbrev pub SpoilBreaks : Type 0
SpoilBreaks = SpoilingLeaves spoil Finds

abbrev pub SpoilLies : Type 0
SpoilLies = SpoilingLeaves spoil Lies
