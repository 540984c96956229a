-- What a call of a store leaves, good or broken off, and after any power cut. Where it leaves a list, each theorem is of a list that is
-- there in some way, and is named for both: that opening finds it, and that it lies there.
use Rattle.std.specs.Prelude.{◌≡◌, ℕ, ◌/◌, ◌^◌, ◌<◌, ◌≤◌, true, false, ◌⊎◌, List, [], ◌∷◌, ◌++◌, length, take, Some}
use Rattle.std.specs.List.{AllByRecursion, ContainsAt as Has}
use Rattle.device.specs.Disk.{Bytes, Disk, possibilities, Told, good, refused, Refusal, Whole, Cut}
use Rattle.device.specs.Plans.{Plan, Runs, one}
use Rattle.layout.specs.declared.chunk.ChunkSize.{ChunkSize}
use Rattle.layout.specs.declared.exception.Exception.{Exception}
use Rattle.layout.specs.Chunks.{sectors, is_data}
use Rattle.exceptions.specs.Table.{entries_at_most, has_old, room}
use Rattle.store.specs.Image.{Sizes, well_shaped}
use Rattle.store.specs.Refusals.{StoreRefusal, because}
use Rattle.store.specs.Steps.{Contents, shape_of, opening, making, entering, dropping, spoiling}
use Rattle.recovery.specs.Readings.{Image, image, found}
use Rattle.recovery.specs.Standing.{Within, Standing, Listed, Stands, Presence, Finds, Legible, Lies}

-- the list with one more exception
abbrev pub more : List Exception → Exception → List Exception
more es x = es ++ (x ∷ [])

-- what the store enters: an old chunk of the origin that has no copy, at the next place; an opening takes the longer list
abbrev pub EnteringListed : Type 0
EnteringListed =
    (z : Sizes) (size : ChunkSize) (es : List Exception) (old p : ℕ) → z.origin < 2 ^ 32 → z.cow < 2 ^ 32 →
    Listed z size es → has_old es old ≡ false → old < z.origin / sectors size → room entries_at_most (sectors size) (z.cow / sectors size) es ≡ Some p →
    Listed z size (more es (record { old = old; new = p }))

-- entering, wherever it breaks off: the list is there with or without the new exception
abbrev pub EnteringLeaves : Presence → Type 0
EnteringLeaves There =
    (z : Sizes) (size : ChunkSize) (es : List Exception) (x : Exception) (d e after : Disk) (t : Told Refusal (Unit {0})) →
    Stands z size es d → Listed z size (more es x) → Runs one (entering (sectors size) (more es x) (length es)) d t e → Cut e after →
    There z size es (image after) ⊎ There z size (more es x) (image after)

abbrev pub EnteringBreaks : Type 0
EnteringBreaks = EnteringLeaves Finds

abbrev pub EnteringLies : Type 0
EnteringLies = EnteringLeaves Lies

-- entering, when it is good: the longer list stands
abbrev pub EnteringStands : Type 0
EnteringStands =
    (z : Sizes) (size : ChunkSize) (es : List Exception) (x : Exception) (d e : Disk) →
    Stands z size es d → Listed z size (more es x) → Runs one (entering (sectors size) (more es x) (length es)) d (good tt) e → Stands z size (more es x) e

-- making, when it is good: an empty list stands
abbrev pub MakingStands : Type 0
MakingStands = (z : Sizes) (size : ChunkSize) (d e : Disk) → well_shaped z (sectors size) ≡ true → Runs one (making (sectors size)) d (good tt) e → Stands z size [] e

-- what may be left of a making that began on d: all is as it was, or there is no store, or an empty list
abbrev pub AfterMaking : Presence → Sizes → ChunkSize → Disk → Disk → Type 0
AfterMaking There z size d after =
    ((s : ℕ) → Has (possibilities (d.cells s)) (image after s)) ⊎ ((found z (image after) ≡ refused (because 10 0 0)) ⊎ There z size [] (image after))

abbrev pub LeftByMaking : Sizes → ChunkSize → Disk → Disk → Type 0
LeftByMaking = AfterMaking Finds

abbrev pub LyingByMaking : Sizes → ChunkSize → Disk → Disk → Type 0
LyingByMaking = AfterMaking Lies

-- making by a plan, the steps or the store's call, wherever it breaks off
abbrev pub MakingLeaves : {F : Type 0} → (ℕ → Plan (Unit {0}) (Told F (Unit {0}))) → Presence → Type 0
MakingLeaves {F} plan There =
    (z : Sizes) (size : ChunkSize) (d e after : Disk) (t : Told F (Unit {0})) → well_shaped z (sectors size) ≡ true →
    Runs one (plan (sectors size)) d t e → Cut e after →
    AfterMaking There z size d after

abbrev pub MakingBreaks : Type 0
MakingBreaks = MakingLeaves making Finds

abbrev pub MakingLies : Type 0
MakingLies = MakingLeaves making Lies

-- spoiling by a plan, likewise: the list is there, or the store is invalid
abbrev pub SpoilingLeaves : {F : Type 0} → (ℕ → Plan (Unit {0}) (Told F (Unit {0}))) → Presence → Type 0
SpoilingLeaves {F} plan There =
    (z : Sizes) (size : ChunkSize) (es : List Exception) (d e after : Disk) (t : Told F (Unit {0})) →
    Stands z size es d → Runs one (plan (sectors size)) d t e → Cut e after →
    There z size es (image after) ⊎ (found z (image after) ≡ refused (because 6 0 0))

abbrev pub SpoilingBreaks : Type 0
SpoilingBreaks = SpoilingLeaves spoiling Finds

abbrev pub SpoilingLies : Type 0
SpoilingLies = SpoilingLeaves spoiling Lies

-- dropping the exceptions from k on, when it is good: the beginning stands
abbrev pub DroppingStands : Type 0
DroppingStands =
    (z : Sizes) (size : ChunkSize) (es : List Exception) (k : ℕ) (d e : Disk) →
    Stands z size es d → k < length es → Runs one (dropping (sectors size) (take k es) (length es)) d (good tt) e → Stands z size (take k es) e

-- what may be left of dropping the exceptions from k on: any number of them may have left, from the end
abbrev pub AfterDropping : Presence → Sizes → ChunkSize → List Exception → ℕ → Image → Type 0
AfterDropping There z size es k m = (i : ℕ) × (k ≤ i) × (i ≤ length es) × There z size (take i es) m

-- dropping them, wherever it breaks off
abbrev pub DroppingLeaves : Presence → Type 0
DroppingLeaves There =
    (z : Sizes) (size : ChunkSize) (es : List Exception) (k : ℕ) (d e after : Disk) (t : Told Refusal (Unit {0})) →
    Stands z size es d → k ≤ length es → Runs one (dropping (sectors size) (take k es) (length es)) d t e → Cut e after →
    AfterDropping There z size es k (image after)

abbrev pub DroppingBreaks : Type 0
DroppingBreaks = DroppingLeaves Finds

abbrev pub DroppingLies : Type 0
DroppingLies = DroppingLeaves Lies

-- one possibility a sector, of 512 bytes, as a power cut leaves them
pub record Sure (d : Disk) : Type 0 where
  pub single : (s : ℕ) → (d.cells s).older ≡ []
  pub long : (s : ℕ) → s < d.count → length (image d s) ≡ 512

-- what is left of any device is so
abbrev pub CutSure : Type 0
CutSure = (d after : Disk) → Whole d → Cut d after → Sure after

-- opening, wherever it breaks off: the same list is there again
abbrev pub OpeningKeeps : Presence → Type 0
OpeningKeeps There =
    (z : Sizes) (size : ChunkSize) (es : List Exception) (d e after : Disk) (t : Told StoreRefusal Contents) →
    z.cow ≡ d.count → Sure d → There z size es (image d) → Runs one (opening z 8192) d t e → Cut e after → There z size es (image after)

abbrev pub OpeningBreaks : Type 0
OpeningBreaks = OpeningKeeps Finds

abbrev pub OpeningLies : Type 0
OpeningLies = OpeningKeeps Lies

-- opening, when it is good, on a device that is so: the list stands
abbrev pub OpeningStandsWhere : (Disk → ChunkSize → List Exception → Type 0) → Type 0
OpeningStandsWhere So =
    (z : Sizes) (size : ChunkSize) (es : List Exception) (d e : Disk) → z.origin < 2 ^ 32 → z.cow < 2 ^ 32 →
    z.cow ≡ d.count → Sure d → So d size es → Runs one (opening z 8192) d (good (record { size = size; table = es })) e → Stands z size es e

-- every sector holds bytes
abbrev pub OpeningStands : Type 0
OpeningStands = OpeningStandsWhere (λ d size es. (s : ℕ) → s < d.count → AllByRecursion (λ b. b < 256) (image d s))

-- the list's own sectors do
abbrev pub LegibleStands : Type 0
LegibleStands = OpeningStandsWhere (λ d size es. Legible size es (image d))

-- opening where a list stands writes nothing
abbrev pub OpeningStanding : Type 0
OpeningStanding =
    (z : Sizes) (size : ChunkSize) (es : List Exception) (d e : Disk) (t : Told StoreRefusal Contents) →
    Stands z size es d → Runs one (opening z 8192) d t e → e.cells ≡ d.cells

-- entering, wherever it breaks off: each possibility of each sector is one that the old list allows, or each data sector has one
-- possibility, what it read before; so once the entry is possible, all data lasts
abbrev pub EnteringOrder : Type 0
EnteringOrder =
    (z : Sizes) (size : ChunkSize) (es : List Exception) (x : Exception) (d e : Disk) (t : Told Refusal (Unit {0})) →
    Stands z size es d → Listed z size (more es x) → Runs one (entering (sectors size) (more es x) (length es)) d t e →
    Within (Standing (shape_of z size) es) e ⊎ ((s : ℕ) (b : Bytes) → is_data (sectors size) (s / sectors size) ≡ true → Has (possibilities (e.cells s)) b → b ≡ image d s)
