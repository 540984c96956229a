-- A list of exceptions that stands on a device, and how it is there in what a power cut leaves.
use Rattle.std.specs.Prelude.{◌≡◌, ℕ, ◌+◌, ◌*◌, ◌<◌, ◌≤◌, true, List, length}
use Rattle.std.specs.List.{ContainsAt as Has, AllByRecursion}
use Rattle.device.specs.Disk.{Bytes, possibilities, Disk, good}
use Rattle.layout.specs.declared.chunk.ChunkSize.{ChunkSize}
use Rattle.layout.specs.declared.exception.Exception.{Exception}
use Rattle.layout.specs.Chunks.{sectors, per_area, area_start}
use Rattle.layout.specs.Entries.{pic, Fits}
use Rattle.layout.specs.Headers.{header_read}
use Rattle.store.specs.declared.shape.Shape.{Shape}
use Rattle.store.specs.Image.{Sizes, well_shaped}
use Rattle.store.specs.Judge.{width}
use Rattle.store.specs.Steps.{shape_of}
use Rattle.recovery.specs.Readings.{Image, image, found}
use Rattle.recovery.specs.Holding.{Sound}

-- every possibility of every sector is allowed
abbrev pub Within : (ℕ → Bytes → Type 0) → Disk → Type 0
Within A d = (s : ℕ) (b : Bytes) → Has (possibilities (d.cells s)) b → A s b

-- a first sector that reads as a valid header
abbrev pub ValidHeader : ChunkSize → Bytes → Type 0
ValidHeader size b = header_read b ≡ good (record { valid = true; size = size })

-- what a sector of a store with a list may be: a valid header, and the pictures in the areas up to the one where the list ends
pub record Standing (s : Shape) (es : List Exception) (at : ℕ) (b : Bytes) : Type 0 where
  pub head : at ≡ 0 → ValidHeader s.size b
  pub areas : (a q : ℕ) → q < width s → per_area (width s) * a ≤ length es → at ≡ area_start (width s) a + q → b ≡ pic es (width s * a + q)

-- a list that an opening takes, on devices of these sizes
pub record Listed (z : Sizes) (size : ChunkSize) (es : List Exception) : Type 0 where
  pub shape : well_shaped z (sectors size) ≡ true
  pub sound : Sound (shape_of z size) es
  pub fits : AllByRecursion Fits es

-- a list stands on a device: whatever a power cut leaves, opening finds it; the header's sector has one possibility
pub record Stands (z : Sizes) (size : ChunkSize) (es : List Exception) (d : Disk) : Type 0 where
  pub listed : Listed z size es
  pub sectors : Within (Standing (shape_of z size) es) d
  pub single : (b : Bytes) → Has (possibilities (d.cells 0)) b → (d.cells 0).latest ≡ b

-- the header's sector, and each sector of the areas up to the one with the end entry, has one possibility, which it reads
pub record Alone (size : ChunkSize) (es : List Exception) (d : Disk) : Type 0 where
  pub head : (b : Bytes) → Has (possibilities (d.cells 0)) b → b ≡ image d 0
  pub areas : (a q : ℕ) (b : Bytes) → q < sectors size → per_area (sectors size) * a ≤ length es → Has (possibilities (d.cells (area_start (sectors size) a + q))) b → b ≡ image d (area_start (sectors size) a + q)

-- where a list stands they have
abbrev pub StandingAlone : Type 0
StandingAlone = (z : Sizes) (size : ChunkSize) (es : List Exception) (d : Disk) → Stands z size es d → Alone size es d

-- how a list may be there in an image: Finds, or Lies, which says more
abbrev pub Presence : Type 1
Presence = Sizes → ChunkSize → List Exception → Image → Type 0

-- opening finds the list
abbrev pub Finds : Presence
Finds z size es m = found z m ≡ good (record { size = size; table = es })

-- the sectors of the areas, up to the one where a list ends, hold bytes
abbrev pub Legible : ChunkSize → List Exception → Image → Type 0
Legible size es m = (a q : ℕ) → q < sectors size → per_area (sectors size) * a ≤ length es → AllByRecursion (λ b. b < 256) (m (area_start (sectors size) a + q))

-- opening finds the list, in sectors that hold bytes
pub record Lies (z : Sizes) (size : ChunkSize) (es : List Exception) (m : Image) : Type 0 where
  pub finds : Finds z size es m
  pub bytes : Legible size es m

-- a list that stands is there
abbrev pub StandingShows : Presence → Type 0
StandingShows There = (z : Sizes) (size : ChunkSize) (es : List Exception) (m : Image) → Listed z size es → ((s : ℕ) → Standing (shape_of z size) es s (m s)) → There z size es m

abbrev pub StandingOpens : Type 0
StandingOpens = StandingShows Finds

abbrev pub StandingLies : Type 0
StandingLies = StandingShows Lies
