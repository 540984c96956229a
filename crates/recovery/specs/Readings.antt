-- What opening finds, as one function of what the sectors of a COW device read.
use Rattle.std.specs.Prelude.{◌≡◌, ℕ, zero, suc, ◌+◌, ◌<◌, ◌≤◌, false, ◌⊎◌, List, [], ◌++◌, length}
use Rattle.device.specs.Disk.{Bytes, Disk, Told, good, refused, Refusal, refusal}
use Rattle.device.specs.Plans.{Runs, one}
use Rattle.layout.specs.declared.exception.Exception.{Exception}
use Rattle.layout.specs.Chunks.{per_area, area_start}
use Rattle.store.specs.declared.shape.Shape.{Shape}
use Rattle.store.specs.Image.{Sizes, header_found}
use Rattle.store.specs.Judge.{width}
use Rattle.store.specs.Refusals.{StoreRefusal, because, up}
use Rattle.store.specs.Scanning.{parsed, Ending, concluded, most_areas}
use Rattle.store.specs.Steps.{Contents, shape_of, opening}

-- what each sector reads
abbrev pub Image : Type 0
Image = ℕ → Bytes

abbrev pub image : Disk → Image
image d s = (d.cells s).latest

-- the readings of n sectors from s on, after what is there already
abbrev pub gathered : Image → ℕ → ℕ → Bytes → Bytes
gathered m s zero sofar = sofar
gathered m s (suc n) sofar = gathered m (s + 1) n (sofar ++ m s)

-- the readings of area a
abbrev pub area_bytes : Shape → Image → ℕ → Bytes
area_bytes s m a = gathered m (area_start (width s) a) (width s) []

-- what the entries say, at most n areas from a on, after the exceptions es
unfoldable pub scanned : Shape → Image → ℕ → ℕ → List Exception → Told StoreRefusal Ending
scanned s m zero a es = refused (because 14 0 0)
scanned s m (suc n) a es = concluded (λ t. t) a (area_bytes s m a) (parsed s a (area_bytes s m a) (per_area (width s)) 0 es) (scanned s m n (a + 1))

-- what is said after a good answer
abbrev pub next : {F A B : Type 0} → Told F A → (A → Told F B) → Told F B
next (good a) k = k a
next (refused f) k = refused f

-- what opening finds: the size of chunks and the exceptions, or why it refuses
abbrev pub found : Sizes → Image → Told StoreRefusal Contents
found z m = next (header_found z (m 0)) (λ size. next (scanned (shape_of z size) m most_areas 0 []) (λ e. good (record { size = size; table = e.table })))

-- a refusal that a device gives, and the device after it: for length (1); for a sector that it has not (2); or it is gone (3)
pub data Own (r : Refusal) (e : Disk) : Type 0 where
  for_length : r ≡ refusal 1 0 → Own r e
  for_place : (p : ℕ) → r ≡ refusal 2 p → e.count ≤ p → Own r e
  for_gone : (p : ℕ) → r ≡ refusal 3 p → e.on ≡ false → Own r e

-- an image opens exactly when it obeys this, and with exactly these exceptions, unless the device itself refuses a call
abbrev pub OpeningFinds : Type 0
OpeningFinds = (z : Sizes) (d e : Disk) (t : Told StoreRefusal Contents) → Runs one (opening z 8192) d t e → (t ≡ found z (image d)) ⊎ ((r : Refusal) × Own r e × (t ≡ refused (up r)))

-- The same, unless the device is gone or goes: then the opening is refused so (3). It asks that the device has these sectors, one or
-- more, and that each reads as 512 bytes.
abbrev pub OpeningAnswers : Type 0
OpeningAnswers =
    (z : Sizes) (d e : Disk) (t : Told StoreRefusal Contents) → z.cow ≡ d.count → 0 < d.count → ((s : ℕ) → s < d.count → length (image d s) ≡ 512) →
    Runs one (opening z 8192) d t e →
    ((t ≡ found z (image d)) × (e.on ≡ d.on)) ⊎ ((p : ℕ) × (t ≡ refused (up (refusal 3 p))) × (e.on ≡ false))

-- an opening that refuses an image writes nothing
abbrev pub OpeningRefused : Type 0
OpeningRefused = (z : Sizes) (d e : Disk) (t : Told StoreRefusal Contents) (f : StoreRefusal) → found z (image d) ≡ refused f → Runs one (opening z 8192) d t e → e.cells ≡ d.cells
