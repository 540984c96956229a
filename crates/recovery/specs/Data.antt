-- What the calls of a store leave of its data sectors.
use Rattle.std.specs.Prelude.{◌≡◌, ℕ, ◌+◌, ◌*◌, ◌/◌, ◌<◌, true, ◌⊎◌, List}
use Rattle.std.specs.List.{ContainsAt as Has}
use Rattle.device.specs.Disk.{Bytes, Disk, possibilities, Told, good}
use Rattle.device.specs.Plain.{nth_sector}
use Rattle.device.specs.Plans.{Runs, one, lifted}
use Rattle.layout.specs.declared.chunk.ChunkSize.{ChunkSize}
use Rattle.layout.specs.declared.exception.Exception.{Exception}
use Rattle.layout.specs.Chunks.{sectors, is_data, in_copy}
use Rattle.store.specs.declared.shape.Shape.{Shape}
use Rattle.store.specs.Image.{Sizes}
use Rattle.store.specs.Judge.{width}
use Rattle.store.specs.Refusals.{StoreRefusal, up}
use Rattle.store.specs.Steps.{Contents, shape_of, finished, flushing, opening, enter, drop_run, data_read, data_write, copy_read, copy_write, chunk_read, chunk_write}
use Rattle.recovery.specs.Readings.{image}
use Rattle.recovery.specs.Standing.{Stands, Finds}
use Rattle.recovery.specs.Calls.{make, spoil}

-- sector s is in a data chunk
abbrev pub IsData : ℕ → ℕ → Type 0
IsData c s = is_data c (s / c) ≡ true

-- data sectors have no possibility that they had not, and read the same while the device is on
pub record DataKept (c : ℕ) (d e : Disk) : Type 0 where
  pub possible : (s : ℕ) (b : Bytes) → IsData c s → Has (possibilities (e.cells s)) b → Has (possibilities (d.cells s)) b
  pub reads : (s : ℕ) → IsData c s → e.on ≡ true → image e s ≡ image d s

-- every call but a data write keeps all data sectors: an opening, where it finds a list; data reads, for any shape of the store
pub record CallsKeepData : Type 0 where
  pub making : (size : ChunkSize) (d e : Disk) (t : Told StoreRefusal (Unit {0})) → Runs one (make (sectors size)) d t e → DataKept (sectors size) d e
  pub spoiling : (size : ChunkSize) (d e : Disk) (t : Told StoreRefusal (Unit {0})) → Runs one (spoil (sectors size)) d t e → DataKept (sectors size) d e
  pub entering : (z : Sizes) (size : ChunkSize) (es : List Exception) (old : ℕ) (d e : Disk) (t : Told StoreRefusal (List Exception)) → Runs one (enter (shape_of z size) es old) d t e → DataKept (sectors size) d e
  pub dropping : (size : ChunkSize) (es : List Exception) (d e : Disk) (t : Told StoreRefusal (List Exception)) → Runs one (drop_run (sectors size) es) d t e → DataKept (sectors size) d e
  pub opening : (z : Sizes) (size : ChunkSize) (es : List Exception) (d e : Disk) (t : Told StoreRefusal Contents) → Finds z size es (image d) → Runs one (opening z 8192) d t e → DataKept (sectors size) d e
  pub reading : (s : Shape) (at len : ℕ) (d e : Disk) (t : Told StoreRefusal Bytes) → Runs one (data_read s at len) d t e → DataKept (width s) d e
  pub copy_reading : (s : Shape) (k at len : ℕ) (d e : Disk) (t : Told StoreRefusal Bytes) → Runs one (copy_read s k at len) d t e → DataKept (width s) d e
  pub chunk_reading : (s : Shape) (k : ℕ) (buffer : Bytes) (d e : Disk) (t : Told StoreRefusal (Unit {0}) × Bytes) → Runs one (chunk_read s k buffer) d t e → DataKept (width s) d e
  pub flush : (c : ℕ) (d e : Disk) (t : Told StoreRefusal (Unit {0})) → Runs one (lifted up (flushing finished)) d t e → DataKept c d e

-- data calls and a flush keep the list, for any shape of the store with its chunks
pub record DataCallsKeepList : Type 0 where
  pub reading : (z : Sizes) (s : Shape) (es : List Exception) (at len : ℕ) (d e : Disk) (t : Told StoreRefusal Bytes) → Stands z s.size es d → Runs one (data_read s at len) d t e → Stands z s.size es e
  pub writing : (z : Sizes) (s : Shape) (es : List Exception) (at : ℕ) (bytes : Bytes) (d e : Disk) (t : Told StoreRefusal (Unit {0})) → Stands z s.size es d → Runs one (data_write s at bytes) d t e → Stands z s.size es e
  pub copy_reading : (z : Sizes) (s : Shape) (es : List Exception) (k at len : ℕ) (d e : Disk) (t : Told StoreRefusal Bytes) → Stands z s.size es d → Runs one (copy_read s k at len) d t e → Stands z s.size es e
  pub copy_writing : (z : Sizes) (s : Shape) (es : List Exception) (k at : ℕ) (bytes : Bytes) (d e : Disk) (t : Told StoreRefusal Bytes) → Stands z s.size es d → Runs one (copy_write s k at bytes) d t e → Stands z s.size es e
  pub chunk_reading : (z : Sizes) (s : Shape) (es : List Exception) (k : ℕ) (buffer : Bytes) (d e : Disk) (t : Told StoreRefusal (Unit {0}) × Bytes) → Stands z s.size es d → Runs one (chunk_read s k buffer) d t e → Stands z s.size es e
  pub chunk_writing : (z : Sizes) (s : Shape) (es : List Exception) (k : ℕ) (bytes : Bytes) (d e : Disk) (t : Told StoreRefusal (Unit {0})) → Stands z s.size es d → Runs one (chunk_write s k bytes) d t e → Stands z s.size es e
  pub flush : (z : Sizes) (size : ChunkSize) (es : List Exception) (d e : Disk) (t : Told StoreRefusal (Unit {0})) → Stands z size es d → Runs one (lifted up (flushing finished)) d t e → Stands z size es e

-- the new bytes of a write at a sector: which bytes for which sector
abbrev pub new_in_sector : ℕ → Bytes → ℕ → Bytes → Type 0
new_in_sector at bytes s b = (s ≡ at) × (b ≡ bytes)

-- those of a write of the whole chunk k, of c sectors
abbrev pub new_in_chunk : ℕ → ℕ → Bytes → ℕ → Bytes → Type 0
new_in_chunk c k bytes s b = (i : ℕ) × (i < c) × (s ≡ k * c + i) × (b ≡ nth_sector bytes i)

-- A write, good or broken off, that has the bytes New for some sectors: a sector has no possibility but those that it had and
-- these, and any that it has no bytes for reads the same.
pub record Written (New : ℕ → Bytes → Type 0) (d e : Disk) : Type 0 where
  pub possible : (s : ℕ) (b : Bytes) → Has (possibilities (e.cells s)) b → Has (possibilities (d.cells s)) b ⊎ New s b
  pub others : (s : ℕ) → ((b : Bytes) → New s b → ⊥) → image e s ≡ image d s

-- a good write: besides, each sector that it has bytes for is a data sector and reads them
pub record WrittenWell (c : ℕ) (New : ℕ → Bytes → Type 0) (d e : Disk) : Type 0 where
  pub within : Written New d e
  pub place : (s : ℕ) (b : Bytes) → New s b → IsData c s
  pub reads : (s : ℕ) (b : Bytes) → New s b → image e s ≡ b

-- what a data write does, wherever it breaks off and where it is good
pub record DataWrites : Type 0 where
  pub writing : (s : Shape) (at : ℕ) (bytes : Bytes) (d e : Disk) (t : Told StoreRefusal (Unit {0})) → Runs one (data_write s at bytes) d t e → Written (new_in_sector at bytes) d e
  pub written : (s : Shape) (at : ℕ) (bytes : Bytes) (d e : Disk) → Runs one (data_write s at bytes) d (good tt) e → WrittenWell (width s) (new_in_sector at bytes) d e
  pub copy_writing : (s : Shape) (k at : ℕ) (bytes : Bytes) (d e : Disk) (t : Told StoreRefusal Bytes) → Runs one (copy_write s k at bytes) d t e → Written (new_in_sector (in_copy (width s) k at) bytes) d e
  pub copy_written : (s : Shape) (k at : ℕ) (bytes x : Bytes) (d e : Disk) → Runs one (copy_write s k at bytes) d (good x) e → WrittenWell (width s) (new_in_sector (in_copy (width s) k at) bytes) d e
  pub chunk_writing : (s : Shape) (k : ℕ) (bytes : Bytes) (d e : Disk) (t : Told StoreRefusal (Unit {0})) → Runs one (chunk_write s k bytes) d t e → Written (new_in_chunk (width s) k bytes) d e
  pub chunk_written : (s : Shape) (k : ℕ) (bytes : Bytes) (d e : Disk) → Runs one (chunk_write s k bytes) d (good tt) e → WrittenWell (width s) (new_in_chunk (width s) k bytes) d e
