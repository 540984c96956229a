-- The steps of a store on its device.
use Rattle.std.specs.Prelude.{ℕ, zero, suc, ◌+◌, ◌-◌, ◌*◌, ◌/◌, Bool, true, false, cond, not, ◌||◌, List, [], ◌∷◌, ◌++◌, length, drop, replicate, Some, None, Option, ◌==◌, nat_lt}
use Rattle.device.specs.Disk.{Bytes, Disk, Op, reads, writes, flushes, Told, good, refused, Refusal}
use Rattle.device.specs.Plans.{Plan, done, call, bind, onward, then, raised, lifted, Steps, zeroing, spreading, reading_into}
use Rattle.layout.specs.declared.exception.Exception.{Exception}
use Rattle.layout.specs.declared.chunk.ChunkSize.{ChunkSize}
use Rattle.layout.specs.Chunks.{sectors, per_area, area_start, area_place, in_copy}
use Rattle.layout.specs.Entries.{pic}
use Rattle.layout.specs.Headers.{header}
use Rattle.exceptions.specs.Table.{entries_at_most, has_old, fills_area, room, without_run}
use Rattle.store.specs.declared.shape.Shape.{Shape}
use Rattle.store.specs.Judge.{width, on_data}
use Rattle.store.specs.Image.{Sizes, header_found, all_zero, cleaned}
use Rattle.store.specs.Refusals.{StoreRefusal, because, up, StoreSteps, asking, doing}
use Rattle.store.specs.Scanning.{Ending, most_areas, scanning}

-- ON THE DEVICE ALONE

-- good, with nothing to give
abbrev pub finished : Steps
finished = done (good tt)

-- a write, then k
abbrev pub writing : ℕ → Bytes → Steps → Steps
writing s bytes k = call tt (writes s bytes) (λ t. onward t (λ _. k))

-- a flush, then k
abbrev pub flushing : Steps → Steps
flushing k = call tt flushes (λ t. onward t (λ _. k))

-- a sector made to last
abbrev pub storing : ℕ → Bytes → Steps
storing s bytes = writing s bytes (flushing finished)

-- an empty store: no header, an empty first area, the header; each lasts before the next is written
abbrev pub making : ℕ → Steps
making c = writing 0 (replicate 512 0) (flushing (then (zeroing (area_start c 0) c) (λ _. flushing (storing 0 (header true c)))))

-- the header with valid 0
abbrev pub spoiling : ℕ → Steps
spoiling c = storing 0 (header false c)

-- zeros over area a where it is wanted
abbrev pub preparing : Bool → ℕ → ℕ → Steps
preparing true c a = zeroing (area_start c a) c
preparing false c a = finished

-- one more exception, the last of a list: the next area's zeros where it fills its own; flush; the entry's sector; flush
abbrev pub entering : ℕ → List Exception → ℕ → Steps
entering c table n =
    then (preparing (fills_area c n) c (n / per_area c + 1)) (λ _. flushing (storing (area_place c (n / 32)) (pic table (n / 32))))

-- n sectors of the areas from j on, downwards, as a list has them
abbrev pub unwinding : ℕ → List Exception → ℕ → ℕ → Steps
unwinding c table j zero = finished
unwinding c table j (suc n) = writing (area_place c (j + n)) (pic table (j + n)) (unwinding c table j n)

-- n exceptions become those of a shorter list of the same area: the sectors between, the highest first; flush
abbrev pub dropping : ℕ → List Exception → ℕ → Steps
dropping c kept n =
    then (unwinding c kept (length kept / 32) ((n - 1) / 32 + 1 - length kept / 32)) (λ _. flushing finished)

-- zeros from the end entry to the end of its area, where some byte there is not zero
abbrev pub cleaning : ℕ → Ending → Steps
cleaning c e =
    cond (all_zero (drop (16 * e.place) e.bytes)) finished
    (then (spreading (area_start c e.area + e.place / 32) (c - e.place / 32) (drop (512 * (e.place / 32)) (cleaned e.bytes e.place))) (λ _. flushing finished))

-- THE STORE'S CALLS

-- what a store remembers: the size of its chunks and its exceptions
pub record Contents : Type 0 where
  pub size : ChunkSize
  pub table : List Exception

-- what stays the same of a store: the size of its chunks, and the chunks of both devices
abbrev pub shaped : ℕ → ℕ → ChunkSize → Shape
shaped olds cow size = record { size = size; olds = olds; chunks = cow / sectors size }

-- the same of the COW device alone, where no origin is asked of
abbrev pub in_chunks : Disk → ChunkSize → Shape
in_chunks d size = shaped 0 d.count size

-- the same by the sectors of both devices
abbrev pub shape_of : Sizes → ChunkSize → Shape
shape_of z size = shaped (z.origin / sectors size) z.cow size

-- the exceptions of the areas, and zeros after their end
abbrev pub loading : Shape → StoreSteps (List Exception)
loading s = then (scanning s most_areas 0 []) (λ e. doing (cleaning (width s) e) (λ _. done (good e.table)))

-- the header
abbrev pub heading : Sizes → StoreSteps ChunkSize
heading z = asking (reads 512 0) (λ h. done (header_found z h))

-- the store's shape by its header
abbrev pub shape_heading : Sizes → StoreSteps Shape
shape_heading z = then (heading z) (λ size. done (good (shape_of z size)))

-- opening, with a work buffer of so many bytes
abbrev pub opening : Sizes → ℕ → StoreSteps Contents
opening z work =
    cond (work == 8192)
    (then (shape_heading z) (λ s. then (loading s) (λ table. done (good (record { size = s.size; table = table })))))
    (done (refused (because 1 0 0)))

-- the new exception at a place, if there is one
abbrev pub entered_at : ℕ → List Exception → ℕ → Option ℕ → StoreSteps (List Exception)
entered_at c table old None = done (refused (because 7 old 0))
entered_at c table old (Some p) =
    doing (entering c (table ++ (record { old = old; new = p } ∷ [])) (length table)) (λ _. done (good (table ++ (record { old = old; new = p } ∷ []))))

-- entering an old chunk: one that has a copy, or that the origin lacks, is refused; then one without a place
abbrev pub enter : Shape → List Exception → ℕ → StoreSteps (List Exception)
enter s table old =
    cond (has_old table old || not (nat_lt old s.olds)) (done (refused (because 2 old 0)))
    (entered_at (width s) table old (room entries_at_most (width s) s.chunks table))

-- dropping the last run
abbrev pub drop_run : ℕ → List Exception → StoreSteps (List Exception)
drop_run c [] = done (good [])
drop_run c (x ∷ xs) = doing (dropping c (without_run c (x ∷ xs)) (length (x ∷ xs))) (λ _. done (good (without_run c (x ∷ xs))))

-- the tests of a data call at sector s, with a buffer of so many bytes
abbrev pub data_test : Shape → ℕ → ℕ → Told StoreRefusal (Unit {0})
data_test shape s len = cond (len == 512) (cond (on_data shape (s / width shape)) (good tt) (refused (because 2 s 0))) (refused (because 1 0 0))

-- a data read
abbrev pub data_read : Shape → ℕ → ℕ → StoreSteps Bytes
data_read shape s len = onward (data_test shape s len) (λ _. asking (reads len s) (λ b. done (good b)))

-- a data write
abbrev pub data_write : Shape → ℕ → Bytes → StoreSteps (Unit {0})
data_write shape s bytes = onward (data_test shape s (length bytes)) (λ _. asking (writes s bytes) (λ _. done (good tt)))

-- one device call, and what it gives
abbrev pub only_call : Op → Plan (Unit {0}) (Told Refusal Bytes)
only_call o = call tt o (λ t. onward t (λ b. done (good b)))

-- steps on a data chunk; a chunk that is not for data, or not on the device, is refused
abbrev pub at_chunk : {A : Type 0} → Shape → ℕ → Plan (Unit {0}) (Told Refusal A) → StoreSteps A
at_chunk s k p = cond (on_data s k) (lifted up p) (done (refused (because 2 k 0)))

-- the sector of a copy at chunk k that a sector of the origin has there, read into so many bytes
abbrev pub copy_read : Shape → ℕ → ℕ → ℕ → StoreSteps Bytes
copy_read s k sector len = at_chunk s k (only_call (reads len (in_copy (width s) k sector)))

-- the same sector written
abbrev pub copy_write : Shape → ℕ → ℕ → Bytes → StoreSteps Bytes
copy_write s k sector bytes = at_chunk s k (only_call (writes (in_copy (width s) k sector) bytes))

-- a whole data chunk read into a buffer: the answer, and the buffer, which a refusal for its length or the chunk leaves as it was
abbrev pub chunk_read : Shape → ℕ → Bytes → Plan (Unit {0}) (Told StoreRefusal (Unit {0}) × Bytes)
chunk_read s k buffer =
    cond (length buffer == 512 * width s)
    (cond (on_data s k) (bind (reading_into (k * width s) buffer) (λ f. done (raised up f.answer, f.buffer))) (done (refused (because 2 k 0), buffer)))
    (done (refused (because 1 0 0), buffer))

-- a whole data chunk written
abbrev pub chunk_write : Shape → ℕ → Bytes → StoreSteps (Unit {0})
chunk_write s k bytes = cond (length bytes == 512 * width s) (at_chunk s k (spreading (k * width s) (width s) bytes)) (done (refused (because 1 0 0)))
