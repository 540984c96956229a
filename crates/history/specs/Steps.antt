-- What each public call of a pair, or of a merging snapshot, asks of the two devices, answers and remembers.
use Rattle.std.specs.Prelude.{ℕ, ◌*◌, ◌/◌, Bool, true, false, cond, not, ◌&&◌, List, [], ◌∷◌, length, Some, None, Option, ◌==◌, nat_lt}
use Rattle.device.specs.Disk.{Bytes, Told, good, refused}
use Rattle.device.specs.Plans.{Side, origin, cow, Disks, Plan, done, bind, then, spreading, gathering}
use Rattle.layout.specs.declared.chunk.ChunkSize.{ChunkSize}
use Rattle.layout.specs.declared.exception.Exception.{Exception}
use Rattle.layout.specs.Chunks.{sectors, chunk_size, in_copy}
use Rattle.exceptions.specs.Table.{entries_at_most, lookup, room, last_run, the_run, without_run, allocated, metadata}
use Rattle.store.specs.Image.{Sizes, well_shaped}
use Rattle.store.specs.Steps.{shape_of, making, opening, enter, drop_run, spoiling, at_chunk, copy_read, copy_write}
use Rattle.history.specs.Faults.{Fault, fault, write, read, flush, store_fault, pair_fault, Moves, at_side, in_store}

-- what a pair remembers between calls: nothing; the size of chunks and the exceptions; or that its store became invalid
pub data Memory : Type 0 where
  closed : Memory
  serving : (size : ChunkSize) (table : List Exception) → Memory
  invalid : Memory

-- a pair, or a merging snapshot that was begun on it
pub data Mode : Type 0 where
  plain : Mode
  merging : Mode

-- what a pair sees of its devices without a call that may be refused: their sectors, and whether one of them is gone
pub record Ground : Type 0 where
  pub size : Sizes
  pub stopped : Bool

-- the sectors of both devices
abbrev pub sizes : Disks → Sizes
sizes d = record { origin = d.origin.count; cow = d.cow.count }

-- both devices are on
abbrev pub both_on : Disks → Bool
both_on d = d.origin.on && d.cow.on

-- what a pair sees of some devices
abbrev pub ground : Disks → Ground
ground d = record { size = sizes d; stopped = not (both_on d) }

-- nothing is remembered
abbrev pub is_closed : Memory → Bool
is_closed closed = true
is_closed (serving size t) = false
is_closed invalid = false

-- the store became invalid
abbrev pub is_invalid : Memory → Bool
is_invalid closed = false
is_invalid (serving size t) = false
is_invalid invalid = true

-- REFUSALS BEFORE ANY DEVICE CALL

-- a refusal where something is so
abbrev pub test : Bool → Fault → Option Fault
test true f = Some f
test false f = None

-- the first of some refusals
abbrev pub first : List (Option Fault) → Option Fault
first [] = None
first (t ∷ ts) = elim t [ None ↦ first ts | Some f ↦ Some f ]

-- a sector buffer is 512 bytes
abbrev pub sector_length : ℕ → Option Fault
sector_length n = test (not (n == 512)) (pair_fault 1)

-- the bytes of a work buffer
abbrev pub work_bytes : ℕ
work_bytes = 8192

-- a work buffer has that length
abbrev pub work_length : ℕ → Option Fault
work_length n = test (not (n == work_bytes)) (pair_fault 1)

-- both devices are on
abbrev pub not_stopped : Ground → Option Fault
not_stopped g = test g.stopped (pair_fault 5)

-- the pair is closed
abbrev pub still_closed : Memory → Option Fault
still_closed m = test (not (is_closed m)) (pair_fault 4)

-- the pair is open
abbrev pub opened : Memory → Option Fault
opened m = test (is_closed m) (pair_fault 4)

-- the store is not invalid
abbrev pub not_invalid : Memory → Option Fault
not_invalid m = test (is_invalid m) (pair_fault 6)

-- a sector is on the origin
abbrev pub on_origin : Ground → ℕ → Option Fault
on_origin g s = test (not (nat_lt s g.size.origin)) (fault 2 3 0 s 0)

-- the devices fit chunks of c sectors
abbrev pub shape : Ground → ℕ → Option Fault
shape g c = test (not (well_shaped g.size c)) (pair_fault 9)

-- ANSWERS

-- what a call answers, and what the pair remembers then
pub record Outcome (A : Type 0) : Type 0 where
  pub answer : Told Fault A
  pub memory : Memory

-- a good answer
abbrev pub giving : {A : Type 0} → Memory → A → Plan Side (Outcome A)
giving m a = done (record { answer = good a; memory = m })

-- a refusal
abbrev pub refusing : {A : Type 0} → Memory → Fault → Plan Side (Outcome A)
refusing m f = done (record { answer = refused f; memory = m })

-- what is done by the answer of some steps: k where they were good, else they are refused and the pair remembers m
abbrev pub carry : {A B : Type 0} → Memory → (A → Plan Side (Outcome B)) → Told Fault A → Plan Side (Outcome B)
carry m k (good a) = k a
carry m k (refused f) = refusing m f

-- steps, then k; where they are refused the pair remembers m
abbrev pub after : {A B : Type 0} → Memory → Moves A → (A → Plan Side (Outcome B)) → Plan Side (Outcome B)
after m p k = bind p (carry m k)

-- p, unless a test refuses
abbrev pub guarded : {A : Type 0} → Memory → Option Fault → Plan Side (Outcome A) → Plan Side (Outcome A)
guarded m None p = p
guarded m (Some f) p = refusing m f

-- k on what the pair remembers; a closed pair and an invalid one refuse
abbrev pub while_serving : {A : Type 0} → Memory → (ChunkSize → List Exception → Plan Side (Outcome A)) → Plan Side (Outcome A)
while_serving closed k = refusing closed (pair_fault 4)
while_serving invalid k = refusing invalid (pair_fault 6)
while_serving (serving size table) k = k size table

-- MAKING AND OPENING

-- making with a size of chunks: the devices fit it; the origin is flushed, then an empty store is made
abbrev pub make_sized : Ground → Memory → Option ChunkSize → Plan Side (Outcome (Unit {0}))
make_sized g m None = refusing m (pair_fault 8)
make_sized g m (Some size) =
    guarded m (shape g (sectors size)) (after m (then (flush origin) (λ _. at_side cow (making (sectors size)))) (λ _. giving (serving size []) tt))

-- the tests of making before that of the size
abbrev pub make_tests : Ground → Memory → Option Fault
make_tests g m = first (not_stopped g ∷ still_closed m ∷ [])

-- the test of a size of chunks: it is one of the five, and the devices fit it
abbrev pub size_test : Ground → Option ChunkSize → Option Fault
size_test g None = Some (pair_fault 8)
size_test g (Some size) = shape g (sectors size)

-- the refusal of a making before it reaches a device
abbrev pub make_refusal : Ground → Memory → ℕ → Option Fault
make_refusal g m c = first (not_stopped g ∷ still_closed m ∷ size_test g (chunk_size c) ∷ [])

-- making, with chunks of c sectors: 1, 2, 4, 8 or 16
abbrev pub make : Ground → Memory → ℕ → Plan Side (Outcome (Unit {0}))
make g m c = guarded m (make_tests g m) (make_sized g m (chunk_size c))

-- the tests of opening
abbrev pub open_tests : Ground → Memory → ℕ → Option Fault
open_tests g m work = first (work_length work ∷ not_stopped g ∷ still_closed m ∷ [])

-- opening
abbrev pub open_pair : Ground → Memory → ℕ → Plan Side (Outcome (Unit {0}))
open_pair g m work =
    guarded m (open_tests g m work) (after m (in_store (opening g.size work_bytes)) (λ o. giving (serving o.size o.table) tt))

-- READS

-- the tests of an origin read
abbrev pub origin_read_tests : Ground → Memory → ℕ → ℕ → Option Fault
origin_read_tests g m s buffer = first (sector_length buffer ∷ not_stopped g ∷ opened m ∷ on_origin g s ∷ [])

-- an origin read
abbrev pub origin_read : Ground → Memory → ℕ → ℕ → Plan Side (Outcome Bytes)
origin_read g m s buffer = guarded m (origin_read_tests g m s buffer) (after m (read origin s) (λ b. giving m b))

-- where a sector of the snapshot stands
pub record Spot : Type 0 where
  pub side : Side
  pub sector : ℕ

-- in the copy where there is one, else on the origin
abbrev pub spot_at : ℕ → ℕ → Option ℕ → Spot
spot_at c s None = record { side = origin; sector = s }
spot_at c s (Some p) = record { side = cow; sector = in_copy c p s }

-- where sector s of the snapshot stands
abbrev pub spot : ChunkSize → List Exception → ℕ → Spot
spot size table s = spot_at (sectors size) s (lookup table (s / sectors size))

-- the tests of all calls of the snapshot at a sector
abbrev pub view_tests : Ground → Memory → ℕ → List (Option Fault)
view_tests g m s = not_stopped g ∷ opened m ∷ not_invalid m ∷ on_origin g s ∷ []

-- the tests of a snapshot read
abbrev pub view_read_tests : Ground → Memory → ℕ → ℕ → Option Fault
view_read_tests g m s buffer = first (sector_length buffer ∷ view_tests g m s)

-- a sector of the snapshot read: in the copy where there is one, else on the origin
abbrev pub view_steps : Ground → ChunkSize → ℕ → Option ℕ → Moves Bytes
view_steps g size s None = read origin s
view_steps g size s (Some k) = in_store (copy_read (shape_of g.size size) k s 512)

-- the read itself, by what is remembered
abbrev pub view_reading : Ground → Memory → ℕ → Plan Side (Outcome Bytes)
view_reading g m s =
    while_serving m (λ size table. after (serving size table) (view_steps g size s (lookup table (s / sectors size))) (λ b. giving (serving size table) b))

-- a snapshot read, and a merging read
abbrev pub view_read : Ground → Memory → ℕ → ℕ → Plan Side (Outcome Bytes)
view_read g m s buffer = guarded m (view_read_tests g m s buffer) (view_reading g m s)

-- WRITES

-- copying chunk k to place p, through the work buffer, and entering it
abbrev pub copying : Ground → ChunkSize → List Exception → ℕ → ℕ → Moves (List Exception)
copying g size table k p =
    then (at_side origin (gathering (k * sectors size) (sectors size) [])) (λ bytes.
    then (in_store (at_chunk (shape_of g.size size) p (spreading (p * sectors size) (sectors size) bytes))) (λ _.
    in_store (enter (shape_of g.size size) table k)))

-- an origin write's last step; the answer tells whether the pair became invalid by the call
abbrev pub origin_put : Memory → ℕ → Bytes → Bool → Plan Side (Outcome Bool)
origin_put m s bytes became = after m (write origin s bytes) (λ _. giving m became)

-- an origin write to a chunk without a copy: copy it first; without a place, spoil the store
abbrev pub origin_diverging : Ground → ChunkSize → List Exception → ℕ → Bytes → Option ℕ → Plan Side (Outcome Bool)
origin_diverging g size table s bytes None =
    after (serving size table) (at_side cow (spoiling (sectors size))) (λ _. origin_put invalid s bytes true)
origin_diverging g size table s bytes (Some p) =
    after (serving size table) (copying g size table (s / sectors size) p) (λ more. origin_put (serving size more) s bytes false)

-- the next place for a copy, if there is one
abbrev pub next_free : Ground → ChunkSize → List Exception → Option ℕ
next_free g size table = room entries_at_most (sectors size) (g.size.cow / sectors size) table

-- an origin write, by whether the chunk has a copy
abbrev pub origin_served : Ground → ChunkSize → List Exception → ℕ → Bytes → Option ℕ → Plan Side (Outcome Bool)
origin_served g size table s bytes None = origin_diverging g size table s bytes (next_free g size table)
origin_served g size table s bytes (Some p) = origin_put (serving size table) s bytes false

-- an origin write, by what is remembered
abbrev pub origin_writing : Ground → Memory → ℕ → Bytes → Plan Side (Outcome Bool)
origin_writing g closed s bytes = refusing closed (pair_fault 4)
origin_writing g invalid s bytes = origin_put invalid s bytes false
origin_writing g (serving size table) s bytes = origin_served g size table s bytes (lookup table (s / sectors size))

-- the tests of an origin write
abbrev pub origin_write_tests : Ground → Memory → ℕ → Bytes → ℕ → Option Fault
origin_write_tests g m s bytes work =
    first (sector_length (length bytes) ∷ work_length work ∷ not_stopped g ∷ opened m ∷ on_origin g s ∷ [])

-- an origin write
abbrev pub origin_write : Ground → Memory → ℕ → Bytes → ℕ → Plan Side (Outcome Bool)
origin_write g m s bytes work = guarded m (origin_write_tests g m s bytes work) (origin_writing g m s bytes)

-- a snapshot write's last step, to the copy at p
abbrev pub copy_put : Ground → ChunkSize → List Exception → ℕ → Bytes → ℕ → Plan Side (Outcome (Unit {0}))
copy_put g size table s bytes p =
    after (serving size table) (in_store (copy_write (shape_of g.size size) p s bytes)) (λ _. giving (serving size table) tt)

-- a snapshot write to a chunk without a copy: copy it first; without a place, refuse
abbrev pub snapshot_diverging : Ground → ChunkSize → List Exception → ℕ → Bytes → Option ℕ → Plan Side (Outcome (Unit {0}))
snapshot_diverging g size table s bytes None = refusing (serving size table) (store_fault 7 (s / sectors size) 0)
snapshot_diverging g size table s bytes (Some p) =
    after (serving size table) (copying g size table (s / sectors size) p) (λ more. copy_put g size more s bytes p)

-- a snapshot write, by whether the chunk has a copy
abbrev pub snapshot_served : Ground → ChunkSize → List Exception → ℕ → Bytes → Option ℕ → Plan Side (Outcome (Unit {0}))
snapshot_served g size table s bytes None = snapshot_diverging g size table s bytes (next_free g size table)
snapshot_served g size table s bytes (Some p) = copy_put g size table s bytes p

-- a snapshot write, by what is remembered
abbrev pub snapshot_writing : Ground → Memory → ℕ → Bytes → Plan Side (Outcome (Unit {0}))
snapshot_writing g m s bytes = while_serving m (λ size table. snapshot_served g size table s bytes (lookup table (s / sectors size)))

-- the tests of a snapshot write
abbrev pub snapshot_write_tests : Ground → Memory → ℕ → Bytes → ℕ → Option Fault
snapshot_write_tests g m s bytes work = first (sector_length (length bytes) ∷ work_length work ∷ view_tests g m s)

-- a snapshot write
abbrev pub snapshot_write : Ground → Memory → ℕ → Bytes → ℕ → Plan Side (Outcome (Unit {0}))
snapshot_write g m s bytes work = guarded m (snapshot_write_tests g m s bytes work) (snapshot_writing g m s bytes)

-- a merging write: to the copy where there is one, else to the origin
abbrev pub merging_put : Ground → ChunkSize → List Exception → ℕ → Bytes → Option ℕ → Plan Side (Outcome (Unit {0}))
merging_put g size table s bytes None = after (serving size table) (write origin s bytes) (λ _. giving (serving size table) tt)
merging_put g size table s bytes (Some p) = copy_put g size table s bytes p

-- a merging write, by what is remembered
abbrev pub merging_writing : Ground → Memory → ℕ → Bytes → Plan Side (Outcome (Unit {0}))
merging_writing g m s bytes = while_serving m (λ size table. merging_put g size table s bytes (lookup table (s / sectors size)))

-- the tests of a merging write
abbrev pub merging_write_tests : Ground → Memory → ℕ → Bytes → Option Fault
merging_write_tests g m s bytes = first (sector_length (length bytes) ∷ view_tests g m s)

-- a merging write
abbrev pub merging_write : Ground → Memory → ℕ → Bytes → Plan Side (Outcome (Unit {0}))
merging_write g m s bytes = guarded m (merging_write_tests g m s bytes) (merging_writing g m s bytes)

-- FLUSH AND STATUS

-- the tests of a flush
abbrev pub flush_tests : Mode → Ground → Memory → Option Fault
flush_tests plain g m = first (not_stopped g ∷ opened m ∷ [])
flush_tests merging g m = first (not_stopped g ∷ opened m ∷ not_invalid m ∷ [])

-- a flush: the origin, then the COW device
abbrev pub flush_both : Mode → Ground → Memory → Plan Side (Outcome (Unit {0}))
flush_both mode g m = guarded m (flush_tests mode g m) (after m (then (flush origin) (λ _. flush cow)) (λ _. giving m tt))

-- the state's number: 0 closed, 1 active, 2 merging, 3 invalid, 4 stopped
abbrev pub open_state : Mode → ℕ
open_state plain = 1
open_state merging = 2

-- what status tells
pub record Figures : Type 0 where
  pub state : ℕ
  pub exceptions : ℕ
  pub allocated : ℕ
  pub metadata : ℕ

-- outside active and merging all but the state is 0
abbrev pub no_figures : ℕ → Figures
no_figures n = record { state = n; exceptions = 0; allocated = 0; metadata = 0 }

-- of an open pair
abbrev pub figures_of : ℕ → ChunkSize → List Exception → Figures
figures_of n size table = record {
  state = n;
  exceptions = length table;
  allocated = allocated (sectors size) table;
  metadata = metadata (sectors size) (length table);
}

-- the figures while both devices are on
abbrev pub own_figures : Mode → Memory → Figures
own_figures mode closed = no_figures 0
own_figures mode (serving size table) = figures_of (open_state mode) size table
own_figures mode invalid = no_figures 3

-- status
abbrev pub status : Mode → Ground → Memory → Figures
status mode g m = cond g.stopped (no_figures 4) (own_figures mode m)

-- MERGING

-- whether a merge may begin: nothing, or the refusal
abbrev pub question : Ground → Memory → Option Fault
question g m = first (not_stopped g ∷ opened m ∷ not_invalid m ∷ [])

-- a chunk of the origin written; one that the origin lacks is refused
abbrev pub chunk_put : Ground → ChunkSize → ℕ → Bytes → Moves (Unit {0})
chunk_put g size k bytes =
    cond (nat_lt k (g.size.origin / sectors size)) (at_side origin (spreading (k * sectors size) (sectors size) bytes)) (done (refused (fault 2 3 0 k 0)))

-- copying chunks back to their old places, in the list's order, through the work buffer
abbrev pub copying_back : Ground → ChunkSize → List Exception → Moves (Unit {0})
copying_back g size [] = done (good tt)
copying_back g size (x ∷ xs) =
    then (in_store (at_chunk (shape_of g.size size) x.new (gathering (x.new * sectors size) (sectors size) []))) (λ bytes.
    then (chunk_put g size x.old bytes) (λ _. copying_back g size xs))

-- exceptions merged, and left
pub record Merged : Type 0 where
  pub run : ℕ
  pub left : ℕ

-- what a merge step answers
abbrev pub merged_by : ChunkSize → List Exception → Merged
merged_by size table = record { run = last_run (sectors size) table; left = length (without_run (sectors size) table) }

-- the last run is copied back, then the origin is flushed, then the run leaves the list
abbrev pub run_merging : Ground → ChunkSize → List Exception → Plan Side (Outcome Merged)
run_merging g size table =
    after (serving size table) (then (copying_back g size (the_run (sectors size) table)) (λ _. then (flush origin) (λ _. in_store (drop_run (sectors size) table))))
    (λ kept. giving (serving size kept) (merged_by size table))

-- a merge step on a list
abbrev pub step_merging : Ground → ChunkSize → List Exception → Plan Side (Outcome Merged)
step_merging g size [] = giving (serving size []) (merged_by size [])
step_merging g size (x ∷ xs) = run_merging g size (x ∷ xs)

-- a merge step, by what is remembered
abbrev pub merging_step : Ground → Memory → Plan Side (Outcome Merged)
merging_step g m = while_serving m (step_merging g)

-- the tests of a merge step
abbrev pub step_tests : Ground → Memory → ℕ → Option Fault
step_tests g m work = first (work_length work ∷ not_stopped g ∷ opened m ∷ not_invalid m ∷ [])

-- a merge step
abbrev pub merge_step : Ground → Memory → ℕ → Plan Side (Outcome Merged)
merge_step g m work = guarded m (step_tests g m work) (merging_step g m)
