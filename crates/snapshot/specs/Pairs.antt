-- What a pair means.
use Rattle.std.specs.Prelude.{◌≡◌, ℕ, cond, length, replicate, ◌==◌, List, Some, None, Ok, Err, Option, Result}
use Rattle.device.specs.Disk.{Bytes, Disk, Cut}
use Rattle.device.specs.Plans.{Disks, pair}
use Rattle.layout.specs.declared.chunk.ChunkSize.{ChunkSize}
use Rattle.layout.specs.Chunks.{chunk_size}
use Rattle.layout.specs.declared.exception.Exception.{Exception}
use Rattle.exceptions.specs.Listed.{listed}
use Rattle.store.specs.Image.{Sizes}
use Rattle.recovery.specs.Readings.{image}
use Rattle.recovery.specs.Standing.{Lies}
use Rattle.recovery.specs.Breaks.{AfterMaking}
use Rattle.history.specs.Faults.{Fault}
use Rattle.history.specs.Steps.{work_bytes, Memory, closed, serving, invalid, plain, Ground, ground}
use Rattle.history.specs.History.{Situation}
use Rattle.history.specs.Machine.{made}
use Rattle.history.specs.Promise.{Protected}
use Rattle.snapshot.specs.declared.fault.Fault.{Fault as CodeFault}
use Rattle.snapshot.specs.declared.state.Held.{Held}
use Rattle.snapshot.specs.declared.state.Held.TheVariants.{Closed, Open, Invalid}
use Rattle.snapshot.specs.declared.pair.Pair.{Pair}
use Rattle.snapshot.specs.Answers.{numbers}

-- what a pair remembers, by what it holds its store for
abbrev pub memory : Held → ChunkSize → List Exception → Memory
memory Closed size table = closed
memory Open size table = serving size table
memory Invalid size table = invalid

-- below, o and c are what the devices mean

-- the disks of a pair
abbrev pub disks : {O C : Type 0} → (O → Disk) → (C → Disk) → Pair O C → Disks
disks o c x = pair (o x.origin) (c x.store.cow)

-- what it remembers
abbrev pub remembered : {O C : Type 0} → Pair O C → Memory
remembered x = memory x.held x.store.size (listed x.store.table)

-- what it sees of its devices
abbrev pub seen : {O C : Type 0} → (O → Disk) → (C → Disk) → Pair O C → Ground
seen o c x = ground (disks o c x)

-- both together
abbrev pub situation : {O C : Type 0} → (O → Disk) → (C → Disk) → Pair O C → Situation
situation o c x = record { disks = disks o c x; memory = remembered x; mode = plain }

-- the answer of a test: nothing, or the refusal
abbrev pub tested : Result (Unit {0}) CodeFault → Option Fault
tested (Ok _) = None
tested (Err e) = Some (numbers e)

-- what a call leaves of a work buffer: zeros, but one of another length it leaves alone
abbrev pub wiped : Bytes → Bytes
wiped bytes = cond (length bytes == work_bytes) (replicate work_bytes 0) bytes

-- every history from here on keeps the whole promise, with chunks of c sectors, of an origin that reads as it did before
abbrev pub Kept : ℕ → Disks → Situation → Type 0
Kept c before start =
    (size : ChunkSize) × (chunk_size c ≡ Some size) × Protected (made size start.disks) start × ((s : ℕ) → image start.disks.origin s ≡ image before.origin s)

-- making with chunks of c sectors, wherever it broke off: what a power cut leaves of the COW device is what it held before, or no store,
-- or an empty list
abbrev pub LeftOfMaking : ℕ → Sizes → Disk → Disk → Type 0
LeftOfMaking c z before used = (size : ChunkSize) (after : Disk) → chunk_size c ≡ Some size → Cut used after → AfterMaking Lies z size before after
