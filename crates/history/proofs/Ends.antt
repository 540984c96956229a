-- An open pair between calls, and how a call of it ends.
use Rattle.std.proofs.Common.{◌≡◌, ℕ, true, false, cond, eqb, ◌⊎◌}
use Rattle.std.specs.List.{ContainsAt as Has}
use Rattle.device.specs.Disk.{Told, good, refused}
use Rattle.device.specs.Plans.{Disks}
use Rattle.recovery.specs.Breaks.{Sure}
use Rattle.recovery.specs.Standing.{Stands}
use Rattle.history.specs.Faults.{Fault, store_fault}
use Rattle.history.specs.Steps.{sizes, both_on, Memory, closed, serving, invalid}
use Rattle.history.specs.History.{Call, reopen, Reply, nothing, Answer}
use Rattle.history.specs.Machine.{Plain, table_of, performed, broken_off, Agrees}
use Rattle.history.proofs.Invariant.{Covers, Wholes, CutBoth, covers_fewer, cut_fewer}
use Rattle.history.proofs.Sides.{WentOff}

-- what an open pair remembers
abbrev pub open_memory : Plain → Memory
open_memory p = cond p.void invalid (serving p.chunk (table_of p))

-- an open pair, both devices on
pub record Up (p : Plain) (m : Memory) (d : Disks) : Type 0 where
  pub memory : m ≡ open_memory p
  pub whole : Wholes d
  pub agrees : Agrees p d
  pub covers : Covers p d
  pub stands : p.void ≡ false → Stands p.size p.chunk (table_of p) d.cow

-- a device went inside a call: whatever a power cut leaves, it is something that the call may have come to
pub record Down (p : Plain) (c : Call) (d : Disks) : Type 0 where
  pub whole : Wholes d
  pub sectors : sizes d ≡ p.size
  pub gone : both_on d ≡ false
  pub survives : (e : Disks) → CutBoth d e → (came : Plain) × Has (broken_off p c) came × Covers came e

-- how steps end that turn p into q: the pair is there, and they answer a; or a device went, and then it is p or q
pub data Turned {A : Type 0} (p q : Plain) (m : Memory) (a : A) (t : Told Fault A) (e : Disks) : Type 0 where
  turned : t ≡ good a → Up q m e → Turned p q m a t e
  turned_off : WentOff t e → ((x : Disks) → CutBoth e x → Covers p x ⊎ Covers q x) → Turned p q m a t e

-- how a call ends that no test refused, where the machine wants an answer: good; refused without a change; or a device went
pub data Ends (p : Plain) (c : Call) (want : Answer) (a : Answer) (m : Memory) (d : Disks) : Type 0 where
  good_end : (r : Reply) → a ≡ good r → a ≡ want → Up (performed p c) m d → Ends p c want a m d
  kept_end : (f : Fault) → a ≡ refused f → eqb f.number 3 ≡ false → a ≡ want → Up p m d → Ends p c want a m d
  off_end : (f : Fault) → a ≡ refused f → f.number ≡ 3 → Down p c d → Ends p c want a m d

-- a call that came to one thing
pub down_by : {p : Plain} {c : Call} {d : Disks} (came : Plain) → Wholes d → sizes d ≡ p.size → both_on d ≡ false → Has (broken_off p c) came → Covers came d → Down p c d
down_by came whole same off among covers = record {
  whole = whole;
  sectors = same;
  gone = off;
  survives = λ e cut. (came, among, covers_fewer covers (cut_fewer cut.origin) (cut_fewer cut.cow));
}

-- CLOSED PAIRS

-- a closed pair, both devices on
pub record Shut (p : Plain) (d : Disks) : Type 0 where
  pub whole : Wholes d
  pub agrees : Agrees p d
  pub covers : Covers p d
  pub ready : p.void ≡ false → Stands p.size p.chunk (table_of p) d.cow ⊎ Sure d.cow

-- how a reopening ends that no test refused: good; refused as invalid, the pair as it was; or a device went
pub data Reopened (p : Plain) (k : ℕ) (a : Answer) (m : Memory) (d : Disks) : Type 0 where
  good_open : p.void ≡ false → a ≡ good nothing → Up p m d → Reopened p k a m d
  void_open : p.void ≡ true → a ≡ refused (store_fault 6 0 0) → m ≡ closed → Shut p d → Reopened p k a m d
  off_open : (f : Fault) → a ≡ refused f → f.number ≡ 3 → Down p (reopen k) d → Reopened p k a m d
