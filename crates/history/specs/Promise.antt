-- What no history of a snapshot ends in, in terms of its calls, their answers and power cuts.
use Rattle.std.specs.Prelude.{◌≡◌, ℕ, ◌/◌, ◌<◌, Bool, true, false, cond, not, ◌&&◌, T, ◌⊎◌, is_some, Some, None, Option, ◌==◌}
use Rattle.device.specs.Disk.{Bytes, Whole, Told, good, refused}
use Rattle.device.specs.Plans.{Disks}
use Rattle.layout.specs.declared.chunk.ChunkSize.{ChunkSize}
use Rattle.layout.specs.Chunks.{sectors, chunk_size}
use Rattle.exceptions.specs.Table.{lookup}
use Rattle.store.specs.Refusals.{StoreRefusal}
use Rattle.store.specs.Steps.{Contents}
use Rattle.recovery.specs.Readings.{image}
use Rattle.history.specs.Faults.{store_fault}
use Rattle.history.specs.Steps.{both_on, work_bytes, Memory, closed, serving, invalid, ground, next_free}
use Rattle.history.specs.History.{Situation, Call, ask_status, ask_merge, read_origin, read_view, write_origin, write_snapshot, write_merging, flush_all, begin_merge, step_merge, leave_merge, reopen, Reply, nothing, contents, merged, Answer, Happens, Made, PowerCut, joined, End, completed, under_way, not_done, ending, History, begun, next_call, cut, rejoin, making_refused}
use Rattle.history.specs.Machine.{Plain, Machine, made, finds_full, finding, reads_at, Simulates}

-- WHAT IS SHOWN

-- what a read of the view would answer on some devices, by what opening finds; nothing where opening is refused
abbrev pub shown_by : Disks → Told StoreRefusal Contents → ℕ → Option Bytes
shown_by d (good o) s = Some (reads_at d o.size o.table s)
shown_by d (refused f) s = None

-- what a read of the view would answer, once reopened
abbrev pub shown : Disks → ℕ → Option Bytes
shown d s = shown_by d (finding d) s

-- KINDS OF CALLS

-- what a call is to the promise: it writes to the view, writes to the origin, flushes, else uses the snapshot, or none of these
pub data Kind : Type 0 where
  writes_view : (sector : ℕ) (bytes : Bytes) → Kind
  writes_origin : (sector : ℕ) → Kind
  flushes : Kind
  uses_snapshot : Kind
  apart : Kind

-- what each call is
abbrev pub kind : Call → Kind
kind ask_status = apart
kind ask_merge = apart
kind (read_origin s n) = apart
kind (read_view s n) = uses_snapshot
kind (write_origin s b w) = writes_origin s
kind (write_snapshot s b w) = writes_view s b
kind (write_merging s b) = writes_view s b
kind flush_all = flushes
kind begin_merge = apart
kind (step_merge w) = uses_snapshot
kind leave_merge = apart
kind (reopen w) = uses_snapshot

-- whether it is a flush
abbrev pub is_flush : Kind → Bool
is_flush (writes_view s b) = false
is_flush (writes_origin s) = false
is_flush flushes = true
is_flush uses_snapshot = false
is_flush apart = false

-- whether it is served by the snapshot, where it is good
abbrev pub of_snapshot : Kind → Bool
of_snapshot (writes_view s b) = true
of_snapshot (writes_origin s) = false
of_snapshot flushes = false
of_snapshot uses_snapshot = true
of_snapshot apart = false

-- whether a call was completed
abbrev pub completes : End → Bool
completes completed = true
completes under_way = false
completes not_done = false

-- whether it was completed or is under way
abbrev pub begins : End → Bool
begins completed = true
begins under_way = true
begins not_done = false

-- THE VIEW KEEPS WHAT IT IS OWED

-- P of its bytes where the call is a write at s of the view that counts; else Q
abbrev pub AtWrite : Kind → Bool → ℕ → (Bytes → Type 0) → Type 0 → Type 0
AtWrite (writes_view t b) counts s P Q = cond (counts && t == s) (P b) Q
AtWrite (writes_origin t) counts s P Q = Q
AtWrite flushes counts s P Q = Q
AtWrite uses_snapshot counts s P Q = Q
AtWrite apart counts s P Q = Q

-- P of its bytes where the call is a write at s of the view that was completed; else Q
abbrev pub Last : Kind → End → ℕ → (Bytes → Type 0) → Type 0 → Type 0
Last k e s P Q = AtWrite k (completes e) s P Q

-- P of its bytes or Q, where the call is a write at s of the view that was completed or under way; else Q
abbrev pub Perhaps : Kind → End → ℕ → (Bytes → Type 0) → Type 0 → Type 0
Perhaps k e s P Q = AtWrite k (begins e) s (λ b. P b ⊎ Q) Q

-- b was written to sector s of the view since the last completed flush or power cut, or is what s showed then; making counts as a flush
abbrev pub Candidate : {start w : Situation} → History start w → ℕ → Bytes → Type 0
Candidate {start} begun s b = shown start.disks s ≡ Some b
Candidate (next_call h c a after x) s b =
    cond (is_flush (kind c) && completes (ending a)) (shown after.disks s ≡ Some b) (Perhaps (kind c) (ending a) s (λ y. b ≡ y) (Candidate h s b))
Candidate (cut h after x) s b = shown after.disks s ≡ Some b
Candidate (rejoin h after x) s b = Candidate h s b
Candidate (making_refused h c f after x) s b = Candidate h s b

-- b is what sector s of the view is to show: the last write accepted since the last power cut; else what the cut left, a candidate then;
-- and from the making on what the origin held
abbrev pub Owed : {start w : Situation} → History start w → ℕ → Bytes → Type 0
Owed {start} begun s b = image start.disks.origin s ≡ b
Owed (next_call h c a after x) s b = Last (kind c) (ending a) s (λ y. b ≡ y) (Owed h s b)
Owed (cut h after x) s b = (shown after.disks s ≡ Some b) × Candidate h s b
Owed (rejoin h after x) s b = Owed h s b
Owed (making_refused h c f after x) s b = Owed h s b

-- every read of the view that is answered shows what is owed
abbrev pub ViewKeeps : Situation → Type 0
ViewKeeps start =
    (w after : Situation) (h : History start w) (s n : ℕ) (b : Bytes) → Happens w (read_view s n) (good (contents b)) after → Owed h s b

-- A COMPLETED MERGE LEAVES THE ORIGIN AS THE VIEW WAS

-- once a step leaves nothing, the origin reads as the view read just before; and, where that step merged something, so it does after a power cut
pub record MergeCompletes (start : Situation) : Type 0 where
  pub reads : (w after seen : Situation) (h : History start w) (k r s : ℕ) (b : Bytes) →
      Happens w (step_merge k) (good (merged r 0)) after → Happens w (read_view s 512) (good (contents b)) seen →
      image after.disks.origin s ≡ b
  pub lasts : (w after seen later : Situation) (h : History start w) (k r s : ℕ) (b : Bytes) →
      Happens w (step_merge k) (good (merged r 0)) after → Happens w (read_view s 512) (good (contents b)) seen →
      0 < r → PowerCut after later → image later.disks.origin s ≡ b

-- A SNAPSHOT IS LOST ONLY TO A FULL STORE, AND THEN FOR GOOD

-- an origin write to a chunk without a copy, where there is no place for one
abbrev pub no_place : Situation → ℕ → Memory → Bool
no_place w s closed = false
no_place w s (serving size table) =
    not (is_some (lookup table (s / sectors size))) && not (is_some (next_free (ground w.disks) size table))
no_place w s invalid = false

-- whether a call found the store full
abbrev pub found_full : Situation → Kind → End → Bool
found_full w (writes_view s b) e = false
found_full w (writes_origin s) e = begins e && no_place w s w.memory
found_full w flushes e = false
found_full w uses_snapshot e = false
found_full w apart e = false

-- the same by the machine: an origin write that it says finds the store full
abbrev pub full_by_machine : Plain → Kind → End → Bool
full_by_machine p (writes_view s b) e = false
full_by_machine p (writes_origin s) e = begins e && finds_full p s
full_by_machine p flushes e = false
full_by_machine p uses_snapshot e = false
full_by_machine p apart e = false

-- the two are the same, at every call of every history
abbrev pub FullByMachine : Machine → Situation → Type 0
FullByMachine m₀ start =
    (w after : Situation) (h : History start w) (c : Call) (a : Answer) → Happens w c a after →
    (m : Machine) × Simulates m₀ h m × (found_full w (kind c) (ending a) ≡ full_by_machine m.plain (kind c) (ending a))

-- some call of a history, begun in a situation and with an answer, is so
abbrev pub SomeCall : (Situation → Call → Answer → Bool) → {start w : Situation} → History start w → Type 0
SomeCall so begun = ⊥
SomeCall so (next_call {w} h c a after x) = T (so w c a) ⊎ SomeCall so h
SomeCall so (cut h after x) = SomeCall so h
SomeCall so (rejoin h after x) = SomeCall so h
SomeCall so (making_refused h c f after x) = SomeCall so h

-- some origin write of a history, good or under way, found the store full
abbrev pub FoundFull : {start w : Situation} → History start w → Type 0
FoundFull h = SomeCall (λ w c a. found_full w (kind c) (ending a)) h

-- a fresh pair opens while both devices are on, unless one goes inside the call, or an origin write found the store full
abbrev pub Reopens : Situation → Type 0
Reopens start =
    (w after : Situation) (h : History start w) (a : Answer) →
    w ≡ joined w.disks → T (both_on w.disks) → Happens w (reopen work_bytes) a after →
    ((both_on after.disks ≡ false) × (ending a ≡ under_way)) ⊎ ((a ≡ good nothing) ⊎ FoundFull h)

-- exactly: while both devices answer it is good if the machine's view is not void, else refused as invalid
abbrev pub OpensExactly : Machine → Situation → Type 0
OpensExactly m₀ start =
    (w after : Situation) (h : History start w) (a : Answer) →
    w ≡ joined w.disks → T (both_on w.disks) → Happens w (reopen work_bytes) a after → T (both_on after.disks) →
    (m : Machine) × Simulates m₀ h m × (a ≡ cond m.plain.void (refused (store_fault 6 0 0)) (good nothing))

-- whether an answer says that the snapshot is invalid
abbrev pub is_invalid_refusal : Answer → Bool
is_invalid_refusal (good r) = false
is_invalid_refusal (refused f) = f.number == 6

-- some call of a history was refused as invalid
abbrev pub RefusedInvalid : {start w : Situation} → History start w → Type 0
RefusedInvalid h = SomeCall (λ w c a. is_invalid_refusal a) h

-- once refused as invalid, a snapshot is never served again
abbrev pub StaysInvalid : Situation → Type 0
StaysInvalid start =
    (w after : Situation) (h : History start w) (c : Call) (r : Reply) →
    RefusedInvalid h → Happens w c (good r) after → T (not (of_snapshot (kind c)))

-- THE PROMISE

-- every history from a situation on keeps all of it, and the machine goes along with it from m on
pub record Protected (m : Machine) (start : Situation) : Type 0 where
  pub view : ViewKeeps start
  pub merge : MergeCompletes start
  pub reopens : Reopens start
  pub exactly : OpensExactly m start
  pub full : FullByMachine m start
  pub invalid_for_good : StaysInvalid start
  pub along : {w : Situation} (h : History start w) → (e : Machine) × Simulates m h e

-- a snapshot made on any two devices is protected, and the making left the origin's readings as they were
abbrev pub CrashSafe : Type 0
CrashSafe =
    (c : ℕ) (d : Disks) (start : Situation) → Whole d.origin → Whole d.cow → Made c d start →
    (size : ChunkSize) × (chunk_size c ≡ Some size) × Protected (made size start.disks) start × ((s : ℕ) → image start.disks.origin s ≡ image d.origin s)

-- every answer of every history is the machine's
abbrev pub AnswersAreTheMachines : Type 0
AnswersAreTheMachines =
    (c : ℕ) (d : Disks) (start w : Situation) (h : History start w) → Whole d.origin → Whole d.cow → Made c d start →
    (size : ChunkSize) × (chunk_size c ≡ Some size) × (e : Machine) × Simulates (made size start.disks) h e
