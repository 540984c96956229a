-- Histories of a snapshot: calls, power cuts, and pairs put together anew.
use Rattle.std.specs.Prelude.{◌≡◌, ℕ, Bool, true, false, cond, T, Some, None, Option, ◌==◌}
use Rattle.device.specs.Disk.{Bytes, Cut, Told, good, refused}
use Rattle.device.specs.Plans.{Disks, Plan, done, bind, Runs, Side, both}
use Rattle.history.specs.Faults.{Fault}
use Rattle.history.specs.Steps.{Memory, closed, Mode, plain, merging, Ground, ground, Outcome, Figures, Merged, make, open_pair, origin_read, view_read, origin_write, snapshot_write, merging_write, flush_both, status, question, merge_step, open_tests, origin_read_tests, view_read_tests, origin_write_tests, snapshot_write_tests, merging_write_tests, flush_tests, step_tests}

-- both devices, what the pair remembers, and whether it is a pair or a merging snapshot begun on one
pub record Situation : Type 0 where
  pub disks : Disks
  pub memory : Memory
  pub mode : Mode

-- The calls of a pair and of a merging snapshot, once a snapshot was made. Of a buffer that is filled or worked in, its length.
-- A read of the view is a snapshot read on a pair, and a merging read on a merging snapshot.
pub data Call : Type 0 where
  ask_status : Call
  ask_merge : Call
  read_origin : (sector : ℕ) (buffer : ℕ) → Call
  read_view : (sector : ℕ) (buffer : ℕ) → Call
  write_origin : (sector : ℕ) (bytes : Bytes) (work : ℕ) → Call
  write_snapshot : (sector : ℕ) (bytes : Bytes) (work : ℕ) → Call
  write_merging : (sector : ℕ) (bytes : Bytes) → Call
  flush_all : Call
  begin_merge : Call
  step_merge : (work : ℕ) → Call
  leave_merge : Call
  reopen : (work : ℕ) → Call

-- what a good call tells
pub data Reply : Type 0 where
  nothing : Reply
  contents : Bytes → Reply
  became_invalid : Bool → Reply
  merged : (run : ℕ) (left : ℕ) → Reply
  figures : Figures → Reply

-- what a call answers
abbrev pub Answer : Type 0
Answer = Told Fault Reply

-- which calls a pair offers, and which a merging snapshot
abbrev pub offers : Mode → Call → Bool
offers plain ask_status = true
offers plain ask_merge = true
offers plain (read_origin s n) = true
offers plain (read_view s n) = true
offers plain (write_origin s b w) = true
offers plain (write_snapshot s b w) = true
offers plain (write_merging s b) = false
offers plain flush_all = true
offers plain begin_merge = true
offers plain (step_merge w) = false
offers plain leave_merge = false
offers plain (reopen w) = true
offers merging ask_status = true
offers merging ask_merge = false
offers merging (read_origin s n) = false
offers merging (read_view s n) = true
offers merging (write_origin s b w) = false
offers merging (write_snapshot s b w) = false
offers merging (write_merging s b) = true
offers merging flush_all = true
offers merging begin_merge = false
offers merging (step_merge w) = true
offers merging leave_merge = true
offers merging (reopen w) = false

-- a call's answer, and what is remembered and held then
pub record Result : Type 0 where
  pub answer : Answer
  pub memory : Memory
  pub mode : Mode

-- an answer as a reply
abbrev pub replied : {A : Type 0} → (A → Reply) → Told Fault A → Answer
replied f (good a) = good (f a)
replied f (refused x) = refused x

-- an outcome as a result
abbrev pub resulted : {A : Type 0} → (A → Reply) → Mode → Outcome A → Result
resulted f mode o = record { answer = replied f o.answer; memory = o.memory; mode = mode }

-- a plan of steps as one of a history
abbrev pub as_call : {A : Type 0} → (A → Reply) → Mode → Plan Side (Outcome A) → Plan Side Result
as_call f mode p = bind p (λ o. done (resulted f mode o))

-- no device call
abbrev pub at_once : Answer → Memory → Mode → Plan Side Result
at_once a m mode = done (record { answer = a; memory = m; mode = mode })

-- what a question answers
abbrev pub asked : Option Fault → Answer
asked None = good nothing
asked (Some f) = refused f

-- what a merge step tells
abbrev pub told_merged : Merged → Reply
told_merged x = merged x.run x.left

-- what a call does, begun on devices g with memory m
abbrev pub plan_of : Ground → Memory → Mode → Call → Plan Side Result
plan_of g m mode ask_status = at_once (good (figures (status mode g m))) m mode
plan_of g m mode ask_merge = at_once (asked (question g m)) m mode
plan_of g m mode (read_origin s n) = as_call contents mode (origin_read g m s n)
plan_of g m mode (read_view s n) = as_call contents mode (view_read g m s n)
plan_of g m mode (write_origin s b w) = as_call became_invalid mode (origin_write g m s b w)
plan_of g m mode (write_snapshot s b w) = as_call (λ _. nothing) mode (snapshot_write g m s b w)
plan_of g m mode (write_merging s b) = as_call (λ _. nothing) mode (merging_write g m s b)
plan_of g m mode flush_all = as_call (λ _. nothing) mode (flush_both mode g m)
plan_of g m mode begin_merge = at_once (good nothing) m merging
plan_of g m mode (step_merge w) = as_call told_merged mode (merge_step g m w)
plan_of g m mode leave_merge = at_once (good nothing) m plain
plan_of g m mode (reopen w) = as_call (λ _. nothing) mode (open_pair g m w)

-- the refusal of a call before it reaches a device
abbrev pub refusal : Ground → Memory → Mode → Call → Option Fault
refusal g m mode ask_status = None
refusal g m mode ask_merge = question g m
refusal g m mode (read_origin s n) = origin_read_tests g m s n
refusal g m mode (read_view s n) = view_read_tests g m s n
refusal g m mode (write_origin s b w) = origin_write_tests g m s b w
refusal g m mode (write_snapshot s b w) = snapshot_write_tests g m s b w
refusal g m mode (write_merging s b) = merging_write_tests g m s b
refusal g m mode flush_all = flush_tests mode g m
refusal g m mode begin_merge = None
refusal g m mode (step_merge w) = step_tests g m w
refusal g m mode leave_merge = None
refusal g m mode (reopen w) = open_tests g m w

-- how a call ended: completed, under way as a device went, or not done
pub data End : Type 0 where
  completed : End
  under_way : End
  not_done : End

-- how a call ended, by its answer
abbrev pub ending : Answer → End
ending (good r) = completed
ending (refused f) = cond (f.number == 3) under_way not_done

-- in a situation a call may answer a and leave another: it is offered, and some run of its plan ends so
pub record Happens (w : Situation) (c : Call) (a : Answer) (after : Situation) : Type 0 where
  pub offered : T (offers w.mode c)
  pub ran : Runs both (plan_of (ground w.disks) w.memory w.mode c) w.disks (record { answer = a; memory = after.memory; mode = after.mode }) after.disks

-- a fresh pair on some devices, closed
abbrev pub joined : Disks → Situation
joined d = record { disks = d; memory = closed; mode = plain }

-- on some devices a good making, with chunks of c sectors, leaves a situation
pub record Made (c : ℕ) (d : Disks) (after : Situation) : Type 0 where
  pub ran : Runs both (make (ground d) closed c) d (record { answer = good tt; memory = after.memory }) after.disks
  pub pair : after.mode ≡ plain

-- a power cut ends the pair; a fresh one is put together, closed
pub record PowerCut (before after : Situation) : Type 0 where
  pub origin : Cut before.disks.origin after.disks.origin
  pub cow : Cut before.disks.cow after.disks.cow
  pub fresh : after ≡ joined after.disks

-- a pair is taken apart and put together anew, the devices as they are
abbrev pub Rejoined : Situation → Situation → Type 0
Rejoined before after = after ≡ joined before.disks

-- a pair, open or closed, refuses a making with chunks of c sectors, other than because a device goes
pub record RefusedMaking (w : Situation) (c : ℕ) (f : Fault) (after : Situation) : Type 0 where
  pub offered : w.mode ≡ plain
  pub ran : Runs both (make (ground w.disks) w.memory c) w.disks (record { answer = refused f; memory = after.memory }) after.disks
  pub pair : after.mode ≡ plain
  pub told : ending (refused f) ≡ not_done

-- what may happen from a situation on
pub data History (start : Situation) : Situation → Type 0 where
  begun : History start start
  next_call : {w : Situation} (h : History start w) (c : Call) (a : Answer) (after : Situation) → Happens w c a after → History start after
  cut : {w : Situation} (h : History start w) (after : Situation) → PowerCut w after → History start after
  rejoin : {w : Situation} (h : History start w) (after : Situation) → Rejoined w after → History start after
  making_refused : {w : Situation} (h : History start w) (c : ℕ) (f : Fault) (after : Situation) → RefusedMaking w c f after → History start after
