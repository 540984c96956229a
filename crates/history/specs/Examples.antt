-- The definitions on small closed examples.
use Rattle.std.specs.Prelude.{◌≡◌, ℕ, zero, suc, ◌+◌, Bool, true, false, cond, not, ◌&&◌, ◌||◌, List, [], ◌∷◌, ◌++◌, map, length, replicate, is_some, Some, None, Option, ◌==◌, slice_index_or, refl}
use Rattle.std.proofs.Common.{T, inl, inr, lit<, sym, ap}
use Rattle.std.proofs.ByRecursion.{has_push}
use Rattle.device.specs.Disk.{Bytes, Cell, possibilities, Disk, Whole, Fate, calm, at, Op, writes, flushes, way, off, Told, good, refused, refusal, told_by, after_by}
use Rattle.device.specs.Plain as Plain
use Rattle.device.specs.Sectors.{only as only_one}
use Rattle.device.specs.Plans.{Side, origin, cow, Disks, pair, side, with_side, Plan, done, call, both, Ended, ended, astray, run}
use Rattle.layout.specs.declared.chunk.ChunkSize.TheVariants.{One, Two}
use Rattle.layout.specs.declared.exception.Exception.{Exception}
use Rattle.layout.specs.Numbers.{le}
use Rattle.layout.specs.Entries.{pic}
use Rattle.layout.specs.Headers.{magic, header}
use Rattle.exceptions.specs.Edges.{Edges, exception, grown}
use Rattle.store.specs.Refusals.{StoreRefusal, because}
use Rattle.store.specs.Scanning.{Ending, scanning}
use Rattle.store.specs.Steps.{Contents, shape_of}
use Rattle.recovery.specs.Readings.{image, scanned, found}
use Rattle.history.specs.Faults.{Fault, fault, store_up, passed_up}
use Rattle.history.specs.Steps.{Memory, closed, serving, invalid, Mode, plain, merging, ground, Outcome, make, open_pair, origin_read, view_read, origin_write, snapshot_write, status, figures_of, merge_step, Merged}
use Rattle.history.specs.History.{Situation, Call, ask_status, ask_merge, read_origin, read_view, write_origin, write_snapshot, write_merging, flush_all, begin_merge, step_merge, leave_merge, reopen, nothing, contents, became_invalid, merged, figures, Answer, offers, Result, plan_of, Happens, joined, Made, PowerCut, History, begun, next_call, cut, rejoin, making_refused, RefusedMaking, End, completed, under_way, not_done, ending}
use Rattle.history.specs.Machine.{Plain, Machine, only, diverged_at, table_of, with_origin, with_view, made, next, fresh as rejoined, expected, making_expected, Follows, told as as_expected, broken_off, cut_short, finding, reads_at}
use Rattle.history.specs.Promise.{shown, kind, of_snapshot, Candidate, Owed, found_full, FoundFull, is_invalid_refusal, RefusedInvalid}

-- RUNS

-- a run with a fate for each device call by its number, counted from n
abbrev paced : {A : Type 0} → (ℕ → Fate) → ℕ → Plan Side A → Disks → Ended Disks A
paced f n (done a) d = ended a d
paced f n (call x o k) d =
    let e = side x d in
    let w = way o e (f n) in
    paced f (n + 1) (k (told_by w o e)) (with_side x d (after_by w o e (f n)))

-- a run in which both devices answer, and lose what they may
abbrev calmly : {A : Type 0} → Plan Side A → Disks → Ended Disks A
calmly p d = paced (λ _. calm) 0 p d

-- a sector full of a byte
abbrev full : ℕ → Bytes
full b = replicate 512 b

-- n sectors of one possibility each
abbrev device : ℕ → (ℕ → Bytes) → Disk
device n m = record { count = n; cells = λ s. record { older = []; latest = m s }; on = true }

-- an origin of three sectors, 10, 11 and 12; a COW device of n
abbrev fresh : ℕ → Disks
fresh n = pair (device 3 (λ s. full (10 + s))) (device n (λ s. full 7))

-- both devices, and what the pair remembers
pub record State : Type 0 where
  pub disks : Disks
  pub memory : Memory

-- no answer: the run is astray
abbrev no_answer : Fault
no_answer = fault 0 0 0 0 0

-- what a run leaves, and what it answers
abbrev left : {A : Type 0} → Ended Disks (Outcome A) → State
left (ended o d) = record { disks = d; memory = o.memory }
left astray = record { disks = fresh 3; memory = closed }

abbrev answer : {A : Type 0} → Ended Disks (Outcome A) → Told Fault A
answer (ended o d) = o.answer
answer astray = refused no_answer

-- a snapshot just made, chunks of one sector, a COW device of n
abbrev new : ℕ → State
new n = left (calmly (make (ground (fresh n)) closed 1) (fresh n))

-- the calls on a state
abbrev origin_written : State → ℕ → ℕ → Ended Disks (Outcome Bool)
origin_written p s b = calmly (origin_write (ground p.disks) p.memory s (full b) 8192) p.disks

abbrev snapshot_written : State → ℕ → ℕ → Ended Disks (Outcome (Unit {0}))
snapshot_written p s b = calmly (snapshot_write (ground p.disks) p.memory s (full b) 8192) p.disks

abbrev view_at : State → ℕ → Told Fault Bytes
view_at p s = answer (calmly (view_read (ground p.disks) p.memory s 512) p.disks)

abbrev origin_at : State → ℕ → Told Fault Bytes
origin_at p s = answer (calmly (origin_read (ground p.disks) p.memory s 512) p.disks)

abbrev reopened : Disks → Ended Disks (Outcome (Unit {0}))
reopened d = calmly (open_pair (ground d) closed 8192) d

abbrev stepped : State → Ended Disks (Outcome Merged)
stepped p = calmly (merge_step (ground p.disks) p.memory 8192) p.disks

-- MAKING

pub make_memory : (new 8).memory ≡ serving One []
make_memory = refl

pub make_header : image (new 8).disks.cow 0 ≡ header true 1
make_header = refl

pub make_area : image (new 8).disks.cow 1 ≡ full 0
make_area = refl

-- seven device calls, neither fewer nor more
abbrev make_run : ℕ → Ended Disks (Outcome (Unit {0}))
make_run n = run both (make (ground (fresh 3)) closed 1) (replicate n calm) (fresh 3)

pub make_7 : answer (make_run 7) ≡ good tt
make_7 = refl

pub make_not_6 : make_run 6 ≡ astray
make_not_6 = refl

pub make_not_8 : make_run 8 ≡ astray
make_not_8 = refl

-- three sectors are no chunk size; an origin of three is no whole chunks of two; two COW sectors are too few
pub make_size : answer (calmly (make (ground (fresh 8)) closed 3) (fresh 8)) ≡ refused (fault 8 3 0 0 0)
make_size = refl

pub make_shape : answer (calmly (make (ground (fresh 8)) closed 2) (fresh 8)) ≡ refused (fault 9 3 0 0 0)
make_shape = refl

pub make_small : answer (calmly (make (ground (fresh 2)) closed 1) (fresh 2)) ≡ refused (fault 9 3 0 0 0)
make_small = refl

-- on an open pair, though the size is wrong too
pub make_open : answer (calmly (make (ground (fresh 8)) (serving One []) 3) (fresh 8)) ≡ refused (fault 4 3 0 0 0)
make_open = refl

-- ORIGIN WRITES

-- the first to a chunk copies it
abbrev one : State
one = left (origin_written (new 8) 1 99)

pub one_memory : one.memory ≡ serving One (exception 1 2 ∷ [])
one_memory = refl

pub one_view : view_at one 1 ≡ good (full 11)
one_view = refl

pub one_origin : origin_at one 1 ≡ good (full 99)
one_origin = refl

pub one_opens : (left (reopened one.disks)).memory ≡ serving One (exception 1 2 ∷ [])
unfolding scanning scanned
one_opens = refl

pub one_found : finding one.disks ≡ good (record { size = One; table = exception 1 2 ∷ [] })
unfolding scanning scanned
one_found = refl

-- the second copies nothing: one device call
pub again_run : answer (run both (origin_write (ground one.disks) one.memory 1 (full 98) 8192) (calm ∷ []) one.disks) ≡ good false
again_run = refl

-- A FULL STORE

-- three COW sectors hold one exception
abbrev tiny : State
tiny = left (origin_written (new 3) 0 50)

pub tiny_refuses : answer (snapshot_written tiny 1 60) ≡ refused (fault 7 2 2 1 0)
tiny_refuses = refl

-- a chunk that has a copy is written to all the same
pub tiny_writes : answer (snapshot_written tiny 0 60) ≡ good tt
tiny_writes = refl

-- the next origin write spoils it
abbrev spoiled : State
spoiled = left (origin_written tiny 1 60)

pub tiny_spoils : answer (origin_written tiny 1 60) ≡ good true
tiny_spoils = refl

pub spoiled_origin : origin_at spoiled 1 ≡ good (full 60)
spoiled_origin = refl

pub spoiled_opens : answer (reopened spoiled.disks) ≡ refused (fault 6 2 2 0 0)
spoiled_opens = refl

pub spoiled_view : view_at spoiled 0 ≡ refused (fault 6 3 0 0 0)
spoiled_view = refl

-- an origin write says so once
pub spoiled_once : answer (origin_written spoiled 2 61) ≡ good false
spoiled_once = refl

-- MERGING

abbrev three : State
three = left (snapshot_written (left (origin_written one 2 98)) 0 77)

pub three_memory : three.memory ≡ serving One (exception 1 2 ∷ exception 2 3 ∷ exception 0 4 ∷ [])
three_memory = refl

pub step_1 : answer (stepped three) ≡ good (record { run = 1; left = 2 })
step_1 = refl

pub step_2 : answer (stepped (left (stepped three))) ≡ good (record { run = 2; left = 0 })
step_2 = refl

abbrev all_merged : State
all_merged = left (stepped (left (stepped three)))

pub step_3 : answer (stepped all_merged) ≡ good (record { run = 0; left = 0 })
step_3 = refl

pub merged_0 : origin_at all_merged 0 ≡ good (full 77)
merged_0 = refl

pub merged_1 : origin_at all_merged 1 ≡ good (full 11)
merged_1 = refl

pub merged_2 : origin_at all_merged 2 ≡ good (full 12)
merged_2 = refl

pub merged_opens : (left (reopened all_merged.disks)).memory ≡ serving One []
unfolding scanning scanned
merged_opens = refl

-- STATUS

pub status_merging : status merging (ground three.disks) three.memory ≡ record { state = 2; exceptions = 3; allocated = 5; metadata = 2 }
status_merging = refl

pub status_active : status plain (ground three.disks) three.memory ≡ record { state = 1; exceptions = 3; allocated = 5; metadata = 2 }
status_active = refl

pub status_closed : status plain (ground (fresh 8)) closed ≡ record { state = 0; exceptions = 0; allocated = 0; metadata = 0 }
status_closed = refl

pub status_invalid : status merging (ground spoiled.disks) spoiled.memory ≡ record { state = 3; exceptions = 0; allocated = 0; metadata = 0 }
status_invalid = refl

-- OPENING

-- sector 0, then area 0, then zeros
abbrev cow_image : Bytes → Bytes → ℕ → Bytes
cow_image head area s = cond (s == 0) head (cond (s == 1) area (full 0))

-- what is found of some entries in chunks of one sector; three sectors of origin, eight of COW
abbrev finds : List Exception → Told StoreRefusal Contents
finds es = found (record { origin = 3; cow = 8 }) (cow_image (header true 1) (pic es 0))

pub repeated_old : finds (exception 1 2 ∷ exception 1 3 ∷ []) ≡ refused (because 13 0 1)
unfolding scanning scanned
repeated_old = refl

pub repeated_new : finds (exception 1 2 ∷ exception 2 2 ∷ []) ≡ refused (because 13 0 1)
unfolding scanning scanned
repeated_new = refl

pub far_old : finds (exception 3 2 ∷ []) ≡ refused (because 13 0 0)
unfolding scanning scanned
far_old = refl

pub far_new : finds (exception 2 8 ∷ []) ≡ refused (because 13 0 0)
unfolding scanning scanned
far_new = refl

pub area_as_new : finds (exception 2 1 ∷ []) ≡ refused (because 13 0 0)
unfolding scanning scanned
area_as_new = refl

-- after n exceptions one more entry, damaged as well
abbrev one_more : ℕ → Told StoreRefusal Ending
one_more n =
    scanned (shape_of (record { origin = 3; cow = 8 }) One) (cow_image (header true 1) (pic (exception 9 9 ∷ []) 0)) 1 0 (replicate n (exception 0 2))

pub too_many : one_more 2048 ≡ refused (because 14 0 0)
unfolding scanning scanned
too_many = refl

pub not_too_many : one_more 2047 ≡ refused (because 13 0 0)
unfolding scanning scanned
not_too_many = refl

-- an entry whose new chunk is 0 ends the list, whatever stands after it
abbrev unclean : List Exception
unclean = exception 0 2 ∷ exception 5 0 ∷ exception 9 9 ∷ []

pub ends_list : finds unclean ≡ good (record { size = One; table = exception 0 2 ∷ [] })
unfolding scanning scanned
ends_list = refl

-- three sectors of origin; a COW device of eight
abbrev with_cow : Bytes → Bytes → Disks
with_cow head area = pair (device 3 (λ s. full (10 + s))) (device 8 (cow_image head area))

-- opening writes zeros after the end
pub cleaned : image (left (reopened (with_cow (header true 1) (pic unclean 0)))).disks.cow 1 ≡ pic (exception 0 2 ∷ []) 0
unfolding scanning scanned
cleaned = refl

-- a header's bytes by its fields
abbrev head : Bytes → ℕ → ℕ → ℕ → Bytes
head m valid version c = m ++ (le 4 valid ++ (le 4 version ++ (le 4 c ++ replicate 496 0)))

-- the answer of opening a store with such a header and no exceptions
abbrev opens : Bytes → Told Fault (Unit {0})
opens h = answer (reopened (with_cow h (full 0)))

pub opens_empty : opens (head magic 1 1 1) ≡ good tt
unfolding scanning scanned
opens_empty = refl

-- tested first, though all other fields are wrong too
pub no_magic : opens (head (le 4 0) 2 2 3) ≡ refused (fault 10 2 2 0 0)
no_magic = refl

pub wrong_version : opens (head magic 2 2 3) ≡ refused (fault 11 2 2 0 0)
wrong_version = refl

pub version_0 : opens (head magic 1 0 1) ≡ refused (fault 11 2 2 0 0)
version_0 = refl

pub wrong_chunk : opens (head magic 1 1 3) ≡ refused (fault 12 2 2 0 0)
wrong_chunk = refl

pub chunk_0 : opens (head magic 1 1 0) ≡ refused (fault 12 2 2 0 0)
chunk_0 = refl

pub chunk_32 : opens (head magic 0 1 32) ≡ refused (fault 12 2 2 0 0)
chunk_32 = refl

pub wrong_valid : opens (head magic 2 1 1) ≡ refused (fault 12 2 2 0 0)
wrong_valid = refl

-- before valid 0 is looked at: three sectors are no whole chunks of two
pub wrong_shape : opens (head magic 0 1 2) ≡ refused (fault 9 3 0 0 0)
wrong_shape = refl

pub valid_0 : opens (head magic 0 1 1) ≡ refused (fault 6 2 2 0 0)
valid_0 = refl

-- the same of the image alone
pub no_magic_found : found (record { origin = 3; cow = 8 }) (λ _. full 0) ≡ refused (because 10 0 0)
no_magic_found = refl

pub shape_found : found (record { origin = 3; cow = 2 }) (cow_image (header true 1) (full 0)) ≡ refused (because 9 0 0)
shape_found = refl

pub version_found : found (record { origin = 3; cow = 8 }) (cow_image (head magic 1 2 1) (full 0)) ≡ refused (because 11 0 0)
version_found = refl

pub field_found : found (record { origin = 3; cow = 8 }) (cow_image (head magic 2 1 1) (full 0)) ≡ refused (because 12 0 0)
field_found = refl

-- REFUSALS

-- the origin's and the COW device's own; the store's; and 9, which is the pair's
pub origin_gone : passed_up origin (refusal 3 5) ≡ fault 3 1 1 5 0
origin_gone = refl

pub cow_gone : passed_up cow (refusal 3 5) ≡ fault 3 1 2 5 0
cow_gone = refl

pub store_damaged : store_up (because 13 1 4) ≡ fault 13 2 2 1 4
store_damaged = refl

pub store_misshaped : store_up (because 9 0 0) ≡ fault 9 3 0 0 0
store_misshaped = refl

-- a pair whose origin is gone
abbrev stopped : Disks
stopped = pair (off (new 8).disks.origin) (new 8).disks.cow

-- each is tested before the next: a buffer's length, a device that is gone, closed, invalid, and the sector
pub first_1 : answer (calmly (snapshot_write (ground stopped) closed 9 (full 1) 512) stopped) ≡ refused (fault 1 3 0 0 0)
first_1 = refl

pub then_5 : answer (calmly (snapshot_write (ground stopped) closed 9 (full 1) 8192) stopped) ≡ refused (fault 5 3 0 0 0)
then_5 = refl

pub then_4 : answer (calmly (snapshot_write (ground (fresh 8)) closed 9 (full 1) 8192) (fresh 8)) ≡ refused (fault 4 3 0 0 0)
then_4 = refl

pub then_6 : answer (calmly (snapshot_write (ground (fresh 8)) invalid 9 (full 1) 8192) (fresh 8)) ≡ refused (fault 6 3 0 0 0)
then_6 = refl

pub then_2 : answer (snapshot_written (new 8) 9 1) ≡ refused (fault 2 3 0 9 0)
then_2 = refl

-- an invalid pair that is stopped
pub stopped_invalid : answer (calmly (view_read (ground stopped) invalid 1 512) stopped) ≡ refused (fault 5 3 0 0 0)
stopped_invalid = refl

-- stopped, though the chunk size is wrong too
pub make_stopped : answer (calmly (make (ground stopped) closed 3) stopped) ≡ refused (fault 5 3 0 0 0)
make_stopped = refl

pub status_stopped : status plain (ground stopped) (serving One []) ≡ record { state = 4; exceptions = 0; allocated = 0; metadata = 0 }
status_stopped = refl

-- a device goes inside the write of the entry: the call ends there, and nothing more is remembered
abbrev going : Fate
going = record { goes = true; took = true; keeps = λ _. []; last = 1 }

abbrev gone_run : Ended Disks (Outcome Bool)
gone_run = run both (origin_write (ground (new 8).disks) (new 8).memory 1 (full 99) 8192) (calm ∷ calm ∷ calm ∷ going ∷ []) (new 8).disks

pub gone_answer : answer gone_run ≡ refused (fault 3 1 2 1 0)
gone_answer = refl

pub gone_memory : (left gone_run).memory ≡ serving One []
gone_memory = refl

-- EDGES

pub edges : Edges
edges = ((refl, refl, refl), (refl, refl), (refl, refl, refl, refl), ((refl, refl), (refl, refl), (refl, refl)))

pub figures_0 : figures_of 1 One [] ≡ record { state = 1; exceptions = 0; allocated = 2; metadata = 2 }
figures_0 = refl

pub figures_32 : figures_of 1 One (grown 1 32) ≡ record { state = 1; exceptions = 32; allocated = 35; metadata = 2 }
figures_32 = refl

pub figures_33 : figures_of 1 One (grown 1 33) ≡ record { state = 1; exceptions = 33; allocated = 36; metadata = 3 }
figures_33 = refl

-- HISTORIES

-- a call, with a fate for each of its device calls by number, and its answer; a pair put together anew; a power cut, by what it leaves
-- of each sector
pub data Event : Type 0 where
  calls : (ℕ → Fate) → Call → Answer → Event
  again : Event
  cut_to : (Cell → Bytes) → Event

-- two possibilities stay beside the last
abbrev hoarding : Bool → Bool → Fate
hoarding goes took = record { goes = goes; took = took; keeps = λ _. 0 ∷ 1 ∷ []; last = 9 }

-- both devices answer
abbrev does : Call → Answer → Event
does c a = calls (λ _. hoarding false false) c a

-- a device goes inside device call k, having taken the bytes or not
abbrev breaks : ℕ → Bool → Call → Answer → Event
breaks k took c a = calls (λ n. hoarding (n == k) took) c a

-- each sector has its first possibility, or its last
abbrev cut_old : Event
cut_old = cut_to (λ k. at k 0)

abbrev cut_new : Event
cut_new = cut_to (λ k. k.latest)

-- the answers that stand in some events
abbrev told : List Event → List Answer
told [] = []
told (calls f c a ∷ es) = a ∷ told es
told (again ∷ es) = told es
told (cut_to f ∷ es) = told es

-- a call in a situation: what it answers, and what it leaves
abbrev called : (ℕ → Fate) → Call → Situation → Ended Disks Result
called f c w = paced f 0 (plan_of (ground w.disks) w.memory w.mode c) w.disks

abbrev said : Ended Disks Result → Answer
said (ended r d) = r.answer
said astray = refused no_answer

abbrev situation : Ended Disks Result → Situation → Situation
situation (ended r d) w = record { disks = d; memory = r.memory; mode = r.mode }
situation astray w = w

-- a situation after a power cut
abbrev cut_situation : (Cell → Bytes) → Situation → Situation
cut_situation f w =
    let o = w.disks.origin in
    let c = w.disks.cow in
    joined (pair (device o.count (λ s. f (o.cells s))) (device c.count (λ s. f (c.cells s))))

-- what the calls of some events answer
abbrev answers : List Event → Situation → List Answer
answers [] w = []
answers (calls f c a ∷ es) w = let r = called f c w in said r ∷ answers es (situation r w)
answers (again ∷ es) w = answers es (joined w.disks)
answers (cut_to f ∷ es) w = answers es (cut_situation f w)

-- the situation after some events
abbrev situation_after : List Event → Situation → Situation
situation_after [] w = w
situation_after (calls f c a ∷ es) w = situation_after es (situation (called f c w) w)
situation_after (again ∷ es) w = situation_after es (joined w.disks)
situation_after (cut_to f ∷ es) w = situation_after es (cut_situation f w)

-- a snapshot just made, chunks of c sectors, on an origin of o sectors that read 100, 101 and so on; a COW device of n
abbrev start : ℕ → ℕ → ℕ → Situation
start c o n =
    let d = pair (device o (λ s. full (100 + s))) (device n (λ s. full 7)) in
    let p = left (calmly (make (ground d) closed c) d) in
    record { disks = p.disks; memory = p.memory; mode = plain }

-- THE MACHINE BESIDE THEM

-- sectors are compared by their first byte: all are full of one
abbrev same : Bytes → Bytes → Bool
same a b = slice_index_or a 0 256 == slice_index_or b 0 256

-- whether bytes are among some
abbrev among : Bytes → List Bytes → Bool
among b [] = false
among b (x ∷ xs) = same b x || among b xs

-- whether f holds of each number below n
abbrev below : ℕ → (ℕ → Bool) → Bool
below zero f = true
below (suc n) f = below n f && f n

-- whether two tables are the same
abbrev same_table : List Exception → List Exception → Bool
same_table [] [] = true
same_table [] (y ∷ ys) = false
same_table (x ∷ xs) [] = false
same_table (x ∷ xs) (y ∷ ys) = x.old == y.old && (x.new == y.new && same_table xs ys)

-- opening finds the diverged chunks at their places, or the store spoiled where the view is void
abbrev same_finding : Told StoreRefusal Contents → Plain → Bool
same_finding (good o) p = not p.void && same_table o.table (table_of p)
same_finding (refused f) p = p.void && f.number == 6

-- what sector s of the view reads on some devices
abbrev view_of : Disks → Plain → ℕ → Bytes
view_of d p s = reads_at d p.chunk (table_of p) s

-- the plain disks read as the devices do
abbrev agrees : Disks → Plain → Bool
agrees d p =
    same_finding (finding d) p
    && below p.size.origin (λ s. same (image d.origin s) (p.origin s).latest && (p.void || same (view_of d p s) (p.view s).latest))

-- a cut of the plain disks may leave what the devices read; outside the diverged chunks one choice serves origin and view
abbrev may_leave : Disks → Plain → Bool
may_leave d p =
    same_finding (finding d) p
    && below p.size.origin (λ s.
    among (image d.origin s) (possibilities (p.origin s))
    && (p.void || cond (diverged_at p s) (among (view_of d p s) (possibilities (p.view s))) (same (view_of d p s) (image d.origin s))))

-- a fresh pair on plain disks that read as the devices do
abbrev pinned_to : Disks → Plain → Machine
pinned_to d p = record {
  plain = with_view (with_origin p (λ s. only (image d.origin s))) (λ s. only (view_of d p s));
  opened = false;
  mode = plain;
  pending = None;
}

-- of some plain disks, the first of which a cut may leave what the devices read
abbrev came_to : Disks → List Plain → Option Machine
came_to d [] = None
came_to d (p ∷ ps) = cond (may_leave d p) (Some (pinned_to d p)) (came_to d ps)

-- the answer by the machine, unless a device went inside the call
abbrev foretold : Machine → Call → Answer → End → Answer
foretold m c a completed = expected m c
foretold m c a under_way = a
foretold m c a not_done = expected m c

-- an answer, where a device is gone or the machine reads as the devices do
abbrev agreeing : Disks → Machine → Answer → Answer
agreeing d m a = cond (is_some m.pending || agrees d m.plain) a (refused no_answer)

-- what the machine says that the calls of some events answer; it is told how each call ended, and at a cut what the devices read then
abbrev predicted : List Event → Situation → Machine → List Answer
predicted [] w m = []
predicted (calls f c a ∷ es) w m =
    let r = called f c w in
    let v = situation r w in
    let e = ending (said r) in
    agreeing v.disks (next m c e) (foretold m c (said r) e) ∷ predicted es v (next m c e)
predicted (again ∷ es) w m = predicted es (joined w.disks) (rejoined m)
predicted (cut_to f ∷ es) w m =
    let v = cut_situation f w in
    elim (came_to v.disks (cut_short m.plain m.pending)) [ None ↦ refused no_answer ∷ [] | Some n ↦ predicted es v n ]

-- WHOLE HISTORIES

-- calls, with sectors full of a byte
abbrev to_origin : ℕ → ℕ → Call
to_origin s b = write_origin s (full b) 8192

abbrev to_view : ℕ → ℕ → Call
to_view s b = write_snapshot s (full b) 8192

abbrev to_merging : ℕ → ℕ → Call
to_merging s b = write_merging s (full b)

abbrev from_origin : ℕ → Call
from_origin s = read_origin s 512

abbrev from_view : ℕ → Call
from_view s = read_view s 512

abbrev a_step : Call
a_step = step_merge 8192

abbrev an_opening : Call
an_opening = reopen 8192

-- answers
abbrev ok : Answer
ok = good nothing

abbrev still_valid : Answer
still_valid = good (became_invalid false)

abbrev now_invalid : Answer
now_invalid = good (became_invalid true)

abbrev reads : ℕ → Answer
reads b = good (contents (full b))

abbrev steps : ℕ → ℕ → Answer
steps run left = good (merged run left)

abbrev counts : ℕ → ℕ → ℕ → ℕ → Answer
counts state n allocated metadata = good (figures (record { state = state; exceptions = n; allocated = allocated; metadata = metadata }))

-- the COW device has five sectors: three exceptions, then none fits
abbrev full_store : List Event
full_store =
    does (to_origin 3 1) still_valid ∷
    does ask_status (counts 1 1 3 2) ∷
    does (to_origin 5 3) still_valid ∷
    does (to_origin 0 4) still_valid ∷
    does (to_origin 0 5) still_valid ∷
    does (to_view 0 6) ok ∷
    does flush_all ok ∷
    does ask_merge ok ∷
    does (to_view 1 9) (refused (fault 7 2 2 1 0)) ∷
    does flush_all ok ∷
    does (to_origin 2 11) now_invalid ∷
    does ask_merge (refused (fault 6 3 0 0 0)) ∷
    does (to_origin 3 13) still_valid ∷
    does (from_view 4) (refused (fault 6 3 0 0 0)) ∷
    does (to_origin 3 15) still_valid ∷
    does (from_origin 2) (reads 11) ∷
    does flush_all ok ∷
    does ask_merge (refused (fault 6 3 0 0 0)) ∷
    does flush_all ok ∷
    does (to_origin 1 20) still_valid ∷
    does begin_merge ok ∷
    does (to_merging 0 22) (refused (fault 6 3 0 0 0)) ∷
    does a_step (refused (fault 6 3 0 0 0)) ∷
    does flush_all (refused (fault 6 3 0 0 0)) ∷
    does (from_view 4) (refused (fault 6 3 0 0 0)) ∷
    does leave_merge ok ∷
    []

pub full_store_answers : answers full_store (start 1 6 5) ≡ told full_store
unfolding scanning scanned
full_store_answers = refl

pub full_store_machine : predicted full_store (start 1 6 5) (made One (start 1 6 5).disks) ≡ told full_store
unfolding scanning scanned
full_store_machine = refl

-- chunks of two sectors, two merge steps
abbrev merge : List Event
merge =
    does (to_view 0 1) ok ∷
    does (to_view 12 2) (refused (fault 2 3 0 12 0)) ∷
    does (to_origin 1 3) still_valid ∷
    does (to_origin 5 4) still_valid ∷
    does flush_all ok ∷
    does (from_origin 4) (reads 104) ∷
    does ask_status (counts 1 2 8 4) ∷
    does flush_all ok ∷
    does (to_view 0 9) ok ∷
    does (to_view 7 10) ok ∷
    does ask_merge ok ∷
    does (from_view 2) (reads 102) ∷
    does ask_status (counts 1 3 10 4) ∷
    does begin_merge ok ∷
    does ask_status (counts 2 3 10 4) ∷
    does flush_all ok ∷
    does ask_status (counts 2 3 10 4) ∷
    does (from_view 3) (reads 103) ∷
    does (from_view 9) (reads 109) ∷
    does (to_merging 8 20) ok ∷
    does flush_all ok ∷
    does flush_all ok ∷
    does (from_view 3) (reads 103) ∷
    does a_step (steps 2 1) ∷
    does a_step (steps 1 0) ∷
    does leave_merge ok ∷
    []

pub merge_answers : answers merge (start 2 12 13) ≡ told merge
unfolding scanning scanned
merge_answers = refl

pub merge_machine : predicted merge (start 2 12 13) (made Two (start 2 12 13).disks) ≡ told merge
unfolding scanning scanned
merge_machine = refl

-- calls that devices go inside, and power cuts
abbrev cuts_a : List Event
cuts_a =
    does (to_view 4 1) ok ∷
    again ∷
    does an_opening ok ∷
    does (from_view 1) (reads 101) ∷
    does (from_origin 4) (reads 104) ∷
    does (from_view 2) (reads 102) ∷
    breaks 5 true (to_view 3 6) (refused (fault 3 1 2 3 0)) ∷
    does ask_status (counts 4 0 0 0) ∷
    cut_new ∷
    does an_opening ok ∷
    does (from_origin 0) (reads 100) ∷
    breaks 3 true (to_origin 0 10) (refused (fault 3 1 2 1 0)) ∷
    does (to_origin 4 11) (refused (fault 5 3 0 0 0)) ∷
    cut_old ∷
    does an_opening ok ∷
    does (to_origin 4 13) still_valid ∷
    does (to_origin 5 14) still_valid ∷
    does (from_view 5) (reads 105) ∷
    does ask_status (counts 1 3 5 2) ∷
    does (to_origin 3 17) still_valid ∷
    does begin_merge ok ∷
    does (from_view 4) (reads 1) ∷
    does leave_merge ok ∷
    does (from_view 1) (reads 101) ∷
    does (from_origin 4) (reads 13) ∷
    cut_old ∷
    does an_opening ok ∷
    cut_new ∷
    does an_opening ok ∷
    does (from_view 0) (reads 100) ∷
    does ask_status (counts 1 3 5 2) ∷
    breaks 4 true (to_origin 0 27) (refused (fault 3 1 2 0 0)) ∷
    cut_old ∷
    does an_opening ok ∷
    does (to_origin 2 29) still_valid ∷
    does (to_origin 5 30) still_valid ∷
    does flush_all ok ∷
    does (to_origin 0 32) still_valid ∷
    breaks 4 false (to_origin 1 33) (refused (fault 3 1 2 0 0)) ∷
    cut_new ∷
    does an_opening ok ∷
    does begin_merge ok ∷
    does a_step (steps 2 4) ∷
    breaks 2 false a_step (refused (fault 3 1 1 0 0)) ∷
    cut_old ∷
    []

pub cuts_a_answers : answers cuts_a (start 1 6 8) ≡ told cuts_a
unfolding scanning scanned
cuts_a_answers = refl

pub cuts_a_machine : predicted cuts_a (start 1 6 8) (made One (start 1 6 8).disks) ≡ told cuts_a
unfolding scanning scanned
cuts_a_machine = refl

-- the same with chunks of two sectors
abbrev cuts_b : List Event
cuts_b =
    breaks 7 false (to_view 3 1) (refused (fault 3 1 2 5 0)) ∷
    cut_old ∷
    does (to_view 3 2) (refused (fault 4 3 0 0 0)) ∷
    does an_opening ok ∷
    does begin_merge ok ∷
    breaks 5 true a_step (refused (fault 3 1 2 2 0)) ∷
    does a_step (refused (fault 5 3 0 0 0)) ∷
    cut_new ∷
    breaks 1 false an_opening (refused (fault 3 1 2 2 0)) ∷
    cut_old ∷
    does an_opening ok ∷
    does (from_origin 5) (reads 105) ∷
    does (to_origin 0 10) still_valid ∷
    does (to_origin 4 11) still_valid ∷
    does (to_origin 6 12) still_valid ∷
    does begin_merge ok ∷
    does leave_merge ok ∷
    breaks 0 true (to_origin 1 15) (refused (fault 3 1 1 1 0)) ∷
    does flush_all (refused (fault 5 3 0 0 0)) ∷
    does flush_all (refused (fault 5 3 0 0 0)) ∷
    cut_old ∷
    does an_opening ok ∷
    does flush_all ok ∷
    breaks 4 true (to_view 2 20) (refused (fault 3 1 2 0 0)) ∷
    cut_old ∷
    does an_opening ok ∷
    does begin_merge ok ∷
    does ask_status (counts 2 3 10 4) ∷
    does (from_view 5) (reads 105) ∷
    does a_step (steps 2 1) ∷
    does leave_merge ok ∷
    breaks 0 false (to_view 4 27) (refused (fault 3 1 1 4 0)) ∷
    does begin_merge ok ∷
    does leave_merge ok ∷
    does (to_view 3 30) (refused (fault 5 3 0 0 0)) ∷
    does ask_status (counts 4 0 0 0) ∷
    does (from_view 1) (refused (fault 5 3 0 0 0)) ∷
    does (from_origin 5) (refused (fault 5 3 0 0 0)) ∷
    cut_new ∷
    does (to_origin 4 34) (refused (fault 4 3 0 0 0)) ∷
    does an_opening ok ∷
    does (from_view 5) (reads 105) ∷
    does (to_view 1 37) ok ∷
    does (from_view 7) (reads 107) ∷
    does ask_status (counts 1 1 6 4) ∷
    []

pub cuts_b_answers : answers cuts_b (start 2 8 14) ≡ told cuts_b
unfolding scanning scanned
cuts_b_answers = refl

pub cuts_b_machine : predicted cuts_b (start 2 8 14) (made Two (start 2 8 14).disks) ≡ told cuts_b
unfolding scanning scanned
cuts_b_machine = refl

-- snapshot writes to n sectors from s on
abbrev written_from : ℕ → ℕ → List Event
written_from s zero = []
written_from s (suc n) = does (to_view s (s + 1)) ok ∷ written_from (s + 1) n

-- an area is filled, then the next one begun
abbrev crossing : List Event
crossing =
    written_from 0 31 ++ (
    breaks 3 true (to_origin 35 9) (refused (fault 3 1 2 0 0)) ∷
    cut_old ∷
    does an_opening ok ∷
    does (to_origin 35 9) still_valid ∷
    does ask_status (counts 1 32 35 2) ∷
    does (to_view 36 9) ok ∷
    does (to_view 37 8) ok ∷
    does ask_status (counts 1 34 37 3) ∷
    does (to_view 38 9) (refused (fault 7 2 2 38 0)) ∷
    does (to_origin 0 77) still_valid ∷
    cut_old ∷
    does an_opening ok ∷
    does ask_status (counts 1 34 37 3) ∷
    does (from_view 35) (reads 135) ∷
    does (from_view 36) (reads 9) ∷
    does begin_merge ok ∷
    does a_step (steps 2 32) ∷
    does ask_status (counts 2 32 35 2) ∷
    does a_step (steps 1 31) ∷
    does a_step (steps 31 0) ∷
    does a_step (steps 0 0) ∷
    does leave_merge ok ∷
    does (from_origin 5) (reads 6) ∷
    does (from_origin 35) (reads 135) ∷
    [])

pub crossing_answers : answers crossing (start 1 40 37) ≡ told crossing
unfolding scanning scanned
crossing_answers = refl

pub crossing_machine : predicted crossing (start 1 40 37) (made One (start 1 40 37).disks) ≡ told crossing
unfolding scanning scanned
crossing_machine = refl

-- a merging write outside the diverged chunks reaches the origin, and one inside them the copy
abbrev merging_writes : List Event
merging_writes =
    does (to_origin 1 99) still_valid ∷
    does begin_merge ok ∷
    does (to_merging 2 50) ok ∷
    does (to_merging 1 51) ok ∷
    does (from_view 2) (reads 50) ∷
    does (from_view 1) (reads 51) ∷
    does leave_merge ok ∷
    does (from_origin 2) (reads 50) ∷
    does (from_origin 1) (reads 99) ∷
    cut_old ∷
    does an_opening ok ∷
    does (from_view 2) (reads 102) ∷
    does (from_origin 2) (reads 102) ∷
    []

pub merging_writes_answers : answers merging_writes (start 1 6 8) ≡ told merging_writes
unfolding scanning scanned
merging_writes_answers = refl

pub merging_writes_machine : predicted merging_writes (start 1 6 8) (made One (start 1 6 8).disks) ≡ told merging_writes
unfolding scanning scanned
merging_writes_machine = refl

-- THE ORDER OF REFUSALS

-- the number that an answer is refused with, 0 where it is good
abbrev number : {A : Type 0} → Told Fault A → ℕ
number (good a) = 0
number (refused f) = f.number

-- a call on some devices, by what is remembered
abbrev met : Disks → Mode → Memory → Call → ℕ
met d mode m c = number (said (paced (λ _. calm) 0 (plan_of (ground d) m mode c) d))

-- while both devices are on; while the origin is gone; while the COW device is
abbrev while_on : Mode → Memory → Call → ℕ
while_on mode m c = met (new 8).disks mode m c

abbrev no_origin : Mode → Memory → Call → ℕ
no_origin mode m c = met stopped mode m c

abbrev no_cow : Mode → Memory → Call → ℕ
no_cow mode m c = met (pair (new 8).disks.origin (off (new 8).disks.cow)) mode m c

-- a pair that serves, with chunks of one sector and no exceptions
abbrev served : Memory
served = serving One []

-- bytes that are no sector
abbrev short : Bytes
short = 5 ∷ []

-- a making: first all that is tested fails, then ever less. A wrong size is told before the shape
abbrev makes : Disks → Memory → ℕ → ℕ
makes d m c = number (answer (calmly (make (ground d) m c) d))

pub order_make :
    makes stopped served 3 ∷ makes stopped invalid 3 ∷ makes stopped closed 3 ∷ makes (fresh 2) served 3 ∷ makes (fresh 2) invalid 3
    ∷ makes (fresh 2) closed 3 ∷ makes (fresh 2) closed 1 ∷ makes (fresh 8) closed 2 ∷ makes (fresh 8) closed 1 ∷ []
    ≡ 5 ∷ 5 ∷ 5 ∷ 4 ∷ 4 ∷ 8 ∷ 9 ∷ 9 ∷ 0 ∷ []
order_make = refl

-- an opening: then its scan, as above
pub order_open :
    no_origin plain served (reopen 512) ∷ no_origin plain served (reopen 8192) ∷ no_cow plain invalid (reopen 8192)
    ∷ while_on plain served (reopen 8192) ∷ while_on plain invalid (reopen 8192) ∷ while_on plain closed (reopen 512)
    ∷ while_on plain closed (reopen 8192) ∷ []
    ≡ 1 ∷ 5 ∷ 5 ∷ 4 ∷ 4 ∷ 1 ∷ 0 ∷ []
unfolding scanning scanned
order_open = refl

-- an origin read: an invalid pair serves it
pub order_origin_read :
    no_origin plain closed (read_origin 9 5) ∷ no_origin plain closed (read_origin 9 512) ∷ no_cow plain invalid (read_origin 9 512)
    ∷ while_on plain closed (read_origin 9 512) ∷ while_on plain invalid (read_origin 9 512) ∷ while_on plain served (read_origin 9 512)
    ∷ while_on plain served (read_origin 1 5) ∷ while_on plain invalid (read_origin 1 512) ∷ while_on plain served (read_origin 1 512) ∷ []
    ≡ 1 ∷ 5 ∷ 5 ∷ 4 ∷ 2 ∷ 2 ∷ 1 ∷ 0 ∷ 0 ∷ []
order_origin_read = refl

-- a read of the view, by a pair and by a merging snapshot
abbrev view_order : Mode → List ℕ
view_order x =
    no_origin x closed (read_view 9 5) ∷ no_origin x closed (read_view 9 512) ∷ no_cow x invalid (read_view 9 512)
    ∷ while_on x closed (read_view 9 512) ∷ while_on x invalid (read_view 9 512) ∷ while_on x served (read_view 9 512)
    ∷ while_on x served (read_view 1 5) ∷ while_on x served (read_view 1 512) ∷ []

pub order_snapshot_read : view_order plain ≡ 1 ∷ 5 ∷ 5 ∷ 4 ∷ 6 ∷ 2 ∷ 1 ∷ 0 ∷ []
order_snapshot_read = refl

pub order_merging_read : view_order merging ≡ 1 ∷ 5 ∷ 5 ∷ 4 ∷ 6 ∷ 2 ∷ 1 ∷ 0 ∷ []
order_merging_read = refl

-- an origin write: an invalid pair serves it
pub order_origin_write :
    no_origin plain closed (write_origin 9 short 512) ∷ no_origin plain closed (write_origin 9 (full 1) 512)
    ∷ no_origin plain closed (write_origin 9 (full 1) 8192) ∷ no_cow plain invalid (write_origin 9 (full 1) 8192)
    ∷ while_on plain closed (write_origin 9 (full 1) 8192) ∷ while_on plain invalid (write_origin 9 (full 1) 8192)
    ∷ while_on plain served (write_origin 9 (full 1) 8192) ∷ while_on plain served (write_origin 1 short 8192)
    ∷ while_on plain served (write_origin 1 (full 1) 512) ∷ while_on plain invalid (write_origin 1 (full 1) 8192)
    ∷ while_on plain served (write_origin 1 (full 1) 8192) ∷ []
    ≡ 1 ∷ 1 ∷ 5 ∷ 5 ∷ 4 ∷ 2 ∷ 2 ∷ 1 ∷ 1 ∷ 0 ∷ 0 ∷ []
order_origin_write = refl

-- a snapshot write; 7 comes last, where the store is full
pub order_snapshot_write :
    no_origin plain closed (write_snapshot 9 short 512) ∷ no_origin plain closed (write_snapshot 9 (full 1) 512)
    ∷ no_origin plain closed (write_snapshot 9 (full 1) 8192) ∷ no_cow plain invalid (write_snapshot 9 (full 1) 8192)
    ∷ while_on plain closed (write_snapshot 9 (full 1) 8192) ∷ while_on plain invalid (write_snapshot 9 (full 1) 8192)
    ∷ met tiny.disks plain tiny.memory (write_snapshot 9 (full 1) 8192) ∷ while_on plain served (write_snapshot 1 short 8192)
    ∷ while_on plain served (write_snapshot 1 (full 1) 512) ∷ met tiny.disks plain tiny.memory (write_snapshot 1 (full 1) 8192)
    ∷ while_on plain served (write_snapshot 1 (full 1) 8192) ∷ []
    ≡ 1 ∷ 1 ∷ 5 ∷ 5 ∷ 4 ∷ 6 ∷ 2 ∷ 1 ∷ 1 ∷ 7 ∷ 0 ∷ []
order_snapshot_write = refl

-- a merging write
pub order_merging_write :
    no_origin merging closed (write_merging 9 short) ∷ no_origin merging closed (write_merging 9 (full 1)) ∷ no_cow merging invalid (write_merging 9 (full 1))
    ∷ while_on merging closed (write_merging 9 (full 1)) ∷ while_on merging invalid (write_merging 9 (full 1)) ∷ while_on merging served (write_merging 9 (full 1))
    ∷ while_on merging served (write_merging 1 short) ∷ while_on merging served (write_merging 1 (full 1)) ∷ []
    ≡ 1 ∷ 5 ∷ 5 ∷ 4 ∷ 6 ∷ 2 ∷ 1 ∷ 0 ∷ []
order_merging_write = refl

-- calls without arguments
abbrev bare_order : Mode → Call → List ℕ
bare_order x c = no_origin x closed c ∷ no_cow x invalid c ∷ while_on x closed c ∷ while_on x invalid c ∷ while_on x served c ∷ []

-- a flush of a pair, which an invalid one serves; and of a merging snapshot
pub order_flush : bare_order plain flush_all ≡ 5 ∷ 5 ∷ 4 ∷ 0 ∷ 0 ∷ []
order_flush = refl

pub order_merging_flush : bare_order merging flush_all ≡ 5 ∷ 5 ∷ 4 ∷ 6 ∷ 0 ∷ []
order_merging_flush = refl

-- the merge question
pub order_question : bare_order plain ask_merge ≡ 5 ∷ 5 ∷ 4 ∷ 6 ∷ 0 ∷ []
order_question = refl

-- a merge step
pub order_step :
    no_origin merging closed (step_merge 512) ∷ no_cow merging invalid (step_merge 512) ∷ while_on merging closed (step_merge 512)
    ∷ while_on merging invalid (step_merge 512) ∷ while_on merging served (step_merge 512) ∷ bare_order merging (step_merge 8192)
    ≡ 1 ∷ 1 ∷ 1 ∷ 1 ∷ 1 ∷ 5 ∷ 5 ∷ 4 ∷ 6 ∷ 0 ∷ []
order_step = refl

-- status, beginning and leaving are refused nowhere
pub order_status : bare_order plain ask_status ++ bare_order merging ask_status ≡ replicate 10 0
order_status = refl

pub order_begin : bare_order plain begin_merge ≡ replicate 5 0
order_begin = refl

pub order_leave : bare_order merging leave_merge ≡ replicate 5 0
order_leave = refl

-- CUTS INSIDE A CALL

-- inside an origin write, after the entry was written and before the origin was: the chunk has diverged, and the origin is as it was
abbrev entry_written : List Event
entry_written =
    breaks 5 false (to_origin 1 99) (refused (fault 3 1 1 1 0)) ∷
    cut_old ∷
    does an_opening ok ∷
    does ask_status (counts 1 1 3 2) ∷
    does (from_origin 1) (reads 101) ∷
    does (from_view 1) (reads 101) ∷
    does (to_origin 1 98) still_valid ∷
    does ask_status (counts 1 1 3 2) ∷
    does (from_origin 1) (reads 98) ∷
    does (from_view 1) (reads 101) ∷
    []

pub entry_written_answers : answers entry_written (start 1 6 8) ≡ told entry_written
unfolding scanning scanned
entry_written_answers = refl

pub entry_written_machine : predicted entry_written (start 1 6 8) (made One (start 1 6 8).disks) ≡ told entry_written
unfolding scanning scanned
entry_written_machine = refl

-- what is on the devices right after that cut
abbrev after_entry : Situation
after_entry = situation_after (breaks 5 false (to_origin 1 99) ok ∷ cut_old ∷ []) (start 1 6 8)

pub after_entry_found : finding after_entry.disks ≡ good (record { size = One; table = exception 1 2 ∷ [] })
unfolding scanning scanned
after_entry_found = refl

-- inside the write of the entry, which the device took: with one choice the chunk has diverged, with another it has not
abbrev at_entry : Event → Situation
at_entry e = situation_after (breaks 3 true (to_origin 1 99) ok ∷ e ∷ []) (start 1 6 8)

pub at_entry_new : finding (at_entry cut_new).disks ≡ good (record { size = One; table = exception 1 2 ∷ [] })
unfolding scanning scanned
at_entry_new = refl

pub at_entry_old : finding (at_entry cut_old).disks ≡ good (record { size = One; table = [] })
unfolding scanning scanned
at_entry_old = refl

-- inside a merge step of two chunks, between the flush of the origin and the drop: merged again, the origin reads as the view did
abbrev drop_cut : List Event
drop_cut =
    does (to_origin 1 50) still_valid ∷
    does (to_view 2 60) ok ∷
    does flush_all ok ∷
    does begin_merge ok ∷
    does (from_view 1) (reads 101) ∷
    does (from_view 2) (reads 60) ∷
    breaks 5 false a_step (refused (fault 3 1 2 1 0)) ∷
    cut_old ∷
    does an_opening ok ∷
    does ask_status (counts 1 2 4 2) ∷
    does (from_origin 1) (reads 101) ∷
    does (from_origin 2) (reads 60) ∷
    does begin_merge ok ∷
    does (from_view 1) (reads 101) ∷
    does (from_view 2) (reads 60) ∷
    does a_step (steps 2 0) ∷
    does leave_merge ok ∷
    does (from_origin 1) (reads 101) ∷
    does (from_origin 2) (reads 60) ∷
    does ask_status (counts 1 0 2 2) ∷
    []

pub drop_cut_answers : answers drop_cut (start 1 6 8) ≡ told drop_cut
unfolding scanning scanned
drop_cut_answers = refl

pub drop_cut_machine : predicted drop_cut (start 1 6 8) (made One (start 1 6 8).disks) ≡ told drop_cut
unfolding scanning scanned
drop_cut_machine = refl

-- the same without a flush: the cut takes the write to the view, though it was copied back; the origin then reads as the view does
abbrev unflushed : List Event
unflushed =
    does (to_view 2 60) ok ∷
    does begin_merge ok ∷
    breaks 3 false a_step (refused (fault 3 1 2 1 0)) ∷
    cut_old ∷
    does an_opening ok ∷
    does (from_origin 2) (reads 60) ∷
    does (from_view 2) (reads 102) ∷
    does begin_merge ok ∷
    does a_step (steps 1 0) ∷
    does leave_merge ok ∷
    does (from_origin 2) (reads 102) ∷
    []

pub unflushed_answers : answers unflushed (start 1 6 8) ≡ told unflushed
unfolding scanning scanned
unflushed_answers = refl

pub unflushed_machine : predicted unflushed (start 1 6 8) (made One (start 1 6 8).disks) ≡ told unflushed
unfolding scanning scanned
unflushed_machine = refl

-- inside the spoiling of a full store: with one choice it is valid as before, with another it is spoiled
abbrev spoil_old : List Event
spoil_old =
    does (to_origin 0 50) still_valid ∷
    breaks 0 true (to_origin 1 51) (refused (fault 3 1 2 0 0)) ∷
    cut_old ∷
    does an_opening ok ∷
    does (from_view 1) (reads 101) ∷
    does (from_origin 1) (reads 101) ∷
    []

pub spoil_old_answers : answers spoil_old (start 1 6 3) ≡ told spoil_old
unfolding scanning scanned
spoil_old_answers = refl

pub spoil_old_machine : predicted spoil_old (start 1 6 3) (made One (start 1 6 3).disks) ≡ told spoil_old
unfolding scanning scanned
spoil_old_machine = refl

abbrev spoil_new : List Event
spoil_new =
    does (to_origin 0 50) still_valid ∷
    breaks 0 true (to_origin 1 51) (refused (fault 3 1 2 0 0)) ∷
    cut_new ∷
    does an_opening (refused (fault 6 2 2 0 0)) ∷
    does (from_origin 1) (refused (fault 4 3 0 0 0)) ∷
    []

pub spoil_new_answers : answers spoil_new (start 1 6 3) ≡ told spoil_new
unfolding scanning scanned
spoil_new_answers = refl

pub spoil_new_machine : predicted spoil_new (start 1 6 3) (made One (start 1 6 3).disks) ≡ told spoil_new
unfolding scanning scanned
spoil_new_machine = refl

-- THE MACHINE ALONE

-- a machine after some good calls, from a snapshot just made with chunks of one sector
abbrev good_calls : Machine → List Call → Machine
good_calls m [] = m
good_calls m (c ∷ cs) = good_calls (next m c completed) cs

abbrev after : List Call → Machine
after cs = good_calls (made One (start 1 6 8).disks) cs

-- all possibilities of a sector of the origin, and of the view
abbrev origin_list : Plain → ℕ → List Bytes
origin_list p s = possibilities (p.origin s)

abbrev view_list : Plain → ℕ → List Bytes
view_list p s = possibilities (p.view s)

-- a merging write outside the diverged chunks goes to both disks
abbrev outside : Plain
outside = (after (to_origin 1 99 ∷ begin_merge ∷ to_merging 2 50 ∷ [])).plain

pub outside_origin : origin_list outside 2 ≡ full 102 ∷ full 50 ∷ []
outside_origin = refl

pub outside_view : view_list outside 2 ≡ full 102 ∷ full 50 ∷ []
outside_view = refl

pub outside_diverged : outside.diverged ≡ 1 ∷ []
outside_diverged = refl

-- inside them it goes to the view alone
abbrev inside : Plain
inside = (after (to_origin 1 99 ∷ begin_merge ∷ to_merging 1 50 ∷ [])).plain

pub inside_origin : origin_list inside 1 ≡ full 101 ∷ full 99 ∷ []
inside_origin = refl

pub inside_view : view_list inside 1 ≡ full 101 ∷ full 50 ∷ []
inside_view = refl

-- a flush leaves the last possibilities
pub flushed_origin : origin_list (after (to_origin 1 99 ∷ flush_all ∷ [])).plain 1 ≡ full 99 ∷ []
flushed_origin = refl

pub flushed_view : view_list (after (to_view 1 99 ∷ flush_all ∷ [])).plain 1 ≡ full 99 ∷ []
flushed_view = refl

-- an origin write under way: nothing done, or copied and perhaps written
abbrev write_broken : List Plain
write_broken = broken_off (after []).plain (to_origin 1 99)

pub write_broken_diverged : map (λ p. p.diverged) write_broken ≡ [] ∷ (1 ∷ []) ∷ []
write_broken_diverged = refl

pub write_broken_origin : map (λ p. origin_list p 1) write_broken ≡ (full 101 ∷ []) ∷ (full 99 ∷ full 101 ∷ []) ∷ []
write_broken_origin = refl

pub write_broken_view : map (λ p. view_list p 1) write_broken ≡ (full 101 ∷ []) ∷ (full 101 ∷ []) ∷ []
write_broken_view = refl

-- to a chunk that has diverged there is one case
pub write_broken_again : map (λ p. origin_list p 1) (broken_off (after (to_origin 1 99 ∷ [])).plain (to_origin 1 98)) ≡ (full 98 ∷ full 101 ∷ full 99 ∷ []) ∷ []
write_broken_again = refl

-- a snapshot write under way: nothing done, or copied and perhaps written; in a full store nothing, outside the diverged chunks
abbrev full_plain : Plain
full_plain = (good_calls (made One (start 1 6 3).disks) (to_origin 0 50 ∷ [])).plain

pub view_broken_diverged : map (λ p. p.diverged) (broken_off (after []).plain (to_view 1 99)) ≡ [] ∷ (1 ∷ []) ∷ []
view_broken_diverged = refl

pub view_broken_full : map (λ p. p.diverged) (broken_off full_plain (to_view 1 99)) ≡ (0 ∷ []) ∷ []
view_broken_full = refl

pub view_broken_view : map (λ p. view_list p 0) (broken_off full_plain (to_view 0 99)) ≡ (full 99 ∷ full 100 ∷ []) ∷ []
view_broken_view = refl

-- the machine keeps the call under way, refuses with 5, and at the cut takes what it may have come to
abbrev waiting : Machine
waiting = next (after []) (to_origin 1 99) under_way

pub waiting_refuses : expected waiting (from_view 1) ≡ refused (fault 5 3 0 0 0)
waiting_refuses = refl

pub waiting_again : expected (rejoined waiting) an_opening ≡ refused (fault 5 3 0 0 0)
waiting_again = refl

pub waiting_cut : length (cut_short waiting.plain waiting.pending) ≡ 2
waiting_cut = refl

-- a merge step of a run of two under way: three cases, with none, one and both merged
abbrev run_of_two : Plain
run_of_two = (after (to_origin 1 50 ∷ to_view 2 60 ∷ begin_merge ∷ [])).plain

abbrev step_broken : List Plain
step_broken = broken_off run_of_two a_step

pub step_broken_length : length step_broken ≡ 3
step_broken_length = refl

pub step_broken_diverged : map (λ p. p.diverged) step_broken ≡ (1 ∷ 2 ∷ []) ∷ (1 ∷ []) ∷ [] ∷ []
step_broken_diverged = refl

-- what is merged has the view's reading alone; in the rest of the run that is possible on the origin
pub step_broken_first : map (λ p. origin_list p 1) step_broken ≡ (full 101 ∷ full 101 ∷ full 50 ∷ []) ∷ (full 101 ∷ full 101 ∷ full 50 ∷ []) ∷ (full 101 ∷ []) ∷ []
step_broken_first = refl

pub step_broken_second : map (λ p. origin_list p 2) step_broken ≡ (full 60 ∷ full 102 ∷ []) ∷ (full 60 ∷ []) ∷ (full 60 ∷ []) ∷ []
step_broken_second = refl

pub step_broken_view : map (λ p. view_list p 2) step_broken ≡ (full 102 ∷ full 60 ∷ []) ∷ (full 60 ∷ []) ∷ (full 60 ∷ []) ∷ []
step_broken_view = refl

-- two chunks that diverged in descending order are two runs
pub step_two_runs : length (broken_off (after (to_view 2 60 ∷ to_view 1 50 ∷ [])).plain a_step) ≡ 2
step_two_runs = refl

-- a full store: the view is void for good, and no chunk diverges any more
abbrev void : Machine
void = good_calls (made One (start 1 6 3).disks) (to_origin 0 50 ∷ to_origin 1 51 ∷ to_origin 2 52 ∷ [])

pub void_plain : void.plain.void ≡ true
void_plain = refl

pub void_diverged : void.plain.diverged ≡ 0 ∷ []
void_diverged = refl

pub void_opens : expected (rejoined void) an_opening ≡ refused (fault 6 2 2 0 0)
void_opens = refl

-- DEVICES

-- two sectors with two possibilities each
abbrev doubtful : Disk
doubtful = record { count = 2; cells = λ s. record { older = full 1 ∷ []; latest = full 2 }; on = true }

-- the device goes, without having taken the bytes, and keeps one possibility of the sector under way
abbrev losing : ℕ → Fate
losing p = record { goes = true; took = false; keeps = λ _. []; last = p }

-- the possibilities of sector s after a call
abbrev left_of : Op → Fate → ℕ → List Bytes
left_of o f s = possibilities ((after_by (way o doubtful f) o doubtful f).cells s)

pub loses_last : left_of (writes 0 (full 3)) (losing 0) 0 ≡ full 1 ∷ []
loses_last = refl

pub keeps_last : left_of (writes 0 (full 3)) (losing 9) 0 ≡ full 2 ∷ []
keeps_last = refl

-- another sector keeps its last, and so does each in a flush
pub other_last : left_of (writes 0 (full 3)) (losing 0) 1 ≡ full 2 ∷ []
other_last = refl

pub flush_last : left_of flushes (losing 0) 0 ≡ full 2 ∷ []
flush_last = refl

-- plain devices
pub plain_sectors : (Plain.plain (full 1 ++ full 2)).count ≡ 2
plain_sectors = refl

pub plain_reads : image (Plain.plain (full 1 ++ full 2)) 1 ≡ full 2
plain_reads = refl

pub unfit_question : Plain.fitness (5 ∷ []) ≡ refused (refusal 1 0)
unfit_question = refl

pub unfit : Plain.plain (5 ∷ []) ≡ record { count = 1; cells = λ s. record { older = []; latest = full 0 }; on = false }
unfit = refl

-- THE PREMISES OF THE PROMISE CAN BE MET

-- a snapshot is made
abbrev w₀ : Situation
w₀ =
    let p = left (run both (make (ground (fresh 8)) closed 1) (replicate 7 calm) (fresh 8)) in
    record { disks = p.disks; memory = p.memory; mode = plain }

pub made_so : Made 1 (fresh 8) w₀
made_so = record { ran = record { fates = replicate 7 calm; comes = refl }; pair = refl }

-- a call of so many device calls
abbrev after_calls : ℕ → Call → Situation → Situation
after_calls n c w = situation (run both (plan_of (ground w.disks) w.memory w.mode c) (replicate n calm) w.disks) w

-- an origin write happens, of six device calls
abbrev w₁ : Situation
w₁ = after_calls 6 (to_origin 1 99) w₀

pub first_write_happens : Happens w₀ (to_origin 1 99) still_valid w₁
first_write_happens = record { offered = tt; ran = record { fates = replicate 6 calm; comes = refl } }

pub first_history : History w₀ w₁
first_history = next_call begun (to_origin 1 99) still_valid w₁ first_write_happens

-- a snapshot with one exception, each sector with one possibility
abbrev v₀ : Situation
v₀ = record {
  disks = pair (device 3 (λ s. full (10 + s))) (device 8 (λ s. cond (s == 2) (full 11) (cow_image (header true 1) (pic (exception 1 2 ∷ []) 0) s)));
  memory = serving One (exception 1 2 ∷ []);
  mode = plain;
}

-- an origin write, of one device call
abbrev v₁ : Situation
v₁ = after_calls 1 (to_origin 1 99) v₀

pub origin_write_happens : Happens v₀ (to_origin 1 99) still_valid v₁
origin_write_happens = record { offered = tt; ran = record { fates = calm ∷ []; comes = refl } }

-- then a snapshot write
abbrev v₂ : Situation
v₂ = after_calls 1 (to_view 1 77) v₁

pub snapshot_write_happens : Happens v₁ (to_view 1 77) ok v₂
snapshot_write_happens = record { offered = tt; ran = record { fates = calm ∷ []; comes = refl } }

-- then a power cut
abbrev v₃ : Situation
v₃ = joined v₂.disks

pub cut_happens : PowerCut v₂ v₃
cut_happens = record {
  origin = record { same_count = refl; single = λ s. refl; one_of = λ s. (0, lit< tt, λ d. refl); runs = refl };
  cow = record { same_count = refl; single = λ s. refl; one_of = λ s. (0, lit< tt, λ d. refl); runs = refl };
  fresh = refl;
}

-- and an opening
abbrev v₄ : Situation
v₄ = record { disks = v₂.disks; memory = v₂.memory; mode = plain }

pub opening_happens : Happens v₃ an_opening ok v₄
unfolding scanning scanned
opening_happens = record { offered = tt; ran = record { fates = calm ∷ calm ∷ []; comes = refl } }

-- the history up to each of them
abbrev h₁ : History v₀ v₁
h₁ = next_call begun (to_origin 1 99) still_valid v₁ origin_write_happens

abbrev h₂ : History v₀ v₂
h₂ = next_call h₁ (to_view 1 77) ok v₂ snapshot_write_happens

abbrev h₃ : History v₀ v₃
h₃ = cut h₂ v₃ cut_happens

abbrev h₄ : History v₀ v₄
h₄ = next_call h₃ an_opening ok v₄ opening_happens

-- or the pair is put together anew, without a cut
abbrev h₅ : History v₀ v₃
h₅ = rejoin h₂ v₃ refl

-- making again is refused: on the open pair; on the fresh one for the size, and for the shape of the devices
abbrev refuses_making : Situation → ℕ → ℕ → Type 0
refuses_making w c n = RefusedMaking w c (fault n 3 0 0 0) w

pub making_open : refuses_making v₂ 1 4
making_open = record { offered = refl; ran = record { fates = []; comes = refl }; pair = refl; told = refl }

pub making_size : refuses_making v₃ 3 8
making_size = record { offered = refl; ran = record { fates = []; comes = refl }; pair = refl; told = refl }

pub making_shape : refuses_making v₃ 2 9
making_shape = record { offered = refl; ran = record { fates = []; comes = refl }; pair = refl; told = refl }

-- and the history goes on
pub history_with_makings : History v₀ v₃
history_with_makings = making_refused (making_refused (cut (making_refused h₂ 1 _ v₂ making_open) v₃ cut_happens) 3 _ v₃ making_size) 2 _ v₃ making_shape

-- the machine expects the same
pub making_expected_open : making_expected (made One w₀.disks) 3 ≡ Some (fault 4 3 0 0 0)
making_expected_open = refl

pub making_expected_size : making_expected (rejoined (made One w₀.disks)) 3 ≡ Some (fault 8 3 0 0 0)
making_expected_size = refl

pub making_expected_shape : making_expected (rejoined (made One w₀.disks)) 2 ≡ Some (fault 9 3 0 0 0)
making_expected_shape = refl

pub making_expected_stopped : making_expected (rejoined waiting) 2 ≡ Some (fault 5 3 0 0 0)
making_expected_stopped = refl

pub making_expected_good : making_expected (rejoined (made One w₀.disks)) 1 ≡ None
making_expected_good = refl

-- both devices of that making are whole
pub fresh_whole : Whole (fresh 8).origin × Whole (fresh 8).cow
fresh_whole = (
  record { some = lit< tt; few = lit< tt; long = λ s b l has. ap length (sym (only_one has)) },
  record { some = lit< tt; few = lit< tt; long = λ s b l has. ap length (sym (only_one has)) },
)

-- WHOLE HISTORIES FROM A MAKING ON

-- whether a run ended
abbrev arrives : Ended Disks Result → Bool
arrives (ended r d) = true
arrives astray = false

run_ended : (e : Ended Disks Result) (w : Situation) → T (arrives e) → e ≡ ended (record { answer = said e; memory = (situation e w).memory; mode = (situation e w).mode }) (situation e w).disks
run_ended (ended r d) w h = refl
run_ended astray w h = absurd h

-- a call of n device calls happens, with the answer of that run
pub happens : (n : ℕ) (c : Call) (w : Situation) → T (offers w.mode c) → T (arrives (run both (plan_of (ground w.disks) w.memory w.mode c) (replicate n calm) w.disks)) → Happens w c (said (run both (plan_of (ground w.disks) w.memory w.mode c) (replicate n calm) w.disks)) (after_calls n c w)
happens n c w offered h = record { offered = offered; ran = record { fates = replicate n calm; comes = run_ended _ w h } }

-- a power cut that leaves the last possibilities
pub latest_left : (w : Situation) → PowerCut w (cut_situation (λ k. k.latest) w)
latest_left w = record {
  origin = record { same_count = refl; single = λ s. refl; one_of = λ s. has_push (w.disks.origin.cells s).older _; runs = refl };
  cow = record { same_count = refl; single = λ s. refl; one_of = λ s. has_push (w.disks.cow.cells s).older _; runs = refl };
  fresh = refl;
}

-- after the origin write a merge is begun
abbrev m₂ : Situation
m₂ = after_calls 0 begin_merge w₁

abbrev merging_history : History w₀ m₂
merging_history = next_call first_history begin_merge ok m₂ (happens 0 begin_merge w₁ tt tt)

-- there a read of the view is answered, and a step leaves nothing, of five device calls; then comes a power cut
abbrev m₃ : Situation
m₃ = after_calls 5 a_step m₂

pub view_seen : Happens m₂ (from_view 1) (reads 11) (after_calls 1 (from_view 1) m₂)
view_seen = happens 1 (from_view 1) m₂ tt tt

pub step_happens : Happens m₂ a_step (steps 1 0) m₃
step_happens = happens 5 a_step m₂ tt tt

pub step_cut : PowerCut m₃ (cut_situation (λ k. k.latest) m₃)
step_cut = latest_left m₃

-- the origin reads as the view did
pub merged_so : image m₃.disks.origin 1 ≡ full 11
merged_so = refl

-- a store for one exception is made; the second origin write spoils it
abbrev u₀ : Situation
u₀ =
    let p = left (run both (make (ground (fresh 3)) closed 1) (replicate 7 calm) (fresh 3)) in
    record { disks = p.disks; memory = p.memory; mode = plain }

pub small_made : Made 1 (fresh 3) u₀
small_made = record { ran = record { fates = replicate 7 calm; comes = refl }; pair = refl }

abbrev u₁ : Situation
u₁ = after_calls 6 (to_origin 0 50) u₀

abbrev u₂ : Situation
u₂ = after_calls 3 (to_origin 1 60) u₁

abbrev u₃ : Situation
u₃ = after_calls 0 (from_view 0) u₂

abbrev small_history : History u₀ u₃
small_history =
    next_call
    (next_call (next_call begun (to_origin 0 50) still_valid u₁ (happens 6 (to_origin 0 50) u₀ tt tt)) (to_origin 1 60) now_invalid u₂ (happens 3 (to_origin 1 60) u₁ tt tt))
    (from_view 0) (refused (fault 6 3 0 0 0)) u₃ (happens 0 (from_view 0) u₂ tt tt)

pub small_invalid : RefusedInvalid small_history
small_invalid = inl tt

pub small_full : FoundFull small_history
small_full = inr (inl tt)

-- the origin is served all the same
pub small_read : Happens u₃ (from_origin 1) (reads 60) (after_calls 1 (from_origin 1) u₃)
small_read = happens 1 (from_origin 1) u₃ tt tt

-- OFFERS

-- a pair offers no merge step, and a merging snapshot no snapshot write
pub no_step : offers plain a_step ≡ false
no_step = refl

pub no_snapshot_write : offers merging (to_view 1 77) ≡ false
no_snapshot_write = refl

-- the machine answers the same
pub machine_follows : Follows (made One w₀.disks) (to_origin 1 99) still_valid
machine_follows = as_expected refl

-- WHAT IS PROMISED

-- what a read of the view would answer: the copy; nothing where the store is spoiled
pub shown_copy : shown one.disks 1 ≡ Some (full 11)
unfolding scanning scanned
shown_copy = refl

pub shown_spoiled : shown spoiled.disks 1 ≡ None
shown_spoiled = refl

-- after the origin write the view owes what the origin held at the start; then what was written to it
pub owed_first : Owed h₁ 1 (full 11)
owed_first = refl

pub owed_written : Owed h₂ 1 (full 77)
owed_written = refl

-- other sectors as before
pub owed_other : Owed h₂ 2 (full 12)
owed_other = refl

-- before the cut both are candidates
pub candidate_written : Candidate h₂ 1 (full 77)
candidate_written = inl refl

pub candidate_first : Candidate h₂ 1 (full 11)
unfolding scanning scanned
candidate_first = inr refl

-- after it the view owes what the cut left, which was a candidate
pub owed_cut : Owed h₄ 1 (full 77)
unfolding scanning scanned
owed_cut = (refl, candidate_written)

pub owed_rejoined : Owed h₅ 1 (full 77)
owed_rejoined = refl

-- an origin write finds a store full, good or under way, that has no place for its chunk
abbrev full_situation : Situation
full_situation = record { disks = tiny.disks; memory = tiny.memory; mode = plain }

pub full_good : found_full full_situation (kind (to_origin 1 60)) completed ≡ true
full_good = refl

pub full_under_way : found_full full_situation (kind (to_origin 1 60)) under_way ≡ true
full_under_way = refl

pub full_refused : found_full full_situation (kind (to_origin 1 60)) not_done ≡ false
full_refused = refl

pub full_copied : found_full full_situation (kind (to_origin 0 60)) completed ≡ false
full_copied = refl

pub full_snapshot_write : found_full full_situation (kind (to_view 1 60)) completed ≡ false
full_snapshot_write = refl

-- an invalid snapshot is refused with 6, at opening too
pub opening_invalid : is_invalid_refusal (refused (fault 6 2 2 0 0)) ≡ true
opening_invalid = refl

pub view_invalid : is_invalid_refusal (refused (fault 6 3 0 0 0)) ≡ true
view_invalid = refl

-- origin calls and flushes are not served by the snapshot
pub origin_apart : of_snapshot (kind (to_origin 0 1)) ≡ false
origin_apart = refl

pub flush_apart : of_snapshot (kind flush_all) ≡ false
flush_apart = refl

pub step_served : of_snapshot (kind a_step) ≡ true
step_served = refl
