-- What the tests before a call say: by their refusals, by passing, and of the run that follows.
use Rattle.std.proofs.Common.{◌≡◌, ℕ, Bool, true, false, eqb, List, [], ◌∷◌, length, Some, None, Option, sym, refl, ap, ◌∙◌, subst}
use Rattle.std.specs.List.{AllByRecursion}
use Rattle.std.proofs.lemmas.Bool.{both_ways, not-false, cond-false}
use Rattle.device.specs.Disk.{refused}
use Rattle.device.specs.Plans.{Disks, Side, Plan, Runs, both}
use Rattle.device.proofs.Uses.{over as run_over}
use Rattle.history.specs.Faults.{Fault, fault, pair_fault}
use Rattle.history.specs.Steps.{Memory, closed, serving, invalid, is_invalid, Mode, plain, merging, Ground, both_on, ground, test, first, sector_length, work_length, not_stopped, still_closed, opened, not_invalid, on_origin, Outcome, guarded, view_tests}
use Rattle.history.specs.History.{Situation, Call, ask_status, ask_merge, read_origin, read_view, write_origin, write_snapshot, write_merging, flush_all, begin_merge, step_merge, leave_merge, reopen, Reply, Answer, Result, as_call, asked, plan_of, refusal, Happens, completed, under_way, not_done, ending}

-- TESTS

-- what each test says, the first refusal says
first_all : (P : Option Fault → Type 0) → P None → (ts : List (Option Fault)) → AllByRecursion P ts → P (first ts)
first_all P none [] h = none
first_all P none (None ∷ ts) h = first_all P none ts h.1
first_all P none (Some f ∷ ts) h = h.0

-- where no test refuses, each passes
pub passed : (ts : List (Option Fault)) → first ts ≡ None → AllByRecursion (λ t. t ≡ None) ts
passed [] h = tt
passed (None ∷ ts) h = (refl, passed ts h)
passed (Some f ∷ ts) h = cc

-- a test that passes was not so
pub test_passed : (b : Bool) (f : Fault) → test b f ≡ None → b ≡ false
test_passed true f h = cc
test_passed false f h = refl

-- the tests of each call, in their order
abbrev pub tests_of : Ground → Memory → Mode → Call → List (Option Fault)
tests_of g m mode ask_status = []
tests_of g m mode ask_merge = not_stopped g ∷ opened m ∷ not_invalid m ∷ []
tests_of g m mode (read_origin s n) = sector_length n ∷ not_stopped g ∷ opened m ∷ on_origin g s ∷ []
tests_of g m mode (read_view s n) = sector_length n ∷ view_tests g m s
tests_of g m mode (write_origin s b w) = sector_length (length b) ∷ work_length w ∷ not_stopped g ∷ opened m ∷ on_origin g s ∷ []
tests_of g m mode (write_snapshot s b w) = sector_length (length b) ∷ work_length w ∷ view_tests g m s
tests_of g m mode (write_merging s b) = sector_length (length b) ∷ view_tests g m s
tests_of g m plain flush_all = not_stopped g ∷ opened m ∷ []
tests_of g m merging flush_all = not_stopped g ∷ opened m ∷ not_invalid m ∷ []
tests_of g m mode begin_merge = []
tests_of g m mode (step_merge w) = work_length w ∷ not_stopped g ∷ opened m ∷ not_invalid m ∷ []
tests_of g m mode leave_merge = []
tests_of g m mode (reopen w) = work_length w ∷ not_stopped g ∷ still_closed m ∷ []

refusal_first : (g : Ground) (m : Memory) (mode : Mode) (c : Call) → refusal g m mode c ≡ first (tests_of g m mode c)
refusal_first g m plain flush_all = refl
refusal_first g m merging flush_all = refl
refusal_first g m mode c = refl

-- a call that no test refuses passes each
pub each_passed : (g : Ground) (m : Memory) (mode : Mode) (c : Call) → refusal g m mode c ≡ None → AllByRecursion (λ t. t ≡ None) (tests_of g m mode c)
each_passed g m mode c is = passed (tests_of g m mode c) (sym (refusal_first g m mode c) ∙ is)

-- no test refuses with the number of a device that is gone; and with that of an invalid store only where the pair remembers it
abbrev Tells : Memory → Option Fault → Type 0
Tells m o = (f : Fault) → o ≡ Some f → (eqb f.number 3 ≡ false) × (eqb f.number 6 ≡ true → is_invalid m ≡ true)

other : (m : Memory) (b : Bool) (f : Fault) → eqb f.number 3 ≡ false → eqb f.number 6 ≡ false → Tells m (test b f)
other m true f a b g h = let same : f ≡ g = cc in subst (λ x. (eqb x.number 3 ≡ false) × (eqb x.number 6 ≡ true → is_invalid m ≡ true)) same (a, λ z. absurd (both_ways _ b z))
other m false f a b g h = cc

six : (m : Memory) → Tells m (not_invalid m)
six closed f h = cc
six (serving size t) f h = cc
six invalid f h = let same : pair_fault 6 ≡ f = cc in (ap (λ x. eqb x.number 3) (sym same), λ z. refl)

module _ (g : Ground) (m : Memory) where
  none : Tells m None
  none f h = cc

  length_tells : (n : ℕ) → Tells m (sector_length n)
  length_tells n = other m _ (pair_fault 1) refl refl

  work_tells : (n : ℕ) → Tells m (work_length n)
  work_tells n = other m _ (pair_fault 1) refl refl

  stopped_tells : Tells m (not_stopped g)
  stopped_tells = other m _ (pair_fault 5) refl refl

  opened_tells : Tells m (opened m)
  opened_tells = other m _ (pair_fault 4) refl refl

  place_tells : (s : ℕ) → Tells m (on_origin g s)
  place_tells s = other m _ (fault 2 3 0 s 0) refl refl

  view_tells : (s : ℕ) → AllByRecursion (Tells m) (view_tests g m s)
  view_tells s = (stopped_tells, (opened_tells, (six m, (place_tells s, tt))))

  all_tell : (mode : Mode) (c : Call) → AllByRecursion (Tells m) (tests_of g m mode c)
  all_tell mode ask_status = tt
  all_tell mode ask_merge = (stopped_tells, (opened_tells, (six m, tt)))
  all_tell mode (read_origin s n) = (length_tells n, (stopped_tells, (opened_tells, (place_tells s, tt))))
  all_tell mode (read_view s n) = (length_tells n, view_tells s)
  all_tell mode (write_origin s b w) = (length_tells (length b), (work_tells w, (stopped_tells, (opened_tells, (place_tells s, tt)))))
  all_tell mode (write_snapshot s b w) = (length_tells (length b), (work_tells w, view_tells s))
  all_tell mode (write_merging s b) = (length_tells (length b), view_tells s)
  all_tell plain flush_all = (stopped_tells, (opened_tells, tt))
  all_tell merging flush_all = (stopped_tells, (opened_tells, (six m, tt)))
  all_tell mode begin_merge = tt
  all_tell mode (step_merge w) = (work_tells w, (stopped_tells, (opened_tells, (six m, tt))))
  all_tell mode leave_merge = tt
  all_tell mode (reopen w) = (work_tells w, (stopped_tells, (other m _ (pair_fault 4) refl refl, tt)))

  -- so it is of every call's tests
  pub refusal_tells : (mode : Mode) (c : Call) → Tells m (refusal g m mode c)
  refusal_tells mode c = subst (Tells m) (sym (refusal_first g m mode c)) (first_all (Tells m) none (tests_of g m mode c) (all_tell mode c))

-- CALLS

-- a call that asks nothing of the devices
abbrev pub still : Call → Bool
still ask_status = true
still begin_merge = true
still leave_merge = true
still c = false

guarded_refused : {A : Type 0} (rep : A → Reply) (mode : Mode) (m : Memory) (o : Option Fault) (p : Plan Side (Outcome A)) {d e : Disks} {r : Result} (f : Fault) → o ≡ Some f → Runs both (as_call rep mode (guarded m o p)) d r e → r.answer ≡ refused f
guarded_refused rep mode m None p f is ran = cc
guarded_refused rep mode m (Some x) p f is ran = let same : x ≡ f = cc in ap (λ r. r.answer) (run_over ran).0 ∙ ap refused same

-- a call that a test refuses answers so
refused_at_once : (g : Ground) (m : Memory) (mode : Mode) (c : Call) (f : Fault) {d e : Disks} {r : Result} → refusal g m mode c ≡ Some f → Runs both (plan_of g m mode c) d r e → r.answer ≡ refused f
refused_at_once g m mode ask_status f is ran = cc
refused_at_once g m mode ask_merge f is ran = ap (λ r. r.answer) (run_over ran).0 ∙ ap asked is
refused_at_once g m mode begin_merge f is ran = cc
refused_at_once g m mode leave_merge f is ran = cc
refused_at_once g m mode c f is ran = guarded_refused _ mode m _ _ f is ran

-- while a device is gone only a still call passes the tests
pub runs_on : (g : Ground) (m : Memory) (mode : Mode) (c : Call) → still c ≡ false → refusal g m mode c ≡ None → g.stopped ≡ false
runs_on g m mode ask_status moves is = absurd (both_ways _ moves refl)
runs_on g m mode ask_merge moves is = test_passed _ _ (each_passed g m mode ask_merge is).0
runs_on g m mode (write_origin s b w) moves is = test_passed _ _ (each_passed g m mode (write_origin s b w) is).1.1.0
runs_on g m mode (write_snapshot s b w) moves is = test_passed _ _ (each_passed g m mode (write_snapshot s b w) is).1.1.0
runs_on g m plain flush_all moves is = test_passed _ _ (each_passed g m plain flush_all is).0
runs_on g m merging flush_all moves is = test_passed _ _ (each_passed g m merging flush_all is).0
runs_on g m mode begin_merge moves is = absurd (both_ways _ moves refl)
runs_on g m mode leave_merge moves is = absurd (both_ways _ moves refl)
runs_on g m mode c moves is = test_passed _ _ (each_passed g m mode c is).1.0

-- a still call is completed
still_completes : (g : Ground) (m : Memory) (mode : Mode) (c : Call) {d e : Disks} {r : Result} → still c ≡ true → Runs both (plan_of g m mode c) d r e → ending r.answer ≡ completed
still_completes g m mode ask_status is ran = ap (λ r. ending r.answer) (run_over ran).0
still_completes g m mode begin_merge is ran = ap (λ r. ending r.answer) (run_over ran).0
still_completes g m mode leave_merge is ran = ap (λ r. ending r.answer) (run_over ran).0
still_completes g m mode c is ran = absurd (both_ways _ refl is)

-- how far a call came: a test refused it; or it is a still one, and completed; or it passed the tests while both devices are on
pub data Reached (w : Situation) (c : Call) (a : Answer) : Type 0 where
  away : ending a ≡ not_done → Reached w c a
  quiet : still c ≡ true → ending a ≡ completed → Reached w c a
  inside : refusal (ground w.disks) w.memory w.mode c ≡ None → both_on w.disks ≡ true → Reached w c a

pub reached : {w after : Situation} {c : Call} {a : Answer} → Happens w c a after → Reached w c a
reached {w} {after} {c} {a} x = go (refusal g w.memory w.mode c) refl (still c) refl
  where
    g : Ground
    g = ground w.disks

    go : (o : Option Fault) → refusal g w.memory w.mode c ≡ o → (b : Bool) → still c ≡ b → Reached w c a
    go (Some f) is b which = away (ap ending (refused_at_once g w.memory w.mode c f is x.ran) ∙ cond-false (eqb f.number 3) under_way not_done (refusal_tells g w.memory w.mode c f is).0)
    go None is true which = quiet which (still_completes g w.memory w.mode c which x.ran)
    go None is false which = inside is (not-false _ (runs_on g w.memory w.mode c which is))
