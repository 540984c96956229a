-- One call of a history: its answer is the expected one, and machine and devices go on together.
use Rattle.std.proofs.Common.{◌≡◌, ℕ, ◌-◌, ◌<◌, Bool, true, false, cond, not, ◌||◌, eqb, ltb, length, is_some, Some, None, Option, sym, refl, ap, ◌∙◌, subst, subst₂, inl, inr, ⊎_elim}
use Rattle.std.proofs.lemmas.Bool.{cases_Bool, both_ways, cond-true, cond-false, cond_both, not-false, eqb-true, ltb-true, eq-eqb}
use Rattle.device.specs.Disk.{Bytes, good, refused}
use Rattle.device.specs.Plans.{Plan, Runs, both, then, Side, origin, cow, Disks}
use Rattle.device.proofs.Uses.{over as run_over}
use Rattle.store.specs.Image.{Sizes}
use Rattle.store.specs.Steps.{opening}
use Rattle.history.specs.Faults.{Fault, store_fault, read, flush, in_store}
use Rattle.history.specs.Steps.{Memory, closed, serving, invalid, Mode, plain, merging, Ground, ground, sizes, both_on, is_closed, is_invalid, work_bytes, Outcome, giving, after, guarded, status, Merged, view_reading, origin_writing, snapshot_writing, merging_writing, step_merging, merging_step}
use Rattle.history.specs.History.{Situation, Call, ask_status, ask_merge, read_origin, read_view, write_origin, write_snapshot, write_merging, flush_all, begin_merge, step_merge, leave_merge, reopen, Reply, nothing, contents, became_invalid, merged, figures, Answer, Result, replied, as_call, at_once, asked, told_merged, refusal, Happens, End, under_way, not_done, ending}
use Rattle.history.specs.Machine.{Plain, Machine, chunk_of, diverged_at, table_of, can_diverge, finds_full, run_length, opened_by, mode_by, next, ground_of, memory_of, reply, unless_refused, Follows, went, told}
use Rattle.history.proofs.Invariant.{On, Off, Inv}
use Rattle.history.proofs.Ends.{open_memory, Up, Down, Ends, good_end, kept_end, off_end, Shut, Reopened, good_open, void_open, off_open}
use Rattle.history.proofs.Figures.{status_is}
use Rattle.history.proofs.Refusing.{refusal_tells}
use Rattle.history.proofs.Refuses.{stopped_at, blind, passing, flush_passed, Tested, not_begun, begun, tested}

-- the machine goes along with one call
abbrev Stepped : Machine → Call → Answer → Situation → Type 0
Stepped m c a e = Follows m c a × Inv (next m c (ending a)) e

-- the refusal of a call by the tests
abbrev tests : Situation → Call → Option Fault
tests w c = refusal (ground w.disks) w.memory w.mode c

-- WHAT THE PAIR SEES

same_mode : {m : Machine} {w : Situation} → Inv m w → w.mode ≡ m.mode
same_mode (inl on) = on.mode
same_mode (inr off) = off.mode

on_ground : {m : Machine} {w : Situation} → On m w → ground w.disks ≡ ground_of m
on_ground on i = record { size = on.agrees.sectors i; stopped = (ap not on.agrees.on ∙ sym (ap is_some on.idle)) i }

off_ground : {m : Machine} {w : Situation} → Off m w → ground w.disks ≡ stopped_at m.plain.size
off_ground off i = record { size = off.sectors i; stopped = not (off.gone i) }

-- what goes by that, and not by what is remembered while a device is gone
pub alike : {m : Machine} {w : Situation} {B : Type 0} (f : Ground → Memory → Mode → B) → ((z : Sizes) (x y : Memory) (mode : Mode) → f (stopped_at z) x mode ≡ f (stopped_at z) y mode) → Inv m w → f (ground w.disks) w.memory w.mode ≡ f (ground_of m) (memory_of m) m.mode
alike f same (inl on) = λ i. f (on_ground on i) (on.memory i) (on.mode i)
alike {m} {w} f same (inr off) =
    (λ i. f (off_ground off i) w.memory (off.mode i)) ∙ same m.plain.size w.memory (memory_of m) m.mode
    ∙ (λ i. f (record { size = m.plain.size; stopped = sym (ap is_some off.waits) i }) (memory_of m) m.mode)

same_tests : {m : Machine} {w : Situation} (c : Call) → Inv m w → tests w c ≡ refusal (ground_of m) (memory_of m) m.mode c
same_tests c inv = alike (λ g x mode. refusal g x mode c) (λ z x y mode. blind z x y mode c) inv

-- HOW A CALL ENDS

-- an open pair between calls
open_on : {m : Machine} {w : Situation} → m.pending ≡ None → w.mode ≡ m.mode → m.opened ≡ true → Up m.plain w.memory w.disks → On m w
open_on {m} idle mode is_open up = record {
  idle = idle;
  mode = mode;
  memory = up.memory ∙ sym (cond-true m.opened _ _ is_open);
  whole = up.whole;
  agrees = up.agrees;
  covers = up.covers;
  ready = λ v. inl (up.stands v);
}

module _ {m : Machine} {w e : Situation} {c : Call} {a : Answer} (inv : Inv m w) where
  -- a call that ended in some way with the expected answer
  by_end : {x : End} {t : Option Fault} → ending a ≡ x → tests w c ≡ t → a ≡ unless_refused t (reply m c) → Inv (next m c x) e → Stepped m c a e
  by_end is found want then_inv =
      (told (want ∙ ap (λ t. unless_refused t (reply m c)) (sym found ∙ same_tests c inv)), subst (λ y. Inv (next m c y) e) (sym is) then_inv)

  -- a call that a test refused
  by_refusal : (x : Fault) → tests w c ≡ Some x → a ≡ refused x → e ≡ w → Stepped m c a e
  by_refusal x is told_x left =
      by_end (ap ending told_x ∙ cond-false _ _ not_done (refusal_tells (ground w.disks) w.memory w.mode c x is).0) is told_x (subst (Inv m) (sym left) inv)

  module _ (mode : e.mode ≡ m.mode) where
    -- a call inside which a device went
    by_going : (f : Fault) → a ≡ refused f → f.number ≡ 3 → Down m.plain c e.disks → Stepped m c a e
    by_going f is three down =
        let under : ending a ≡ under_way = ap ending is ∙ cond-true _ _ _ (eq-eqb _ _ three) in
        let off : Off (next m c under_way) e = record { call = c; waits = refl; mode = mode; whole = down.whole; sectors = down.sectors; gone = down.gone; survives = down.survives } in
        (went under, subst (λ y. Inv (next m c y) e) (sym under) (inr off))

    -- a call of an open pair, by how it ended
    by_ends : tests w c ≡ None → m.pending ≡ None → m.opened ≡ true → opened_by c m.opened ≡ m.opened → mode_by c m.mode ≡ m.mode → Ends m.plain c (reply m c) a e.memory e.disks → Stepped m c a e
    by_ends none idle is_open stays_open stays (good_end r is want up) =
        by_end (ap ending is) none want (inl (open_on idle (mode ∙ sym stays) (stays_open ∙ is_open) up))
    by_ends none idle is_open stays_open stays (kept_end f is n want up) =
        by_end (ap ending is ∙ cond-false _ _ not_done n) none want (inl (open_on idle mode is_open up))
    by_ends none idle is_open stays_open stays (off_end f is n down) = by_going f is n down

-- the machine and the pair with another mode
moved : {m : Machine} {w : Situation} (x : Mode) → Inv m w → Inv (record { plain = m.plain; opened = m.opened; mode = x; pending = m.pending }) (record { disks = w.disks; memory = w.memory; mode = x })
moved x (inl on) = inl (record { idle = on.idle; mode = refl; memory = on.memory; whole = on.whole; agrees = on.agrees; covers = on.covers; ready = on.ready })
moved x (inr off) = inr (record { call = off.call; waits = off.waits; mode = refl; whole = off.whole; sectors = off.sectors; gone = off.gone; survives = off.survives })

-- a situation by its parts
arrived : {e : Situation} {a b : Answer} {x : Memory} {mode : Mode} {d : Disks} → ◌≡◌ {A = Result} (record { answer = a; memory = e.memory; mode = e.mode }) (record { answer = b; memory = x; mode = mode }) → e.disks ≡ d → e ≡ record { disks = d; memory = x; mode = mode }
arrived is left i = record { disks = left i; memory = (is i).memory; mode = (is i).mode }

-- OPEN AND CLOSED

never_closed : (p : Plain) → is_closed (open_memory p) ≡ false
never_closed p = cond_both p.void invalid (serving p.chunk (table_of p)) (λ x. is_closed x ≡ false) (λ _. refl) (λ _. refl)

still_on : {m : Machine} {w : Situation} → Inv m w → (ground w.disks).stopped ≡ false → On m w
still_on (inl on) h = on
still_on {m} {w} (inr off) h = absurd (both_ways (both_on w.disks) off.gone (not-false _ h))

module _ {m : Machine} {w : Situation} (on : On m w) where
  remembers : m.opened ≡ true → w.memory ≡ open_memory m.plain
  remembers h = on.memory ∙ cond-true m.opened _ _ h

  is_open : is_closed w.memory ≡ false → m.opened ≡ true
  is_open h = ⊎_elim (λ x. x) (λ x. absurd (both_ways (is_closed w.memory) h (ap is_closed (on.memory ∙ cond-false m.opened _ _ x)))) (cases_Bool m.opened)

  is_shut : is_closed w.memory ≡ true → m.opened ≡ false
  is_shut h = ⊎_elim (λ x. absurd (both_ways (is_closed w.memory) (ap is_closed (remembers x) ∙ never_closed m.plain) h)) (λ x. x) (cases_Bool m.opened)

  up_of : m.opened ≡ true → Up m.plain (open_memory m.plain) w.disks
  up_of h = record {
    memory = refl;
    whole = on.whole;
    agrees = on.agrees;
    covers = on.covers;
    stands = λ v. ⊎_elim (λ s. s) (λ x. absurd (both_ways m.opened x.0 h)) (on.ready v);
  }

  shut_of : Shut m.plain w.disks
  shut_of = record { whole = on.whole; agrees = on.agrees; covers = on.covers; ready = λ v. ⊎_elim inl (λ x. inr x.1) (on.ready v) }

-- what the tests of a sector tell
inside : {p : Plain} {x : Memory} {d : Disks} {s : ℕ} → Up p x d → not (ltb s (ground d).size.origin) ≡ false → s < p.size.origin
inside {s = s} up h = subst (λ z. s < z.origin) up.agrees.sectors (ltb-true s _ (not-false _ h))

long : (b : Bytes) → not (eqb (length b) 512) ≡ false → length b ≡ 512
long b h = eqb-true (length b) 512 (not-false _ h)

-- a pair that is open and not invalid
module _ {A B : Type 0} {p : Plain} {d e : Disks} {o : Outcome A} (plan : Memory → Plan Side (Outcome A)) where
  at_serving : is_invalid (open_memory p) ≡ false → Up p (open_memory p) d → Runs both (plan (open_memory p)) d o e → (p.void ≡ false → Up p (serving p.chunk (table_of p)) d → Runs both (plan (serving p.chunk (table_of p))) d o e → B) → B
  at_serving h up ran k =
      ⊎_elim
      (λ v. absurd (both_ways (is_invalid (open_memory p)) h (ap is_invalid (cond-true p.void _ _ v))))
      (λ v.
      let is : open_memory p ≡ serving p.chunk (table_of p) = cond-false p.void _ _ v in
      k v (subst (λ x. Up p x d) is up) (subst (λ x. Runs both (plan x) d o e) is ran))
      (cases_Bool p.void)

-- CALLS WITH STEPS

module _ {A : Type 0} {m : Machine} {w e : Situation} {c : Call} {a : Answer} (f : A → Reply) (inv : Inv m w) where
  -- a call that ends as E tells, unless a test refuses it
  by_steps : (plan : Plan Side (Outcome A)) (E : Answer → Memory → Type 0) → Runs both (as_call f w.mode (guarded w.memory (tests w c) plan)) w.disks (record { answer = a; memory = e.memory; mode = e.mode }) e.disks → (tests w c ≡ None → (o : Outcome A) → Runs both plan w.disks o e.disks → E (replied f o.answer) o.memory) → (tests w c ≡ None → e.mode ≡ m.mode → E a e.memory → Stepped m c a e) → Stepped m c a e
  by_steps plan E ran core finish = go (tested f w.mode w.memory (tests w c) plan ran)
    where
      go : Tested f w.mode w.memory (tests w c) plan w.disks (record { answer = a; memory = e.memory; mode = e.mode }) e.disks → Stepped m c a e
      go (not_begun x is r left) = by_refusal inv x is (ap (λ y. y.answer) r) (arrived r left)
      go (begun none o through r) = finish none (ap (λ y. y.mode) r ∙ same_mode inv) (subst₂ E (sym (ap (λ y. y.answer) r)) (sym (ap (λ y. y.memory) r)) (core none o through))

  -- a call that an open pair alone carries out
  by_open : (plan : Memory → Plan Side (Outcome A)) → Runs both (as_call f w.mode (guarded w.memory (tests w c) (plan w.memory))) w.disks (record { answer = a; memory = e.memory; mode = e.mode }) e.disks → (tests w c ≡ None → ((ground w.disks).stopped ≡ false) × (is_closed w.memory ≡ false)) → opened_by c m.opened ≡ m.opened → mode_by c m.mode ≡ m.mode → (refusal (ground w.disks) (open_memory m.plain) w.mode c ≡ None → Up m.plain (open_memory m.plain) w.disks → (o : Outcome A) → Runs both (plan (open_memory m.plain)) w.disks o e.disks → Ends m.plain c (reply m c) (replied f o.answer) o.memory e.disks) → Stepped m c a e
  by_open plan ran known stays_open stays core =
      by_steps (plan w.memory) (λ x y. Ends m.plain c (reply m c) x y e.disks) ran
      (λ none o through.
      let is = remembers (on none) (opened none) in
      core (subst (λ x. refusal (ground w.disks) x w.mode c ≡ None) is none) (up_of (on none) (opened none)) o (subst (λ x. Runs both (plan x) w.disks o e.disks) is through))
      (λ none mode ends. by_ends inv mode none (on none).idle (opened none) stays_open stays ends)
    where
      on : tests w c ≡ None → On m w
      on none = still_on inv (known none).0

      opened : tests w c ≡ None → m.opened ≡ true
      opened none = is_open (on none) (known none).1

-- how a reopening ends
by_reopened : {m : Machine} {w e : Situation} {k : ℕ} {a : Answer} → Inv m w → tests w (reopen k) ≡ None → m.pending ≡ None → m.opened ≡ false → e.mode ≡ m.mode → Reopened m.plain k a e.memory e.disks → Stepped m (reopen k) a e
by_reopened {m} inv none idle shut mode (good_open v is up) =
    by_end inv (ap ending is) none (is ∙ sym (cond-false m.plain.void _ _ v)) (inl (open_on idle mode refl up))
by_reopened {m} inv none idle shut mode (void_open v is memory x) =
    by_end inv (ap ending is) none (is ∙ sym (cond-true m.plain.void _ _ v)) (inl (record {
      idle = idle;
      mode = mode;
      memory = memory ∙ sym (cond-false m.opened _ _ shut);
      whole = x.whole;
      agrees = x.agrees;
      covers = x.covers;
      ready = λ v. ⊎_elim inl (λ s. inr (shut, s)) (x.ready v);
    }))
by_reopened inv none idle shut mode (off_open f is n down) = by_going inv mode f is n down

-- CALLS WITHOUT STEPS

-- what such a call answers and leaves
once : {a b : Answer} {x : Memory} {mode : Mode} {d : Disks} {e : Situation} → Runs both (at_once b x mode) d (record { answer = a; memory = e.memory; mode = e.mode }) e.disks → (a ≡ b) × (e ≡ record { disks = d; memory = x; mode = mode })
once r = let q = run_over r in (ap (λ y. y.answer) q.0, arrived q.0 q.1)

module _ {m : Machine} {w e : Situation} {a : Answer} (inv : Inv m w) where
  by_status : a ≡ good (figures (status w.mode (ground w.disks) w.memory)) → e ≡ w → Stepped m ask_status a e
  by_status is left =
      by_end inv (ap ending is) refl (is ∙ ap (λ y. good (figures y)) (alike (λ g x mode. status mode g x) (λ z x y mode. refl) inv ∙ status_is m)) (subst (Inv m) (sym left) inv)

  by_question : (t : Option Fault) → tests w ask_merge ≡ t → a ≡ asked t → e ≡ w → Stepped m ask_merge a e
  by_question None found is left = by_end inv (ap ending is) found is (subst (Inv m) (sym left) inv)
  by_question (Some x) found is left = by_refusal inv x found is left

module _
    (core_read_origin : (p : Plain) (d : Disks) (m : Memory) (s n : ℕ) → Up p m d → s < p.size.origin → (o : Outcome Bytes) (e : Disks) → Runs both (after m (read origin s) (λ b. giving m b)) d o e → Ends p (read_origin s n) (good (contents (p.origin s).latest)) (replied contents o.answer) o.memory e)
    (core_read_view : (p : Plain) (d : Disks) (s n : ℕ) → p.void ≡ false → Up p (serving p.chunk (table_of p)) d → s < p.size.origin → (o : Outcome Bytes) (e : Disks) → Runs both (view_reading (ground d) (serving p.chunk (table_of p)) s) d o e → Ends p (read_view s n) (good (contents (p.view s).latest)) (replied contents o.answer) o.memory e)
    (core_write_origin : (p : Plain) (d : Disks) (s : ℕ) (b : Bytes) (k : ℕ) → Up p (open_memory p) d → s < p.size.origin → length b ≡ 512 → (o : Outcome Bool) (e : Disks) → Runs both (origin_writing (ground d) (open_memory p) s b) d o e → Ends p (write_origin s b k) (good (became_invalid (finds_full p s))) (replied became_invalid o.answer) o.memory e)
    (core_write_snapshot : (p : Plain) (d : Disks) (s : ℕ) (b : Bytes) (k : ℕ) → p.void ≡ false → Up p (serving p.chunk (table_of p)) d → s < p.size.origin → length b ≡ 512 → (o : Outcome (Unit {0})) (e : Disks) → Runs both (snapshot_writing (ground d) (serving p.chunk (table_of p)) s b) d o e → Ends p (write_snapshot s b k) (cond (diverged_at p s || can_diverge p) (good nothing) (refused (store_fault 7 (chunk_of p s) 0))) (replied (λ _. nothing) o.answer) o.memory e)
    (core_write_merging : (p : Plain) (d : Disks) (s : ℕ) (b : Bytes) → p.void ≡ false → Up p (serving p.chunk (table_of p)) d → s < p.size.origin → length b ≡ 512 → (o : Outcome (Unit {0})) (e : Disks) → Runs both (merging_writing (ground d) (serving p.chunk (table_of p)) s b) d o e → Ends p (write_merging s b) (good nothing) (replied (λ _. nothing) o.answer) o.memory e)
    (core_flush : (p : Plain) (d : Disks) (m : Memory) → Up p m d → (o : Outcome (Unit {0})) (e : Disks) → Runs both (after m (then (flush origin) (λ _. flush cow)) (λ _. giving m tt)) d o e → Ends p flush_all (good nothing) (replied (λ _. nothing) o.answer) o.memory e)
    (core_step_merge : (p : Plain) (d : Disks) (k : ℕ) → p.void ≡ false → Up p (serving p.chunk (table_of p)) d → (o : Outcome Merged) (e : Disks) → Runs both (step_merging (ground d) p.chunk (table_of p)) d o e → Ends p (step_merge k) (good (merged (run_length p) (length p.diverged - run_length p))) (replied told_merged o.answer) o.memory e)
    (core_reopen : (p : Plain) (d : Disks) (k : ℕ) → Shut p d → (o : Outcome (Unit {0})) (e : Disks) → Runs both (after closed (in_store (opening (sizes d) work_bytes)) (λ x. giving (serving x.size x.table) tt)) d o e → Reopened p k (replied (λ _. nothing) o.answer) o.memory e)
  where
    pub step : (m : Machine) (w after : Situation) (c : Call) (a : Answer) → Inv m w → Happens w c a after → Follows m c a × Inv (next m c (ending a)) after
    step m w e ask_status a inv h = let q = once h.ran in by_status inv q.0 q.1
    step m w e ask_merge a inv h = let q = once h.ran in by_question inv (tests w ask_merge) refl q.0 q.1
    step m w e (read_origin s n) a inv h =
        by_open contents inv (λ x. after x (read origin s) (λ b. giving x b)) h.ran (λ none. (search passing depth 8, search passing depth 8)) refl refl
        (λ none up o ran. core_read_origin m.plain w.disks (open_memory m.plain) s n up (inside up (search passing depth 8)) o e.disks ran)
    step m w e (read_view s n) a inv h =
        by_open contents inv (λ x. view_reading (ground w.disks) x s) h.ran (λ none. (search passing depth 8, search passing depth 8)) refl refl
        (λ none up o ran. at_serving (λ x. view_reading (ground w.disks) x s) (search passing depth 8) up ran (λ v up ran. core_read_view m.plain w.disks s n v up (inside up (search passing depth 8)) o e.disks ran))
    step m w e (write_origin s b k) a inv h =
        by_open became_invalid inv (λ x. origin_writing (ground w.disks) x s b) h.ran (λ none. (search passing depth 8, search passing depth 8)) refl refl
        (λ none up o ran. core_write_origin m.plain w.disks s b k up (inside up (search passing depth 8)) (long b (search passing depth 8)) o e.disks ran)
    step m w e (write_snapshot s b k) a inv h =
        by_open (λ _. nothing) inv (λ x. snapshot_writing (ground w.disks) x s b) h.ran (λ none. (search passing depth 8, search passing depth 8)) refl refl
        (λ none up o ran. at_serving (λ x. snapshot_writing (ground w.disks) x s b) (search passing depth 8) up ran (λ v up ran. core_write_snapshot m.plain w.disks s b k v up (inside up (search passing depth 8)) (long b (search passing depth 8)) o e.disks ran))
    step m w e (write_merging s b) a inv h =
        by_open (λ _. nothing) inv (λ x. merging_writing (ground w.disks) x s b) h.ran (λ none. (search passing depth 8, search passing depth 8)) refl refl
        (λ none up o ran. at_serving (λ x. merging_writing (ground w.disks) x s b) (search passing depth 8) up ran (λ v up ran. core_write_merging m.plain w.disks s b v up (inside up (search passing depth 8)) (long b (search passing depth 8)) o e.disks ran))
    step m w e flush_all a inv h =
        by_open (λ _. nothing) inv (λ x. after x (then (flush origin) (λ _. flush cow)) (λ _. giving x tt)) h.ran (λ none. flush_passed _ _ w.mode none) refl refl
        (λ none up o ran. core_flush m.plain w.disks (open_memory m.plain) up o e.disks ran)
    step m w e begin_merge a inv h = let q = once h.ran in by_end inv (ap ending q.0) refl q.0 (subst (Inv _) (sym q.1) (moved merging inv))
    step m w e (step_merge k) a inv h =
        by_open told_merged inv (merging_step (ground w.disks)) h.ran (λ none. (search passing depth 8, search passing depth 8)) refl refl
        (λ none up o ran. at_serving (merging_step (ground w.disks)) (search passing depth 8) up ran (λ v up ran. core_step_merge m.plain w.disks k v up o e.disks ran))
    step m w e leave_merge a inv h = let q = once h.ran in by_end inv (ap ending q.0) refl q.0 (subst (Inv _) (sym q.1) (moved plain inv))
    step m w e (reopen k) a inv h =
        by_steps (λ _. nothing) inv (after w.memory (in_store (opening (sizes w.disks) work_bytes)) (λ x. giving (serving x.size x.table) tt)) (λ x y. Reopened m.plain k x y e.disks) h.ran
        (λ none o ran. core_reopen m.plain w.disks k (shut_of (on none)) o e.disks (subst (λ x. Runs both (after x (in_store (opening (sizes w.disks) work_bytes)) (λ x. giving (serving x.size x.table) tt)) w.disks o e.disks) ((on none).memory ∙ cond-false m.opened _ _ (shut none)) ran))
        (λ none mode x. by_reopened inv none (on none).idle (shut none) mode x)
      where
        on : tests w (reopen k) ≡ None → On m w
        on none = still_on inv (search passing depth 8)

        shut : tests w (reopen k) ≡ None → m.opened ≡ false
        shut none = is_shut (on none) (not-false _ (search passing depth 8))
