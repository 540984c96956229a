-- A run of a plan on both devices, taken apart into runs at one device.
use Rattle.std.proofs.Common.{◌≡◌, List, [], ◌∷◌, sym, ap, ◌∙◌, subst}
use Rattle.device.specs.Disk.{Disk, Fate, way, Told, good, refused, Refusal, told_by, after_by}
use Rattle.device.specs.Plans.{Plan, done, call, ended, run, Runs, World, bind, onward, raised, then, one, both, on, Side, cow, Disks, side, with_side}
use Rattle.device.proofs.Steps.{never}
use Rattle.device.proofs.Uses.{over as run_over, halves}
use Rattle.store.specs.Refusals.{StoreRefusal, StoreSteps}
use Rattle.history.specs.Faults.{Fault, passed_up, store_up, Moves, at_side, in_store}
use Rattle.history.specs.Steps.{Memory, Mode, Outcome, after, carry}
use Rattle.history.specs.History.{Reply, Result, resulted, as_call}

-- a run at one of several devices is a run of that one
pub record Sided {W S A : Type 0} (w : World W S) (x : W) (p : Plan (Unit {0}) A) (s : S) (a : A) (e : S) : Type 0 where
  pub disk : Disk
  pub ran : Runs one p (w.get x s) a disk
  pub left : e ≡ w.set x s disk

pub sided : {W S A : Type 0} {w : World W S} (x : W) (p : Plan (Unit {0}) A) {s : S} {a : A} {e : S} → Runs w (on x p) s a e → Sided w x p s a e
sided {W} {S} {A} {w} x p {s} {a} {e} r = go p r.fates s r.comes
  where
    next : {k : Plan (Unit {0}) A} (s : S) (d : Disk) → Sided w x k (w.set x s d) a e → (disk : Disk) × Runs one k d a disk × (e ≡ w.set x s disk)
    next {k} s d h = (h.disk, subst (λ y. Runs one k y a h.disk) (w.get_set x s d) h.ran, h.left ∙ w.set_set x s d h.disk)

    go : (p : Plan (Unit {0}) A) (fs : List Fate) (s : S) → run w (on x p) fs s ≡ ended a e → Sided w x p s a e
    go (done b) [] s h =
        let same_a : b ≡ a = cc in
        let same_s : s ≡ e = cc in
        record { disk = w.get x s; ran = record { fates = []; comes = ap (λ y. ended y (w.get x s)) same_a }; left = sym same_s ∙ sym (w.set_get x s) }
    go (done b) (f ∷ fs) s h = never h
    go (call u o k) [] s h = never h
    go (call u o k) (f ∷ fs) s h =
        let v = way o (w.get x s) f in
        let d = after_by v o (w.get x s) f in
        let q = next {k = k (told_by v o (w.get x s))} s d (go (k (told_by v o (w.get x s))) fs (w.set x s d) h) in
        record { disk = q.0; ran = record { fates = f ∷ q.1.fates; comes = q.1.comes }; left = q.2 }

-- steps at one device, with what they answered there
pub record At (F A : Type 0) (x : Side) (p : Plan (Unit {0}) (Told F A)) (up : F → Fault) (s : Disks) (t : Told Fault A) (e : Disks) : Type 0 where
  pub answer : Told F A
  pub disk : Disk
  pub ran : Runs one p (side x s) answer disk
  pub told : t ≡ raised up answer
  pub left : e ≡ with_side x s disk

module _ {F A : Type 0} (x : Side) (up : F → Fault) (p : Plan (Unit {0}) (Told F A)) {s : Disks} {t : Told Fault A} {e : Disks} where
  lifted_at : Runs both (bind (on x p) (λ u. done (raised up u))) s t e → At F A x p up s t e
  lifted_at r =
      let h = halves (on x p) (λ u. done (raised up u)) r in
      let o = run_over h.rest in
      let q = sided x p h.first in
      record { answer = h.mid; disk = q.disk; ran = q.ran; told = o.0; left = o.1 ∙ q.left }

pub at_one : {A : Type 0} (x : Side) (p : Plan (Unit {0}) (Told Refusal A)) {s : Disks} {t : Told Fault A} {e : Disks} → Runs both (at_side x p) s t e → At Refusal A x p (passed_up x) s t e
at_one x p r = lifted_at x (passed_up x) p r

pub at_store : {A : Type 0} (p : StoreSteps A) {s : Disks} {t : Told Fault A} {e : Disks} → Runs both (in_store p) s t e → At StoreRefusal A cow p store_up s t e
at_store p r = lifted_at cow store_up p r

-- steps one after the other: the first were refused, or they were good and the rest ran
pub data Then {A B : Type 0} (p : Moves A) (k : A → Moves B) (s : Disks) (t : Told Fault B) (e : Disks) : Type 0 where
  stopped : (f : Fault) → Runs both p s (refused f) e → t ≡ refused f → Then p k s t e
  went_on : (a : A) (mid : Disks) → Runs both p s (good a) mid → Runs both (k a) mid t e → Then p k s t e

pub then_parts : {A B : Type 0} (p : Moves A) (k : A → Moves B) {s : Disks} {t : Told Fault B} {e : Disks} → Runs both (then p k) s t e → Then p k s t e
then_parts {A} {B} p k {s} {t} {e} r = let h = halves p (λ u. onward u k) r in by h.mid h.between h.first h.rest
  where
    by : (u : Told Fault A) (mid : Disks) → Runs both p s u mid → Runs both (onward u k) mid t e → Then p k s t e
    by (good a) mid first rest = went_on a mid first rest
    by (refused f) mid first rest = let o = run_over rest in stopped f (subst (λ y. Runs both p s (refused f) y) (sym o.1) first) o.0

-- the same of a call's steps and what it remembers
pub data After {A B : Type 0} (m : Memory) (p : Moves A) (k : A → Plan Side (Outcome B)) (s : Disks) (o : Outcome B) (e : Disks) : Type 0 where
  stopped : (f : Fault) → Runs both p s (refused f) e → o ≡ record { answer = refused f; memory = m } → After m p k s o e
  went_on : (a : A) (mid : Disks) → Runs both p s (good a) mid → Runs both (k a) mid o e → After m p k s o e

pub after_parts : {A B : Type 0} (m : Memory) (p : Moves A) (k : A → Plan Side (Outcome B)) {s : Disks} {o : Outcome B} {e : Disks} → Runs both (after m p k) s o e → After m p k s o e
after_parts {A} {B} m p k {s} {o} {e} r = let h = halves p (carry m k) r in by h.mid h.between h.first h.rest
  where
    by : (u : Told Fault A) (mid : Disks) → Runs both p s u mid → Runs both (carry m k u) mid o e → After m p k s o e
    by (good a) mid first rest = went_on a mid first rest
    by (refused f) mid first rest = let y = run_over rest in stopped f (subst (λ y. Runs both p s (refused f) y) (sym y.1) first) y.0

-- a call of a history by its outcome
pub record Called {A : Type 0} (f : A → Reply) (mode : Mode) (p : Plan Side (Outcome A)) (s : Disks) (r : Result) (e : Disks) : Type 0 where
  pub outcome : Outcome A
  pub ran : Runs both p s outcome e
  pub result : r ≡ resulted f mode outcome

pub called_parts : {A : Type 0} (f : A → Reply) (mode : Mode) (p : Plan Side (Outcome A)) {s : Disks} {r : Result} {e : Disks} → Runs both (as_call f mode p) s r e → Called f mode p s r e
called_parts f mode p {s} {r} {e} x =
    let h = halves p (λ o. done (resulted f mode o)) x in
    let o = run_over h.rest in
    record { outcome = h.mid; ran = subst (λ y. Runs both p s h.mid y) (sym o.1) h.first; result = o.0 }
