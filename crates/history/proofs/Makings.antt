-- A making that a pair refuses changes nothing, and is refused as the machine expects.
use Rattle.std.proofs.Common.{◌≡◌, ℕ, ◌/◌, ◌≤◌, true, [], ◌∷◌, Some, None, Option, sym, refl, ap, ◌∙◌, subst, inl, inr}
use Rattle.std.proofs.lemmas.Bool.{and_parts, leb-true, not-false, cond-true, eq-eqb}
use Rattle.device.specs.Disk.{flushes, Told, good, refused, Refusal, refusal}
use Rattle.device.specs.Plans.{Plan, done, Runs, both, raised, Side, origin, cow, side, Disks}
use Rattle.device.proofs.Uses.{over as run_over}
use Rattle.layout.specs.declared.chunk.ChunkSize.{ChunkSize}
use Rattle.layout.specs.Chunks.{sectors, chunk_size}
use Rattle.store.specs.Steps.{only_call, making}
use Rattle.history.specs.Faults.{Fault, passed_up, flush, at_side}
use Rattle.history.specs.Steps.{Memory, serving, ground, both_on, first, not_stopped, still_closed, Outcome, guarded, after, giving, shape, make, make_tests, make_sized, size_test, make_refusal}
use Rattle.history.specs.History.{Situation, ending, under_way, not_done}
use Rattle.history.specs.Machine.{Machine}
use Rattle.history.proofs.Fair.{Fair, Readable, Fared, fine, lost, fares, asks_fair}
use Rattle.history.proofs.Fairs.{making_fair}
use Rattle.history.proofs.Histories.{MakingSteps}
use Rattle.history.proofs.Invariant.{Inv, Wholes}
use Rattle.history.proofs.Refuses.{first_passed}
use Rattle.history.proofs.Refusing.{test_passed}
use Rattle.history.proofs.Sides.{Live, live}
use Rattle.history.proofs.Splits.{At, After, Then, after_parts, then_parts, at_one}
use Rattle.history.proofs.Starting.{steps}
use Rattle.history.proofs.Step.{alike}

-- STEPS THAT ARE REFUSED

three : (x : Side) (p : ℕ) → (passed_up x (refusal 3 p)).number ≡ 3
three origin p = refl
three cow p = refl

-- fair steps at a device that is on are refused only as it goes
side_refused : {A : Type 0} (x : Side) (p : Plan (Unit {0}) (Told Refusal A)) {d e : Disks} {f : Fault} → Fair (side x d).count p → Readable (side x d) → (side x d).on ≡ true → Runs both (at_side x p) d (refused f) e → f.number ≡ 3
side_refused {A} x p {d} {e} {f} fair long on r = go (fares fair long on y.ran)
  where
    y : At Refusal A x p (passed_up x) d (refused f) e
    y = at_one x p r

    go : Fared y.answer y.disk → f.number ≡ 3
    go (fine a is up reads) = let h : ◌≡◌ {A = Told Fault A} (refused f) (good a) = y.told ∙ ap (raised (passed_up x)) is in cc
    go (lost s is off) =
        let h : ◌≡◌ {A = Told Fault A} (refused f) (refused (passed_up x (refusal 3 s))) = y.told ∙ ap (raised (passed_up x)) is in
        let same : f ≡ passed_up x (refusal 3 s) = cc in
        ap (λ z. z.number) same ∙ three x s

flush_fair : (n : ℕ) → Fair n (only_call flushes)
flush_fair n = asks_fair n flushes (λ b. done (good b)) tt (λ _ _. tt)

-- so are those of a making
steps_refused : (size : ChunkSize) {d e : Disks} {f : Fault} → 3 ≤ d.cow.count / sectors size → Live d → Runs both (steps size) d (refused f) e → f.number ≡ 3
steps_refused size {d} {e} {f} room up r = go (then_parts (flush origin) (λ _. at_side cow (making (sectors size))) r)
  where
    go : Then (flush origin) (λ _. at_side cow (making (sectors size))) d (refused f) e → f.number ≡ 3
    go (Then.stopped g run is) =
        let same : f ≡ g = cc in
        ap (λ z. z.number) same ∙ side_refused origin (only_call flushes) (flush_fair d.origin.count) (up.long origin) (up.on origin) run
    go (Then.went_on b mid run rest) =
        let left : d.cow ≡ mid.cow = sym (ap (λ z. z.cow) (at_one origin (only_call flushes) run).left) in
        side_refused cow (making (sectors size))
        (subst (λ z. Fair z.count (making (sectors size))) left (making_fair d.cow.count size room))
        (subst Readable left (up.long cow)) (subst (λ z. z.on ≡ true) left (up.on cow)) rest

-- TESTS

-- a plan behind a test: the test refused, or the plan ran
data Held {A : Type 0} (m : Memory) (t : Option Fault) (p : Plan Side (Outcome A)) (d : Disks) (o : Outcome A) (e : Disks) : Type 0 where
  held : (x : Fault) → t ≡ Some x → o ≡ record { answer = refused x; memory = m } → e ≡ d → Held m t p d o e
  passed : t ≡ None → Runs both p d o e → Held m t p d o e

held_by : {A : Type 0} (m : Memory) (t : Option Fault) (p : Plan Side (Outcome A)) {d e : Disks} {o : Outcome A} → Runs both (guarded m t p) d o e → Held m t p d o e
held_by m None p r = passed refl r
held_by m (Some x) p r = let q = run_over r in held x refl q.0 q.1

-- one more test after two
after_refusal : (a b t : Option Fault) (x : Fault) → first (a ∷ b ∷ []) ≡ Some x → first (a ∷ b ∷ t ∷ []) ≡ Some x
after_refusal None None t x h = cc
after_refusal None (Some f) t x h = h
after_refusal (Some f) b t x h = h

after_none : (a b t : Option Fault) (x : Fault) → first (a ∷ b ∷ []) ≡ None → t ≡ Some x → first (a ∷ b ∷ t ∷ []) ≡ Some x
after_none None None None x h is = is
after_none None None (Some f) x h is = is
after_none None (Some f) t x h is = cc
after_none (Some f) b t x h is = cc

-- A MAKING THAT IS REFUSED

-- a test refused it, and it left all
record Unmade (t : Option Fault) (d : Disks) (m : Memory) (f : Fault) (n : Memory) (e : Disks) : Type 0 where
  is : t ≡ Some f
  memory : n ≡ m
  left : e ≡ d

module _ (d e : Disks) (m n : Memory) (f : Fault) (whole : Wholes d) (told : ending (refused f) ≡ not_done) where
  abbrev refusing_so : Outcome (Unit {0})
  refusing_so = record { answer = refused f; memory = n }

  unmade_by : {t : Option Fault} (x : Fault) → t ≡ Some x → refusing_so ≡ record { answer = refused x; memory = m } → e ≡ d → Unmade t d m f n e
  unmade_by x is o left =
      let h = ap (λ z. z.answer) o in
      let same : f ≡ x = cc in
      record { is = is ∙ ap (λ z. Some z) (sym same); memory = ap (λ z. z.memory) o; left = left }

  -- 3 is no such refusal
  no_three : {X : Type 0} → f.number ≡ 3 → X
  no_three is = let h : under_way ≡ not_done = sym (cond-true _ under_way not_done (eq-eqb _ _ is)) ∙ told in cc

  module _ (up : both_on d ≡ true) where
    shaped : (size : ChunkSize) → shape (ground d) (sectors size) ≡ None → Runs both (after m (steps size) (λ _. giving (serving size []) tt)) d refusing_so e → Unmade None d m f n e
    shaped size fits r = go (after_parts m (steps size) (λ _. giving (serving size []) tt) r)
      where
        go : After m (steps size) (λ _. giving (serving size []) tt) d refusing_so e → Unmade None d m f n e
        go (After.stopped g run is) =
            let h = ap (λ z. z.answer) is in
            let same : f ≡ g = cc in
            let room : 3 ≤ d.cow.count / sectors size = leb-true 3 _ (and_parts _ _ (not-false _ (test_passed _ _ fits))).1 in
            no_three (ap (λ z. z.number) same ∙ steps_refused size room (live up whole) run)
        go (After.went_on a mid run rest) = let h = ap (λ z. z.answer) (run_over rest).0 in cc

    sized : (o : Option ChunkSize) → Runs both (make_sized (ground d) m o) d refusing_so e → Unmade (size_test (ground d) o) d m f n e
    sized None r = let q = run_over r in unmade_by _ refl q.0 q.1
    sized (Some size) r = go (held_by m (shape (ground d) (sectors size)) (after m (steps size) (λ _. giving (serving size []) tt)) r)
      where
        go : Held m (shape (ground d) (sectors size)) (after m (steps size) (λ _. giving (serving size []) tt)) d refusing_so e → Unmade (shape (ground d) (sectors size)) d m f n e
        go (held x is o left) = unmade_by x is o left
        go (passed fits run) = subst (λ t. Unmade t d m f n e) (sym fits) (shaped size fits run)

  made_not : (c : ℕ) → Runs both (make (ground d) m c) d refusing_so e → Unmade (make_refusal (ground d) m c) d m f n e
  made_not c r = go (held_by m (make_tests (ground d) m) (make_sized (ground d) m (chunk_size c)) r)
    where
      go : Held m (make_tests (ground d) m) (make_sized (ground d) m (chunk_size c)) d refusing_so e → Unmade (make_refusal (ground d) m c) d m f n e
      go (held x is o left) = unmade_by x (after_refusal (not_stopped (ground d)) (still_closed m) (size_test (ground d) (chunk_size c)) x is) o left
      go (passed none run) =
          let y = sized (not-false _ (first_passed _ _ (still_closed m ∷ []) none)) (chunk_size c) run in
          record { is = after_none (not_stopped (ground d)) (still_closed m) (size_test (ground d) (chunk_size c)) f none y.is; memory = y.memory; left = y.left }

whole_of : {m : Machine} {w : Situation} → Inv m w → Wholes w.disks
whole_of (inl on) = on.whole
whole_of (inr off) = off.whole

pub unmade : MakingSteps
unmade m w after c f inv x =
    let y = made_not w.disks after.disks w.memory after.memory f (whole_of inv) x.told c x.ran in
    (sym (alike (λ g k mode. make_refusal g k c) (λ z k l mode. refl) inv) ∙ y.is, λ i. record { disks = y.left i; memory = y.memory i; mode = (x.pair ∙ sym x.offered) i })
