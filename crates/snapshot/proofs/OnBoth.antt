-- Runs of one device, and of the store, at the two devices of a pair.
use Rattle.std.proofs.Common.{◌≡◌, List, [], ◌∷◌, refl, sym, ap, ◌∙◌, subst₂, ap₂}
use Rattle.device.specs.Disk.{Bytes, Disk, Fate, flushes, way, Told, Refusal, good, refused, told_by, after_by, Called}
use Rattle.device.specs.Plans.{Plan, done, call, World, ended, run, Runs, bind, onward, raised, lifted, one, both, on, Side, cow, Disks, pair}
use Rattle.device.proofs.Steps.{Comes, same, ◌⨾◌, ran, ends, never, bind_bind}
use Rattle.device.proofs.Uses.{over, halves}
use Rattle.store.specs.Refusals.{StoreRefusal, StoreSteps, up}
use Rattle.store.specs.Steps.{finished, flushing}
use Rattle.history.specs.Faults.{Fault, passed_up, store_up, Moves, at_side, in_store}
use Rattle.history.specs.Steps.{Memory, Mode, Outcome, after, carry}
use Rattle.history.specs.History.{Reply, resulted, as_call}

-- a run of one device, at one of several
pub ran_on : {W S A : Type 0} {w : World W S} (x : W) {p : Plan (Unit {0}) A} {s : S} {e : Disk} {a : A} → Runs one p (w.get x s) a e → Runs w (on x p) s a (w.set x s e)
ran_on {W} {S} {A} {w} x {p} {s} {e} {a} r = record { fates = r.fates; comes = ap (run w (on x p) r.fates) (sym (w.set_get x s)) ∙ go p r.fates (w.get x s) r.comes }
  where
    go : (p : Plan (Unit {0}) A) (fs : List Fate) (d : Disk) → run one p fs d ≡ ended a e → run w (on x p) fs (w.set x s d) ≡ ended a (w.set x s e)
    go (done b) [] d h = let same_a : b ≡ a = cc in let same_d : d ≡ e = cc in ap₂ (λ y z. ended y (w.set x s z)) same_a same_d
    go (done b) (f ∷ fs) d h = never h
    go (call u o k) [] d h = never h
    go (call u o k) (f ∷ fs) d h =
        ap (λ z. run w (on x (k (told_by (way o z f) o z))) fs (w.set x (w.set x s d) (after_by (way o z f) o z f))) (w.get_set x s d) ∙ ap (run w (on x (k (told_by (way o d f) o d))) fs) (w.set_set x s d _) ∙ go (k (told_by (way o d f) o d)) fs (after_by (way o d f) o d f) h

raised_twice : {A : Type 0} (t : Told Refusal A) → raised (passed_up cow) t ≡ raised store_up (raised up t)
raised_twice (good a) = refl
raised_twice (refused f) = refl

-- an answer that gives nothing
abbrev pub emptied : {F A : Type 0} → Told F A → Told F (Unit {0})
emptied (good a) = good tt
emptied (refused f) = refused f

module _ {A : Type 0} {s : Disks} {e : Disk} where
  -- steps of the store
  pub stored : (p : StoreSteps A) {t : Told StoreRefusal A} → Runs one p s.cow t e → Runs both (in_store p) s (raised store_up t) (pair s.origin e)
  stored p r = ends (ran (λ u. done (raised store_up u)) (ran_on cow r))

  -- steps of the COW device alone, whose refusals come through the store
  pub at_cow : (p : Plan (Unit {0}) (Told Refusal A)) {t : Told StoreRefusal A} → Runs one (lifted up p) s.cow t e → Runs both (at_side cow p) s (raised store_up t) (pair s.origin e)
  at_cow p {t} r =
      let h = halves p (λ u. done (raised up u)) r in
      let o = over h.rest in
      subst₂ (λ x d. Runs both (at_side cow p) s x (pair s.origin d)) (raised_twice h.mid ∙ ap (raised store_up) (sym o.0)) (sym o.1) (ends (ran (λ u. done (raised (passed_up cow) u)) (ran_on cow h.first)))

-- steps of a call, and what the call does by their answer
pub after_ran : {A B : Type 0} (f : B → Reply) (mode : Mode) (m : Memory) (p : Moves A) (k : A → Plan Side (Outcome B)) {s e : Disks} {t : Told Fault A} → Runs both p s t e → Comes both (as_call f mode (after m p k)) s (as_call f mode (carry m k t)) e
after_ran f mode m p k r = same (bind_bind p (carry m k) (λ o. done (resulted f mode o))) ⨾ ran (λ t. as_call f mode (carry m k t)) r

-- a flush at the COW device, as the store ran it
pub record Flushed (d : Disk) (t : Told StoreRefusal (Unit {0})) (e : Disk) : Type 0 where
  pub answer : Told Refusal Bytes
  pub done : Called flushes d answer e
  pub told : t ≡ raised up (emptied answer)

pub flushed : {d e : Disk} {t : Told StoreRefusal (Unit {0})} → Runs one (lifted up (flushing finished)) d t e → Flushed d t e
flushed {d} {e} {t} r = go r.fates r.comes
  where
    over_at : (v : Told Refusal Bytes) (x : Disk) (fs : List Fate) → run one (bind (onward v (λ _. finished)) (λ u. done (raised up u))) fs x ≡ ended t e → (t ≡ raised up (emptied v)) × (e ≡ x)
    over_at (good b) x fs h = over {w = one} (record { fates = fs; comes = h })
    over_at (refused f) x fs h = over {w = one} (record { fates = fs; comes = h })

    go : (fs : List Fate) → run one (lifted up (flushing finished)) fs d ≡ ended t e → Flushed d t e
    go [] h = never h
    go (f ∷ fs) h =
        let q = over_at (told_by (way flushes d f) flushes d) (after_by (way flushes d f) flushes d f) fs h in
        record { answer = told_by (way flushes d f) flushes d; done = record { fate = f; answer = refl; after = q.1 }; told = q.0 }
