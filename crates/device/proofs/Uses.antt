-- What follows from a run.
use Rattle.std.proofs.Common.{◌≡◌, ℕ, List, [], ◌∷◌, refl, ◌∙◌, subst, arith}
use Rattle.device.specs.Disk.{Bytes, Disk, Fate, Op, reads, writes, flushes, Way, passes, leaves, refuses, place, way, Told, Refusal, refusal, good, refused, told_by, after_by, answered, carried}
use Rattle.device.specs.Plans.{Plan, done, call, World, ended, run, Runs, bind, onward, one}
use Rattle.device.proofs.Steps.{never}

-- what each call keeps, a run keeps
pub keeps : {W S A : Type 0} {w : World W S} (P : S → Type 0) → ((x : W) (o : Op) (s : S) (f : Fate) → P s → P (w.set x s (after_by (way o (w.get x s) f) o (w.get x s) f))) → {p : Plan W A} {s e : S} {a : A} → Runs w p s a e → P s → P e
keeps {W} {S} {A} {w} P step {p} {s} {e} {a} r = go p r.fates s r.comes
  where
    go : (p : Plan W A) (fs : List Fate) (s : S) → run w p fs s ≡ ended a e → P s → P e
    go (done b) [] s h x = let same_s : s ≡ e = cc in subst P same_s x
    go (done b) (f ∷ fs) s h x = never h
    go (call y o k) [] s h x = never h
    go (call y o k) (f ∷ fs) s h x = go (k (told_by (way o (w.get y s) f) o (w.get y s))) fs (w.set y s (after_by (way o (w.get y s) f) o (w.get y s) f)) h (step y o s f x)

step_count : (w : Way) (o : Op) (d : Disk) (f : Fate) → (after_by w o d f).count ≡ d.count
step_count passes (reads l s) d f = refl
step_count passes (writes s b) d f = refl
step_count passes flushes d f = refl
step_count leaves (reads l s) d f = refl
step_count leaves (writes s b) d f = refl
step_count leaves flushes d f = refl
step_count (refuses n p) o d f = refl

-- the number of sectors never changes
pub count_stays : {A : Type 0} {p : Plan (Unit {0}) A} {d e : Disk} {a : A} → Runs one p d a e → e.count ≡ d.count
count_stays {d = d} r = keeps (λ x. x.count ≡ d.count) (λ _ o s f h. step_count (way o s f) o s f ∙ h) r refl

-- a call with `?`: it passed and the plan goes on, or it refused and the run ended there
pub data Went {W S B : Type 0} (w : World W S) (x : W) (o : Op) (k : Bytes → Plan W (Told Refusal B)) (s : S) (a : Told Refusal B) (e : S) : Type 0 where
  went_on : (f : Fate) → way o (w.get x s) f ≡ passes → Runs w (k (answered o (w.get x s))) (w.set x s (carried o (w.get x s) f)) a e → Went w x o k s a e
  left_in : (f : Fate) → way o (w.get x s) f ≡ leaves → a ≡ refused (refusal 3 (place o)) → e ≡ w.set x s (after_by leaves o (w.get x s) f) → Went w x o k s a e
  was_refused : (f : Fate) (n p : ℕ) → way o (w.get x s) f ≡ refuses n p → a ≡ refused (refusal n p) → e ≡ w.set x s (w.get x s) → Went w x o k s a e

module _ {W S B : Type 0} {w : World W S} {x : W} {o : Op} {k : Bytes → Plan W (Told Refusal B)} {s : S} {a : Told Refusal B} {e : S} where
  pub went : Runs w (call x o (λ t. onward t k)) s a e → Went w x o k s a e
  went r = go r.fates r.comes
    where
      d : Disk
      d = w.get x s

      ended_here : {b : Told Refusal B} {s' : S} (fs : List Fate) → run w (done b) fs s' ≡ ended a e → (a ≡ b) × (e ≡ s')
      ended_here [] h = (cc, cc)
      ended_here (f ∷ fs) h = never h

      at_way : (v : Way) (f : Fate) (fs : List Fate) → way o (w.get x s) f ≡ v → run w (onward (told_by v o (w.get x s)) k) fs (w.set x s (after_by v o (w.get x s) f)) ≡ ended a e → Went w x o k s a e
      at_way passes f fs is h = went_on f is (record { fates = fs; comes = h })
      at_way leaves f fs is h = let q = ended_here fs h in left_in f is q.0 q.1
      at_way (refuses n p) f fs is h = let q = ended_here fs h in was_refused f n p is q.0 q.1

      go : (fs : List Fate) → run w (call x o (λ t. onward t k)) fs s ≡ ended a e → Went w x o k s a e
      go [] h = never h
      go (f ∷ fs) h = at_way (way o (w.get x s) f) f fs refl h

pub over : {W S A : Type 0} {w : World W S} {a b : A} {s e : S} → Runs w (done b) s a e → (a ≡ b) × (e ≡ s)
over {w = w} {a = a} {b = b} {s = s} {e = e} r = go r.fates r.comes
  where
    go : (fs : List Fate) → run w (done b) fs s ≡ ended a e → (a ≡ b) × (e ≡ s)
    go [] h = (cc, cc)
    go (f ∷ fs) h = never h

pub not_good : {A X : Type 0} {a : A} {n p : ℕ} → good a ≡ refused (refusal n p) → X
not_good h = absurd (let z : ◌≡◌ {A = ℕ} 0 1 = cc in omega arith)

-- a run of two plans in a row is a run of each
pub record Halves {W S A B : Type 0} (w : World W S) (p : Plan W A) (g : A → Plan W B) (s : S) (x : B) (e : S) : Type 0 where
  pub mid : A
  pub between : S
  pub first : Runs w p s mid between
  pub rest : Runs w (g mid) between x e

pub halves : {W S A B : Type 0} {w : World W S} (p : Plan W A) (g : A → Plan W B) {s : S} {x : B} {e : S} → Runs w (bind p g) s x e → Halves w p g s x e
halves {W} {S} {A} {B} {w} p g {s} {x} {e} r = go p r.fates s r.comes
  where
    go : (p : Plan W A) (fs : List Fate) (s : S) → run w (bind p g) fs s ≡ ended x e → Halves w p g s x e
    go (done a) fs s h = record { mid = a; between = s; first = record { fates = []; comes = refl }; rest = record { fates = fs; comes = h } }
    go (call y o k) [] s h = never h
    go (call y o k) (f ∷ fs) s h =
        let r = go (k (told_by (way o (w.get y s) f) o (w.get y s))) fs (w.set y s (after_by (way o (w.get y s) f) o (w.get y s) f)) h in
        record { mid = r.mid; between = r.between; first = record { fates = f ∷ r.first.fates; comes = r.first.comes }; rest = r.rest }
