-- A run by steps: what each device call, and each call of a function with a plan, brings a plan to.
use Rattle.std.proofs.Common.{◌≡◌, ℕ, List, [], ◌∷◌, ◌++◌, IsErrAnd, IfErr, Ok, Err, Result, sym, refl, ap, ◌∙◌, subst, ap₂, append_assoc, append-nil, arith}
use Rattle.device.specs.declared.fault.DeviceFault.{DeviceFault}
use Rattle.device.specs.Disk.{Bytes, Disk, Fate, Op, way, Told, Refusal, refusal, refused, told_by, after_by, Called}
use Rattle.device.specs.Answers.{told, number, where_at}
use Rattle.device.specs.Plans.{Plan, done, call, World, ended, astray, run, Runs, bind}

-- from p at s, some calls lead to q at e, whatever is to come
pub record Comes {W S A : Type 0} (w : World W S) (p : Plan W A) (s : S) (q : Plan W A) (e : S) : Type 0 where
  pub fates : List Fate
  pub leads : (gs : List Fate) → run w p (fates ++ gs) s ≡ run w q gs e

module _ {W S A : Type 0} {w : World W S} where
  pub stay : {p : Plan W A} {s : S} → Comes w p s p s
  stay = record { fates = []; leads = λ gs. refl }

  infixr 5 ◌⨾◌
  pub ◌⨾◌ : {p q r : Plan W A} {d e h : S} → Comes w p d q e → Comes w q e r h → Comes w p d r h
  ◌⨾◌ {p} {q} {r} {d} a b = record {
    fates = a.fates ++ b.fates;
    leads = λ gs. ap (λ l. run w p l d) (append_assoc a.fates b.fates gs) ∙ a.leads (b.fates ++ gs) ∙ b.leads gs;
  }

  -- the plan, or the state, written another way
  pub same : {p q : Plan W A} {s : S} → p ≡ q → Comes w p s q s
  same {p} {q} {s} e = record { fates = []; leads = λ gs. ap (λ x. run w x gs s) e }

  pub still : {p : Plan W A} {s e : S} → s ≡ e → Comes w p s p e
  still {p} is = record { fates = []; leads = λ gs. ap (λ x. run w p gs x) is }

  pub ends : {p : Plan W A} {s e : S} {a : A} → Comes w p s (done a) e → Runs w p s a e
  ends {p} {s} c = record { fates = c.fates; comes = ap (λ l. run w p l s) (sym (append-nil c.fates)) ∙ c.leads [] }

  pub ends_as : {p : Plan W A} {s e : S} {a b : A} → a ≡ b → Comes w p s (done b) e → Runs w p s a e
  ends_as {p} {s} {e} is c = ends (subst (λ x. Comes w p s (done x) e) (sym is) c)

  -- a device call
  pub called : {x : W} {o : Op} {k : Told Refusal (Bytes) → Plan W A} {s : S} {t : Told Refusal (Bytes)} {d : Disk} → Called o (w.get x s) t d → Comes w (call x o k) s (k t) (w.set x s d)
  called {x} {o} {k} {s} c = record { fates = c.fate ∷ []; leads = λ gs. ap₂ (λ t h. run w (k t) gs (w.set x s h)) (sym c.answer) (sym c.after) }

pub never : {S A X : Type 0} {a : A} {s : S} → astray ≡ ended a s → X
never e = absurd (let z : ◌≡◌ {A = ℕ} 0 1 = cc in omega arith)

-- a call of a function with a plan, and then what the plan goes on with
pub ran : {W S A B : Type 0} {w : World W S} (g : A → Plan W B) {p : Plan W A} {s e : S} {a : A} → Runs w p s a e → Comes w (bind p g) s (g a) e
ran {W} {S} {A} {B} {w} g {p} {s} {e} {a} r = record { fates = r.fates; leads = go p r.fates s r.comes }
  where
    go : (p : Plan W A) (fs : List Fate) (s : S) → run w p fs s ≡ ended a e → (gs : List Fate) → run w (bind p g) (fs ++ gs) s ≡ run w (g a) gs e
    go (done b) [] s h gs = let same_a : b ≡ a = cc in let same_s : s ≡ e = cc in ap₂ (λ x y. run w (g x) gs y) same_a same_s
    go (done b) (f ∷ fs) s h gs = never h
    go (call x o k) [] s h gs = never h
    go (call x o k) (f ∷ fs) s h gs = go (k (told_by (way o (w.get x s) f) o (w.get x s))) fs (w.set x s (after_by (way o (w.get x s) f) o (w.get x s) f)) h gs

-- steps within steps, as one row of them
pub bind_bind : {W A B C : Type 0} (p : Plan W A) (g : A → Plan W B) (h : B → Plan W C) → bind (bind p g) h ≡ bind p (λ a. bind (g a) h)
bind_bind (done a) g h = refl
bind_bind (call x o k) g h = λ i. call x o (λ t. bind_bind (k t) g h i)

-- what `?` returns where a call refused with y
pub passed_on : {A B : Type 0} (r : Result A DeviceFault) (b : B) (y : DeviceFault) → IsErrAnd r (λ x. x ≡ y) → told r b ≡ refused (refusal (number y) (where_at y))
passed_on (Ok a) b y h = absurd h
passed_on (Err x) b y h = ap (λ z. refused (refusal (number z) (where_at z))) h

-- what `?` leaves untouched where a call refused
pub untouched_on : {A E X : Type 0} (r : Result A E) → X → IfErr r (λ _. X)
untouched_on (Ok a) x = tt
untouched_on (Err e) x = x

-- a call of a function with a plan, as the last step
pub led : {W S A : Type 0} {w : World W S} {p : Plan W A} {s e : S} {a : A} → Runs w p s a e → Comes w p s (done a) e
led {W} {S} {A} {w} {p} {s} {e} {a} r = record { fates = r.fates; leads = go p r.fates s r.comes }
  where
    go : (p : Plan W A) (fs : List Fate) (s : S) → run w p fs s ≡ ended a e → (gs : List Fate) → run w p (fs ++ gs) s ≡ run w (done a) gs e
    go (done b) [] s h gs = let same_a : b ≡ a = cc in let same_s : s ≡ e = cc in ap₂ (λ x y. run w (done x) gs y) same_a same_s
    go (done b) (f ∷ fs) s h gs = never h
    go (call x o k) [] s h gs = never h
    go (call x o k) (f ∷ fs) s h gs = go (k (told_by (way o (w.get x s) f) o (w.get x s))) fs (w.set x s (after_by (way o (w.get x s) f) o (w.get x s) f)) h gs
