-- Steps that name sectors of the device, with buffers of one sector, are refused only because the device goes.
use Rattle.std.proofs.Common.{◌≡◌, ℕ, zero, suc, ◌+◌, ◌*◌, ◌<◌, ◌≤◌, Bool, true, false, cond, List, [], ◌∷◌, ◌++◌, length, take, drop, replicate, sym, refl, ap, ◌∙◌, subst, arith, length-drop}
use Rattle.std.proofs.lemmas.List.{length-take-le}
use Rattle.std.proofs.lemmas.Bool.{cond-true}
use Rattle.device.specs.Disk.{Bytes, Disk, Fate, Op, reads, writes, flushes, place, passes, leaves, way, carried, broken, Told, Refusal, refusal, good, refused, answered, told_by, after_by}
use Rattle.device.specs.Plans.{Plan, done, call, ended, run, Runs, bind, onward, then, one, zeroing, spreading, gathering}
use Rattle.device.proofs.Steps.{never}
use Rattle.device.specs.Ways.{way_here}
use Rattle.recovery.proofs.Gone.{leaves_off}
use Rattle.history.proofs.Wholes.{same_count}

-- a call with one sector of bytes, at a sector of a device of n
abbrev pub Sits : ℕ → Op → Type 0
Sits n (reads len s) = (len ≡ 512) × (s < n)
Sits n (writes s b) = (length b ≡ 512) × (s < n)
Sits n flushes = Unit {0}

-- what such a call gives
abbrev pub Gives : Op → Bytes → Type 0
Gives (reads len s) b = length b ≡ 512
Gives (writes s bytes) b = Unit {0}
Gives flushes b = Unit {0}

-- all calls of a plan are so, and a refusal is passed up
abbrev pub Fair : {A : Type 0} → ℕ → Plan (Unit {0}) (Told Refusal A) → Type 0
Fair n (done (good a)) = Unit {0}
Fair n (done (refused r)) = ⊥
Fair {A} n (call u o k) = Sits n o × ((r : Refusal) → k (refused r) ≡ done (refused r)) × ((b : Bytes) → Gives o b → Fair n (k (good b)))

-- each sector of a device reads as 512 bytes
abbrev pub Readable : Disk → Type 0
Readable d = (s : ℕ) → s < d.count → length (d.cells s).latest ≡ 512

way_on : (o : Op) (d : Disk) (f : Fate) → Sits d.count o → d.on ≡ true → way o d f ≡ cond f.goes leaves passes
way_on (reads len s) d f h on = way_here len s d _ h.0 h.1 ∙ cond-true d.on _ _ on
way_on (writes s b) d f h on = way_here (length b) s d _ h.0 h.1 ∙ cond-true d.on _ _ on
way_on flushes d f h on = cond-true d.on _ _ on

carried_on : (o : Op) (d : Disk) (f : Fate) → (carried o d f).on ≡ d.on
carried_on (reads len s) d f = refl
carried_on (writes s b) d f = refl
carried_on flushes d f = refl

gives : (o : Op) (d : Disk) → Sits d.count o → Readable d → Gives o (answered o d)
gives (reads len s) d h long = long s h.1
gives (writes s b) d h long = tt
gives flushes d h long = tt

put_long : (b : Bool) (x y : Bytes) → length x ≡ 512 → length y ≡ 512 → length (cond b x y) ≡ 512
put_long true x y h k = h
put_long false x y h k = k

carried_readable : (o : Op) (d : Disk) (f : Fate) → Sits d.count o → Readable d → Readable (carried o d f)
carried_readable (reads len s) d f h long = long
carried_readable (writes s b) d f h long = λ t l. put_long _ b (d.cells t).latest h.0 (long t l)
carried_readable flushes d f h long = long

-- how fair steps end: good, with the device on; or it went inside them
pub data Fared {A : Type 0} (t : Told Refusal A) (e : Disk) : Type 0 where
  fine : (a : A) → t ≡ good a → e.on ≡ true → Readable e → Fared t e
  lost : (p : ℕ) → t ≡ refused (refusal 3 p) → e.on ≡ false → Fared t e

pub fares : {A : Type 0} {p : Plan (Unit {0}) (Told Refusal A)} {d e : Disk} {t : Told Refusal A} → Fair d.count p → Readable d → d.on ≡ true → Runs one p d t e → Fared t e
fares {A} {p} {d} {e} {t} fair long on r = go p r.fates d fair long on r.comes
  where
    ended_at : {x : Told Refusal A} {y : Disk} (fs : List Fate) → run one (done x) fs y ≡ ended t e → (t ≡ x) × (e ≡ y)
    ended_at [] h = (cc, cc)
    ended_at (f ∷ fs) h = never h

    at_way : (o : Op) (k : Told Refusal Bytes → Plan (Unit {0}) (Told Refusal A)) (fs : List Fate) (d : Disk) (f : Fate) → ((r : Refusal) → k (refused r) ≡ done (refused r)) → (run one (k (good (answered o d))) fs (carried o d f) ≡ ended t e → Fared t e) → (b : Bool) → run one (k (told_by (cond b leaves passes) o d)) fs (after_by (cond b leaves passes) o d f) ≡ ended t e → Fared t e
    at_way o k fs d f stop more false h = more h
    at_way o k fs d f stop more true h =
        let x = ended_at fs (sym (ap (λ q. run one q fs (broken o d f)) (stop (refusal 3 (place o)))) ∙ h) in
        lost (place o) x.0 (ap (λ y. y.on) x.1 ∙ leaves_off o d f)

    go : (p : Plan (Unit {0}) (Told Refusal A)) (fs : List Fate) (d : Disk) → Fair d.count p → Readable d → d.on ≡ true → run one p fs d ≡ ended t e → Fared t e
    go (done (good a)) fs d fair long on h = let x = ended_at fs h in fine a x.0 (ap (λ y. y.on) x.1 ∙ on) (subst Readable (sym x.1) long)
    go (done (refused r)) fs d fair long on h = absurd fair
    go (call u o k) [] d fair long on h = never h
    go (call u o k) (f ∷ fs) d fair long on h =
        let w = way_on o d f fair.0 on in
        at_way o k fs d f fair.1
        (λ q. go (k (good (answered o d))) fs (carried o d f) (subst (λ n. Fair n (k (good (answered o d)))) (sym (same_count passes o d f)) (fair.2 _ (gives o d fair.0 long))) (carried_readable o d f fair.0 long) (carried_on o d f ∙ on) q)
        f.goes
        (sym (ap (λ v. run one (k (told_by v o d)) fs (after_by v o d f)) w) ∙ h)

-- PLANS

-- one device call and then steps
pub asks_fair : {A : Type 0} (n : ℕ) (o : Op) (k : Bytes → Plan (Unit {0}) (Told Refusal A)) → Sits n o → ((b : Bytes) → Gives o b → Fair n (k b)) → Fair n (call tt o (λ t. onward t k))
asks_fair n o k sits rest = (sits, λ r. refl, rest)

pub then_fair : {A B : Type 0} (n : ℕ) (p : Plan (Unit {0}) (Told Refusal A)) (k : A → Plan (Unit {0}) (Told Refusal B)) → Fair n p → ((a : A) → Fair n (k a)) → Fair n (then p k)
then_fair n (done (good a)) k fair rest = rest a
then_fair n (done (refused r)) k fair rest = absurd fair
then_fair {A} {B} n (call u o g) k fair rest = (fair.0, λ r. ap (λ q. bind q (λ t. onward t k)) (fair.1 r), λ b h. then_fair n (g (good b)) k (fair.2 b h) rest)

pub zeroing_fair : (n m s : ℕ) → s + m ≤ n → Fair n (zeroing s m)
zeroing_fair n zero s h = tt
zeroing_fair n (suc m) s h = asks_fair n (writes s (replicate 512 0)) (λ _. zeroing (s + 1) m) (refl, omega arith) (λ b _. zeroing_fair n m (s + 1) (omega arith))

pub spreading_fair : (n m s : ℕ) (bytes : Bytes) → s + m ≤ n → length bytes ≡ 512 * m → Fair n (spreading s m bytes)
spreading_fair n zero s bytes h long = tt
spreading_fair n (suc m) s bytes h long =
    let rest = length-drop 512 bytes in
    asks_fair n (writes s (take 512 bytes)) (λ _. spreading (s + 1) m (drop 512 bytes)) (length-take-le 512 bytes (omega arith), omega arith) (λ b _. spreading_fair n m (s + 1) (drop 512 bytes) (omega arith) (omega arith))

pub gathering_fair : (n m s : ℕ) (sofar : Bytes) → s + m ≤ n → Fair n (gathering s m sofar)
gathering_fair n zero s sofar h = tt
gathering_fair n (suc m) s sofar h = asks_fair n (reads 512 s) (λ b. gathering (s + 1) m (sofar ++ b)) (refl, omega arith) (λ b _. gathering_fair n m (s + 1) (sofar ++ b) (omega arith))
