-- What good writes and flushes leave as the readings.
use Rattle.std.proofs.Common.{◌≡◌, ℕ, zero, suc, ◌+◌, ◌*◌, ◌<◌, eqb, take, drop, replicate, refl, ap, ◌∙◌, subst, arith, drop-drop}
use Rattle.std.specs.List.{ContainsAt as Has}
use Rattle.std.proofs.lemmas.Bool.{eq-eqb, ne_eqb, cond-true, cond-false}
use Rattle.device.specs.Disk.{Bytes, Disk, Fate, Op, writes, flushes, carried, settled, possibilities, Told, good, refused, Refusal, put}
use Rattle.device.specs.Plans.{Plan, call, Runs, one, onward, then, zeroing, spreading}
use Rattle.store.specs.Steps.{storing}
use Rattle.device.specs.Sectors.{only}
use Rattle.device.proofs.Uses.{Went, went_on, left_in, was_refused, went, over as run_over, not_good, halves}
use Rattle.recovery.specs.Readings.{image}
use Rattle.recovery.proofs.Gathered.{part}

-- a good write at s reads back, and other sectors read as before
module _ (d : Disk) (s : ℕ) (bytes : Bytes) (f : Fate) where
  pub put_here : image (put d s bytes f) s ≡ bytes
  put_here = cond-true (eqb s s) _ _ (eq-eqb s s refl)

  pub put_elsewhere : (t : ℕ) → (t ≡ s → ⊥) → image (put d s bytes f) t ≡ image d t
  put_elsewhere t ne = cond-false (eqb t s) _ _ (ne_eqb t s ne)

-- after a flush each sector has what it reads alone
pub settled_single : (mid : Disk) {e : Disk} (t : ℕ) (b : Bytes) → e ≡ settled mid → Has (possibilities (e.cells t)) b → image e t ≡ b
settled_single mid t b is has = ap (λ y. image y t) is ∙ only (subst (λ y. Has (possibilities (y.cells t)) b) is has)

-- a good call, then the rest
called_good : {X : Type 0} (o : Op) {p : Plan (Unit {0}) (Told Refusal X)} {d e : Disk} {x : X} → Runs one (call tt o (λ t. onward t (λ _. p))) d (good x) e → (f : Fate) × Runs one p (carried o d f) (good x) e
called_good {X} o {p} {d} {e} {x} r = by (went r)
  where
    by : Went {B = X} one tt o (λ _. p) d (good x) e → (f : Fate) × Runs one p (carried o d f) (good x) e
    by (went_on f is q) = (f, q)
    by (left_in f is a y) = not_good a
    by (was_refused f m n is a y) = not_good a

pub flushed_good : {X : Type 0} {p : Plan (Unit {0}) (Told Refusal X)} {d e : Disk} {x : X} → Runs one (call tt flushes (λ t. onward t (λ _. p))) d (good x) e → Runs one p (settled d) (good x) e
flushed_good r = (called_good flushes r).1

pub written_good : {X : Type 0} {s : ℕ} {bytes : Bytes} {p : Plan (Unit {0}) (Told Refusal X)} {d e : Disk} {x : X} → Runs one (call tt (writes s bytes) (λ t. onward t (λ _. p))) d (good x) e → (f : Fate) × Runs one p (put d s bytes f) (good x) e
written_good {s = s} {bytes = bytes} r = called_good (writes s bytes) r

-- zeros over a range: below it nothing changes, and in it zeros are read
pub zeros_below : (n s : ℕ) {d e : Disk} → Runs one (zeroing s n) d (good tt) e → (t : ℕ) → t < s → image e t ≡ image d t
zeros_below zero s r t h = ap (λ y. image y t) (run_over r).1
zeros_below (suc n) s {d} r t h = let w = written_good r in zeros_below n (s + 1) w.1 t (omega arith) ∙ put_elsewhere d s (replicate 512 0) w.0 t (omega arith)

pub zeros_read : (n s : ℕ) {d e : Disk} → Runs one (zeroing s n) d (good tt) e → (i : ℕ) → i < n → image e (s + i) ≡ replicate 512 0
zeros_read zero s r i h = absurd (omega arith)
zeros_read (suc n) s {d} {e} r zero h =
    let w = written_good r in
    let at : s + 0 ≡ s = omega arith in
    ap (image e) at ∙ zeros_below n (s + 1) w.1 s (omega arith) ∙ put_here d s (replicate 512 0) w.0
zeros_read (suc n) s {d} {e} r (suc i) h = let at : s + suc i ≡ (s + 1) + i = omega arith in ap (image e) at ∙ zeros_read n (s + 1) (written_good r).1 i (omega arith)

-- a good spreading: its sectors read as the parts, and others as before
pub spread_elsewhere : (n s : ℕ) (bytes : Bytes) {d e : Disk} → Runs one (spreading s n bytes) d (good tt) e → (u : ℕ) → ((i : ℕ) → i < n → u ≡ s + i → ⊥) → image e u ≡ image d u
spread_elsewhere zero s bytes r u out = ap (λ y. image y u) (run_over r).1
spread_elsewhere (suc n) s bytes {d} r u out =
    let w = written_good r in
    spread_elsewhere n (s + 1) (drop 512 bytes) w.1 u (λ i l is. out (suc i) (omega arith) (omega arith)) ∙ put_elsewhere d s (take 512 bytes) w.0 u (λ is. out 0 (omega arith) (omega arith))

pub spread_here : (n s : ℕ) (bytes : Bytes) {d e : Disk} → Runs one (spreading s n bytes) d (good tt) e → (i : ℕ) → i < n → image e (s + i) ≡ part bytes i
spread_here zero s bytes r i l = absurd (omega arith)
spread_here (suc n) s bytes {d} {e} r zero l =
    let w = written_good r in
    let at : s + 0 ≡ s = omega arith in
    ap (image e) at ∙ spread_elsewhere n (s + 1) (drop 512 bytes) w.1 s (λ i l is. omega arith) ∙ put_here d s (take 512 bytes) w.0
spread_here (suc n) s bytes {d} {e} r (suc i) l =
    let w = written_good r in
    let at : s + suc i ≡ (s + 1) + i = omega arith in
    let back : 512 * i + 512 ≡ 512 * suc i = omega arith in
    ap (image e) at ∙ spread_here n (s + 1) (drop 512 bytes) w.1 i (omega arith) ∙ ap (take 512) (drop-drop (512 * i) 512 bytes ∙ ap (λ k. drop k bytes) (let z : 512 + 512 * i ≡ 512 * suc i = omega arith in z))

-- a sector that was stored is read back, alone
pub stored_good : {s : ℕ} {bytes : Bytes} {d e : Disk} → Runs one (storing s bytes) d (good tt) e → (f : Fate) × (e ≡ settled (put d s bytes f))
stored_good r = let w = written_good r in (w.0, (run_over (flushed_good w.1)).1)

-- one plan and then the rest, where all was good
pub then_good : {X Y : Type 0} (p : Plan (Unit {0}) (Told Refusal X)) (k : X → Plan (Unit {0}) (Told Refusal Y)) {d e : Disk} {y : Y} → Runs one (then p k) d (good y) e → (x : X) × (mid : Disk) × Runs one p d (good x) mid × Runs one (k x) mid (good y) e
then_good {X} {Y} p k {d} {e} {y} r = let h = halves p (λ t. onward t k) r in by h.mid h.first h.rest
  where
    by : (t : Told Refusal X) {mid : Disk} → Runs one p d t mid → Runs one (onward t k) mid (good y) e → (x : X) × (mid : Disk) × Runs one p d (good x) mid × Runs one (k x) mid (good y) e
    by (good x) {mid} a b = (x, mid, a, b)
    by (refused f) a b = not_good (run_over b).0
