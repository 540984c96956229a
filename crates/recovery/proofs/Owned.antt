-- What a run of device calls is refused with is the device's own.
use Rattle.std.proofs.Common.{◌≡◌, ℕ, zero, suc, ◌+◌, ◌-◌, ◌*◌, ◌/◌, Bool, true, false, cond, eqb, ltb, ltb-false, List, [], ◌∷◌, drop, sym, refl, ap, ◌∙◌, subst}
use Rattle.device.specs.Disk.{Bytes, Disk, Fate, Op, reads, writes, flushes, place, at_sector, stands, Way, passes, leaves, refuses, way, good, refused, Refusal, refusal, told_by, after_by}
use Rattle.device.specs.Plans.{done, call, run, ended, Runs, one, Steps, onward, then, spreading}
use Rattle.device.proofs.Steps.{never}
use Rattle.device.proofs.Uses.{over as run_over, not_good}
use Rattle.layout.specs.Chunks.{area_start}
use Rattle.store.specs.Image.{all_zero, cleaned}
use Rattle.store.specs.Scanning.{Ending}
use Rattle.store.specs.Steps.{finished, flushing, cleaning}
use Rattle.recovery.specs.Readings.{Own, for_length, for_place, for_gone}
use Rattle.recovery.proofs.Gone.{leaves_off}

-- ONE CALL

same_refusal : {n p m q : ℕ} → refuses n p ≡ refuses m q → refusal m q ≡ refusal n p
same_refusal h = cc

-- behind the tests a device refuses as it is gone
power_own : (o : Op) (d : Disk) (on : Bool) (f : Fate) (n p : ℕ) → d.on ≡ on → stands o on f ≡ refuses n p → Own (refusal n p) d
power_own o d true f n p on h = by f.goes h
  where
    by : (b : Bool) → cond b leaves passes ≡ refuses n p → Own (refusal n p) d
    by true h = cc
    by false h = cc
power_own o d false f n p off h = for_gone (place o) (same_refusal h) off

sector_own : (len s : ℕ) (o : Op) (d : Disk) (f : Fate) (n p : ℕ) → at_sector len s d (stands o d.on f) ≡ refuses n p → Own (refusal n p) d
sector_own len s o d f n p h = by (eqb len 512) (ltb s d.count) refl h
  where
    by : (long here : Bool) → ltb s d.count ≡ here → cond long (cond here (stands o d.on f) (refuses 2 s)) (refuses 1 0) ≡ refuses n p → Own (refusal n p) d
    by true true is h = power_own o d d.on f n p refl h
    by true false is h = for_place s (same_refusal h) (ltb-false s d.count is)
    by false here is h = for_length (same_refusal h)

pub refused_own : (o : Op) (d : Disk) (f : Fate) (n p : ℕ) → way o d f ≡ refuses n p → Own (refusal n p) d
refused_own (reads len s) d f n p h = sector_own len s (reads len s) d f n p h
refused_own (writes s bytes) d f n p h = sector_own _ s (writes s bytes) d f n p h
refused_own flushes d f n p h = power_own flushes d d.on f n p refl h

pub left_own : (o : Op) (d : Disk) (f : Fate) → Own (refusal 3 (place o)) (after_by leaves o d f)
left_own o d f = for_gone (place o) refl (leaves_off o d f)

-- A RUN

-- steps that are good to their end, and that a refusal ends
abbrev pub Upright : Steps → Type 0
Upright (done t) = t ≡ good tt
Upright (call u o k) = ((b : Bytes) → Upright (k (good b))) × ((f : Refusal) → k (refused f) ≡ done (refused f))

pub run_own : (p : Steps) → Upright p → (fs : List Fate) (d e : Disk) (f : Refusal) → run one p fs d ≡ ended (refused f) e → Own f e
run_own (done t) ok fs d e f h = let o = run_over {w = one} (record { fates = fs; comes = h }) in not_good (sym (o.0 ∙ ok))
run_own (call u o k) ok [] d e f h = never h
run_own (call u o k) ok (g ∷ fs) d e f h = by (way o d g) refl (λ b next q. run_own (k (good b)) (ok.0 b) fs next e f q) h
  where
    over_there : (r : Refusal) {mid : Disk} → Own r mid → run one (k (refused r)) fs mid ≡ ended (refused f) e → Own f e
    over_there r {mid} own q =
        let o = run_over (subst (λ p. Runs one p mid (refused f) e) (ok.1 r) (record { fates = fs; comes = q })) in
        let same : r ≡ f = cc in
        subst (λ y. Own f y) (sym o.1) (subst (λ r. Own r mid) same own)

    by : (w : Way) → way o d g ≡ w → ((b : Bytes) (next : Disk) → run one (k (good b)) fs next ≡ ended (refused f) e → Own f e) → run one (k (told_by w o d)) fs (after_by w o d g) ≡ ended (refused f) e → Own f e
    by passes is on q = on _ _ q
    by leaves is on q = over_there _ (left_own o d g) q
    by (refuses n p) is on q = over_there _ (refused_own o d g n p is) q

-- THE CLEANING

then_upright : (p q : Steps) → Upright p → Upright q → Upright (then p (λ _. q))
then_upright (done t) q ok next = subst (λ t. Upright (onward t (λ _. q))) (sym ok) next
then_upright (call u o k) q ok next = (λ b. then_upright (k (good b)) q (ok.0 b) next, λ f. ap (λ p. then p (λ _. q)) (ok.1 f))

spreading_upright : (n s : ℕ) (bytes : Bytes) → Upright (spreading s n bytes)
spreading_upright zero s bytes = refl
spreading_upright (suc n) s bytes = (λ b. spreading_upright n (s + 1) (drop 512 bytes), λ f. refl)

pub cleaning_upright : (c : ℕ) (x : Ending) → Upright (cleaning c x)
cleaning_upright c x = by (all_zero (drop (16 * x.place) x.bytes))
  where
    spread : Steps
    spread = spreading (area_start c x.area + x.place / 32) (c - x.place / 32) (drop (512 * (x.place / 32)) (cleaned x.bytes x.place))

    by : (b : Bool) → Upright (cond b finished (then spread (λ _. flushing finished)))
    by true = refl
    by false = then_upright spread (flushing finished) (spreading_upright (c - x.place / 32) _ _) (λ b. refl, λ f. refl)
