-- The ways of a call by its tests.
use Rattle.std.specs.Prelude.{◌≡◌, ℕ, ◌<◌, Bool, true, false, cond, ◌==◌, nat_lt, refl}
use Rattle.std.proofs.Common.{sym, ap, ◌∙◌, eqb-true, ltb-true}
use Rattle.std.proofs.lemmas.Bool.{eq-eqb, lt-ltb, cond-true}
use Rattle.device.specs.Disk.{Bytes, Disk, Fate, Op, at_sector, Way, way, Told, Refusal, refusal, good, refused, told_by, after_by, Called, Calmly, calm}
use Rattle.device.specs.Answers.{sector_test, power_test}

pub way_here : (len s : ℕ) (d : Disk) (w : Way) → len ≡ 512 → s < d.count → at_sector len s d w ≡ w
way_here len s d w e h = cond-true (len == 512) _ _ (eq-eqb len 512 e) ∙ cond-true (nat_lt s d.count) _ _ (lt-ltb s d.count h)

-- a call that goes the way w
pub goes_by : {o : Op} {d e : Disk} {t : Told Refusal Bytes} (f : Fate) (w : Way) → way o d f ≡ w → t ≡ told_by w o d → e ≡ after_by w o d f → Called o d t e
goes_by {o} {d} {e} {t} f w is a y = record { fate = f; answer = a ∙ ap (λ v. told_by v o d) (sym is); after = y ∙ ap (λ v. after_by v o d f) (sym is) }

-- the same, of a device that does not go
pub calmly_called : {o : Op} {d e : Disk} {t : Told Refusal Bytes} → Calmly o d t e → Called o d t e
calmly_called c = record { fate = calm; answer = c.answer; after = c.after }

pub calm_by : {o : Op} {d e : Disk} {t : Told Refusal Bytes} (w : Way) → way o d calm ≡ w → t ≡ told_by w o d → e ≡ after_by w o d calm → Calmly o d t e
calm_by {o} {d} {e} {t} w is a y = record { answer = a ∙ ap (λ v. told_by v o d) (sym is); after = y ∙ ap (λ v. after_by v o d calm) (sym is) }

-- THE TESTS OF A READ OR A WRITE

-- they are passed
pub tested : (len s n : ℕ) → good (tt {0}) ≡ sector_test len s n → (len ≡ 512) × (s < n)
tested len s n is = go (len == 512) (nat_lt s n) refl refl is
  where
    go : (x y : Bool) → (len == 512) ≡ x → nat_lt s n ≡ y → good (tt {0}) ≡ cond x (cond y (good (tt {0})) (refused (refusal 2 s))) (refused (refusal 1 0)) → (len ≡ 512) × (s < n)
    go true true e h _ = (eqb-true len 512 e, ltb-true s n h)
    go true false e h no_good = cc
    go false y e h no_good = cc

-- the test whether it is on
pub on_by : (on : Bool) (s : ℕ) → good (tt {0}) ≡ power_test on s → on ≡ true
on_by true s h = refl
on_by false s h = cc
