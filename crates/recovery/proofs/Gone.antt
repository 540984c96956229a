-- A device that has the sector of a call, and is given whole sectors, refuses only where it goes or is gone.
use Rattle.std.proofs.Common.{◌≡◌, ℕ, Bool, true, false, cond, sym, refl, ap, ◌∙◌}
use Rattle.device.specs.Disk.{Disk, Fate, Op, reads, writes, flushes, place, tests, Way, passes, leaves, refuses, stands, way, Refusal, refusal, after_by}

-- the refusal of a device that is gone
pub record Gone (r : Refusal) (e : Disk) : Type 0 where
  pub place : ℕ
  pub is : r ≡ refusal 3 place
  pub off : e.on ≡ false

never_refuses : {X : Type 0} (b : Bool) {n p : ℕ} → cond b leaves passes ≡ refuses n p → X
never_refuses true h = cc
never_refuses false h = cc

-- behind the tests only a device that is gone refuses
by_power : (o : Op) (on : Bool) (f : Fate) (n p : ℕ) → stands o on f ≡ refuses n p → (refusal n p ≡ refusal 3 (place o)) × (on ≡ false)
by_power o true f n p is = never_refuses f.goes is
by_power o false f n p is = (cc, refl)

-- the call passes its tests
abbrev pub Passes : Op → Disk → Type 0
Passes o d = (w : Way) → tests o d w ≡ w

pub refused_gone : (o : Op) (d : Disk) (f : Fate) (n p : ℕ) → Passes o d → way o d f ≡ refuses n p → Gone (refusal n p) d
refused_gone o d f n p ok is = let q = by_power o d.on f n p (sym (ok _) ∙ is) in record { place = place o; is = q.0; off = q.1 }

pub leaves_off : (o : Op) (d : Disk) (f : Fate) → (after_by leaves o d f).on ≡ false
leaves_off (reads len s) d f = refl
leaves_off (writes s b) d f = refl
leaves_off flushes d f = refl

pub left_gone : (o : Op) (d : Disk) (f : Fate) {e : Disk} → e ≡ after_by leaves o d f → Gone (refusal 3 (place o)) e
left_gone o d f y = record { place = place o; is = refl; off = ap (λ e. e.on) y ∙ leaves_off o d f }
