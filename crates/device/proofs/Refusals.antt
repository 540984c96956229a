-- What the tests of a call answer when they refuse, and what a device answers that is gone.
use Rattle.std.specs.Prelude.{◌≡◌, ℕ, ◌<◌, Bool, true, false, cond, length, ◌==◌, nat_eq, nat_lt, refl}
use Rattle.std.proofs.Common.{sym, ap, subst, ◌∙◌}
use Rattle.std.proofs.lemmas.Bool.{cond-false}
use Rattle.device.specs.Disk.{Bytes, Disk, Fate, Op, reads, writes, flushes, place, at_sector, Way, refuses, stands, Told, Refusal, refusal, good, refused, told_by, after_by, Called, Calmly, calm}
use Rattle.device.specs.Answers.{sector_test, power_test}
use Rattle.device.specs.Ways.{way_here, calm_by, calmly_called}

-- a call of a device that never goes is a call
pub as_called : {o : Op} {d e : Disk} {t : Told Refusal Bytes} → Calmly o d t e → Called o d t e
as_called c = calmly_called c

-- no answer is both a refusal and good
pub other_answers : {X A : Type 0} {a : A} {r : Refusal} → ◌≡◌ {A = Told Refusal A} (refused r) (good a) → X
other_answers e = cc

-- THE TESTS REFUSE

-- they refuse, whatever would come after them
pub record Stopped (len s : ℕ) (o : Op) (d : Disk) (r : Refusal) (w : Way) (f : Fate) : Type 0 where
  pub answer : refused r ≡ told_by (at_sector len s d w) o d
  pub after : d ≡ after_by (at_sector len s d w) o d f
  pub early : nat_eq r.number 3 ≡ false

pub stopped : (len s : ℕ) (o : Op) (d : Disk) (w : Way) (f : Fate) {r : Refusal} → refused r ≡ sector_test len s d.count → Stopped len s o d r w f
stopped len s o d w f {r} is = let x = go (len == 512) (nat_lt s d.count) is in record { answer = x.0; after = x.1; early = x.2 }
  where
    go : (x y : Bool) → refused r ≡ cond x (cond y (good (tt {0})) (refused (refusal 2 s))) (refused (refusal 1 0)) → (refused r ≡ told_by (cond x (cond y w (refuses 2 s)) (refuses 1 0)) o d) × (d ≡ after_by (cond x (cond y w (refuses 2 s)) (refuses 1 0)) o d f) × ((r.number == 3) ≡ false)
    go true true h = cc
    go true false h = (cc, refl, cc)
    go false y h = (cc, refl, cc)

-- a write and a read that they refuse leave the device as it was
module _ {s : ℕ} {d : Disk} {t : Told Refusal Bytes} {r : Refusal} (is : t ≡ refused r) where
  pub write_stopped : {b : Bytes} → refused r ≡ sector_test (length b) s d.count → Calmly (writes s b) d t d
  write_stopped {b} h = let x = stopped (length b) s (writes s b) d _ calm h in record { answer = is ∙ x.answer; after = x.after }

  pub read_stopped : {len : ℕ} → refused r ≡ sector_test len s d.count → Calmly (reads len s) d t d
  read_stopped {len} h = let x = stopped len s (reads len s) d _ calm h in record { answer = is ∙ x.answer; after = x.after }

-- A DEVICE THAT IS GONE

-- it refuses each call, at the sector that the call names
pub stands_gone : (o : Op) (d : Disk) → d.on ≡ false → stands o d.on calm ≡ refuses 3 (place o)
stands_gone o d h = cond-false d.on _ _ h

module _ {d : Disk} {s : ℕ} where
  pub write_gone : {b : Bytes} → length b ≡ 512 → s < d.count → d.on ≡ false → Calmly (writes s b) d (refused (refusal 3 s)) d
  write_gone {b} e h g = calm_by (refuses 3 s) (way_here (length b) s d _ e h ∙ stands_gone (writes s b) d g) refl refl

  pub read_gone : {len : ℕ} → len ≡ 512 → s < d.count → d.on ≡ false → Calmly (reads len s) d (refused (refusal 3 s)) d
  read_gone {len} e h g = calm_by (refuses 3 s) (way_here len s d _ e h ∙ stands_gone (reads len s) d g) refl refl

pub flush_gone : {d : Disk} → d.on ≡ false → Calmly flushes d (refused (refusal 3 0)) d
flush_gone {d} g = calm_by (refuses 3 0) (stands_gone flushes d g) refl refl

-- the test whether it is on refuses
pub off_by : (on : Bool) (s : ℕ) {r : Refusal} → refused r ≡ power_test on s → (on ≡ false) × (r ≡ refusal 3 s)
off_by true s h = cc
off_by false s h = (refl, cc)

-- a write and a read that this test refuses
module _ {s : ℕ} {d : Disk} {t : Told Refusal Bytes} {r : Refusal} (is : t ≡ refused r) (off : refused r ≡ power_test d.on s) where
  pub write_unpowered : {b : Bytes} → length b ≡ 512 → s < d.count → Calmly (writes s b) d t d
  write_unpowered {b} e h = let x = off_by d.on s off in subst (λ y. Calmly (writes s b) d y d) (sym (is ∙ ap refused x.1)) (write_gone e h x.0)

  pub read_unpowered : {len : ℕ} → len ≡ 512 → s < d.count → Calmly (reads len s) d t d
  read_unpowered {len} e h = let x = off_by d.on s off in subst (λ y. Calmly (reads len s) d y d) (sym (is ∙ ap refused x.1)) (read_gone e h x.0)
