-- The reads and flushes of a plain device.
use Rattle.std.specs.Prelude.{◌≡◌, ℕ, ◌+◌, ◌-◌, ◌*◌, ◌<◌, true, [], ◌++◌, length, take, drop, Ok, Err, Result, refl}
use Rattle.std.proofs.Common.{sym, ap, subst, ◌∙◌, arith, drop-drop}
use Rattle.std.proofs.lemmas.Bool.{cond-true}
use borrow.Rule.Slice.PartMut.{put_mid}
use Rattle.device.specs.Disk.{Bytes, reads, flushes, passes, good, refused, Calmly}
use Rattle.device.specs.Plain.{nth_sector, with_sector, fit, sectors_of, plain}
use Rattle.device.specs.declared.fault.DeviceFault.{DeviceFault}
use Rattle.device.specs.Answers.{told, power_test}
use Rattle.device.specs.Ways.{way_here, calm_by, on_by}
use Rattle.device.proofs.Refusals.{off_by, flush_gone}

-- what `copy_from_slice` leaves
pub put_mid_sector : (all : Bytes) (s : ℕ) (bytes : Bytes) → put_mid (512 * s) (512 * s + 512 - 512 * s) all bytes ≡ with_sector all s bytes
put_mid_sector all s bytes =
    let k : 512 * s + 512 - 512 * s ≡ 512 = omega arith in
    ap (λ l. take (512 * s) all ++ (bytes ++ l)) (ap (λ n. drop n (drop (512 * s) all)) k ∙ drop-drop 512 (512 * s) all)

-- a read and a flush of a plain device that is on
module _ (all : Bytes) (is : fit (length all) ≡ true) where
  pub plain_reads : {s len : ℕ} {bytes : Bytes} → len ≡ 512 → s < sectors_of (length all) → bytes ≡ nth_sector all s → Calmly (reads len s) (plain all) (good bytes) (plain all)
  plain_reads {s} {len} long h after =
      calm_by passes (way_here len s (plain all) _ long h ∙ cond-true (fit (length all)) _ _ is) (ap good (after ∙ sym (cond-true (fit (length all)) _ _ is))) refl

  pub plain_flushes : Calmly flushes (plain all) (good []) (plain all)
  plain_flushes = calm_by passes (cond-true (fit (length all)) _ _ is) refl refl

-- a flush answers as the test does whether the device is on
pub plain_flushed : (all : Bytes) (r : Result (Unit {0}) DeviceFault) → told r tt ≡ power_test (fit (length all)) 0 → Calmly flushes (plain all) (told r []) (plain all)
plain_flushed all (Ok u) h = plain_flushes all (on_by (fit (length all)) 0 h)
plain_flushed all (Err e) h =
    let off = off_by (fit (length all)) 0 h in
    subst (λ x. Calmly flushes (plain all) (refused x) (plain all)) (sym off.1) (flush_gone off.0)
