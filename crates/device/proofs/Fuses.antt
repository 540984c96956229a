-- The calls that a fuse holds back.
use Rattle.std.specs.Prelude.{◌≡◌, ℕ, ◌<◌, ◌≤◌, false, List, length, Option, None, Some, unwrap_or, slice_index_or, refl}
use Rattle.std.proofs.Common.{sym, ap, ◌∙◌, arith}
use Rattle.std.proofs.Math.ListN.{get_or-eq_default}
use Rattle.std.proofs.lemmas.Bool.{cond-false, both_ways, le-ltb}
use Rattle.device.specs.Disk.{Bytes, Disk, Op, reads, writes, flushes, place, tests, at_sector, Way, refuses, Told, Refusal, refusal, refused, told_by, Called, calm}
use Rattle.device.specs.Answers.{sector_test}
use Rattle.device.specs.Fuse.{fused, passes_on, blown_by, Burnt}
use Rattle.device.specs.Fusing.{vanishes}
use Rattle.device.specs.Ways.{way_here, goes_by}
use Rattle.device.proofs.Refusals.{stopped}

-- past the end of a list
pub past : {A : Type 0} (xs : List A) (d : A) → slice_index_or xs (length xs) d ≡ d
past xs d = get_or-eq_default xs d {n = length xs} (omega arith)

-- THE FUSE BLOWS

-- inside a write or a flush that it does not pass on, and then the device is gone
module _ (d : Disk) (left : Option ℕ) where
  pub fuse_write : (s : ℕ) (bytes : Bytes) → length bytes ≡ 512 → s < d.count → Called (writes s bytes) (fused d left) (refused (refusal 3 s)) (fused d None)
  fuse_write s bytes e h =
      let x = vanishes (writes s bytes) d left in
      goes_by x.fate x.w (way_here (length bytes) s (fused d left) _ e h ∙ x.is) x.answer x.after

  pub fuse_flush : Called flushes (fused d left) (refused (refusal 3 0)) (fused d None)
  fuse_flush = let x = vanishes flushes d left in goes_by x.fate x.w x.is x.answer x.after

  pub fused_gone : left ≡ None → (fused d left).on ≡ false
  fused_gone is = ap (λ x. (fused d x).on) is

-- HELD BACK

-- a call that is not passed on
pub held_back : {o : Op} {left left' : Option ℕ} {d : Disk} {t : Told Refusal Bytes} → passes_on o left ≡ false → t ≡ told_by (tests o d (refuses 3 (place o))) o d → left' ≡ blown_by left t → Burnt o left d t left' d
held_back {o} {left} dead is blown = record { passed = λ h. absurd (both_ways (passes_on o left) dead h); held = λ _. (is, blown, refl) }

-- writes and flushes once none is left, and every call once the fuse has blown
pub spent_up : (s : ℕ) (bytes : Bytes) (left : Option ℕ) → unwrap_or left 0 ≤ 0 → (passes_on (writes s bytes) left ≡ false) × (passes_on flushes left ≡ false)
spent_up s bytes None h = (refl, refl)
spent_up s bytes (Some k) h = (le-ltb 0 k h, le-ltb 0 k h)

pub blown_up : (o : Op) (left : Option ℕ) → left ≡ None → passes_on o left ≡ false
blown_up o left h = ap (passes_on o) h

-- a call that the tests refuse, and a write and a read that they let through
module _ {left : Option ℕ} {d : Disk} where
  pub held_stopped : (len s : ℕ) (o : Op) {t : Told Refusal Bytes} {r : Refusal} → passes_on o left ≡ false → ((w : Way) → tests o d w ≡ at_sector len s d w) → t ≡ refused r → refused r ≡ sector_test len s d.count → Burnt o left d t left d
  held_stopped len s o dead tested is h =
      let x = stopped len s o d (refuses 3 (place o)) calm h in
      held_back dead (is ∙ x.answer ∙ ap (λ v. told_by v o d) (sym (tested (refuses 3 (place o))))) (sym (ap (blown_by left) is ∙ cond-false _ _ _ x.early))

  pub write_held : {s : ℕ} {bytes : Bytes} → passes_on (writes s bytes) left ≡ false → length bytes ≡ 512 → s < d.count → Burnt (writes s bytes) left d (refused (refusal 3 s)) None d
  write_held {s} {bytes} dead e h = held_back dead (ap (λ v. told_by v (writes s bytes) d) (sym (way_here (length bytes) s d _ e h))) refl

  pub read_held : {s len : ℕ} → left ≡ None → len ≡ 512 → s < d.count → Burnt (reads len s) left d (refused (refusal 3 s)) left d
  read_held {s} {len} blown e h = held_back (blown_up (reads len s) left blown) (ap (λ v. told_by v (reads len s) d) (sym (way_here len s d _ e h))) blown
