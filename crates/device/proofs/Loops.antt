-- The loops over ranges of sectors: the numbers that they go through, and the plan of what is left, one turn at a time.
use Rattle.std.proofs.Common.{◌≡◌, ℕ, suc, ◌+◌, ◌-◌, ◌/◌, ◌%◌, ◌^◌, ◌<◌, ◌≤◌, Bool, true, false, cond, eqb, ltb, None, Some, List, [], ◌∷◌, ◌++◌, length, take, drop, replicate, sym, refl, ap, ap₂, ◌∙◌, subst, ⊎_elim, arith, length-append, length-drop, length-take, drop-drop, take-append-drop, ltb-true}
use Rattle.std.specs.Bool.{IsTrue}
use Rattle.std.specs.Borrow.{Bor}
use Rattle.std.specs.Iterator.{Yields}
use Rattle.std.specs.Iterator.Adapters.{zip_steps, take_steps, step_by_source, step_by_gap, step_by_first_take, step_by_steps}
use Rattle.std.specs.Range.{range_inclusive_start, range_inclusive_end, range_inclusive_exhausted, range_inclusive_len}
use Rattle.std.specs.Slice.Iter.{chunks_exact_steps}
use Rattle.std.specs.declared.iter.Zip.{Zip}
use Rattle.std.specs.declared.iter.Take.{Take}
use Rattle.std.specs.declared.iter.StepBy.{StepBy}
use Rattle.std.specs.declared.ops.Range.{Range}
use Rattle.std.specs.declared.ops.RangeInclusive.{RangeInclusive}
use Rattle.std.specs.declared.slice.ChunksExact.{ChunksExact}
use Rattle.std.proofs.iter.Yields.{nat_range_steps}
use Rattle.std.proofs.iter.runs.Sources.{nat_range_inclusive_steps}
use borrow.Rule.Slice.PartMut.{put_mid}
use Rattle.std.proofs.lemmas.Slice.{take-put_mid, drop-put_mid}
use Rattle.std.proofs.lemmas.Bool.{cond-true, eq-eqb}
use Rattle.std.proofs.lemmas.List.{take_at, drop_at}
use Rattle.device.specs.Disk.{Bytes, Disk, Op, reads, writes, Way, refuses, at_sector, Told, good, Refusal, told_by, Called, Whole}
use Rattle.device.specs.Plans.{Plan, Steps, done, call, onward, Filled, zeroing, filling, spreading, reading_into, writing_from}

-- A GOOD READ OR WRITE NAMES A SECTOR ON THE DEVICE

pub here : (len s : ℕ) (d : Disk) (w : Way) (o : Op) {a : Bytes} → good a ≡ told_by (at_sector len s d w) o d → s < d.count
here len s d w o {a} is = go (eqb len 512) (ltb s d.count) refl is
  where
    go : (x y : Bool) → ltb s d.count ≡ y → good a ≡ told_by (cond x (cond y w (refuses 2 s)) (refuses 1 0)) o d → s < d.count
    go true true e h = ltb-true s d.count e
    go true false e h = cc
    go false y e h = cc

-- so the next number still fits
module _ {d e : Disk} {s : ℕ} {a : Bytes} (whole : Whole d) where
  pub write_fits : {bytes : Bytes} → Called (writes s bytes) d (good a) e → s + 1 < 2 ^ 32
  write_fits {bytes} c = omega (arith, here (length bytes) s d _ (writes s bytes) c.answer, whole)

  pub read_fits : {len : ℕ} → Called (reads len s) d (good a) e → s + 1 < 2 ^ 32
  read_fits {len} c = omega (arith, here len s d _ (reads len s) c.answer, whole)

-- THE NUMBERS FROM A SECTOR ON

-- numbers up to u32::MAX, of which one at least is left
pub record Numbers (r : RangeInclusive ℕ) : Type 0 where
  pub unspent : range_inclusive_exhausted r ≡ false
  pub some : range_inclusive_start r < 2 ^ 32
  pub last : range_inclusive_end r ≡ 2 ^ 32 - 1

module _ {r : RangeInclusive ℕ} (now : Numbers r) where
  left : range_inclusive_len (λ x y. y - x) (range_inclusive_start r) (range_inclusive_end r) (range_inclusive_exhausted r) ≡ 2 ^ 32 - range_inclusive_start r
  left = omega (arith, ap (range_inclusive_len (λ x y. y - x) (range_inclusive_start r) (range_inclusive_end r)) now.unspent, now.last, now.some)

  pub never_out : {X : Type 0} {t : RangeInclusive ℕ} → nat_range_inclusive_steps r None t → X
  never_out h = absurd (omega (arith, left, h.1.0, now.some))

  pub next_number : {t : RangeInclusive ℕ} {x : ℕ} → nat_range_inclusive_steps r (Some x) t → x + 1 < 2 ^ 32 → Numbers t × (range_inclusive_start t ≡ x + 1)
  next_number {t} {x} h fits = go (range_inclusive_exhausted t) refl
    where
      go : (b : Bool) → range_inclusive_exhausted t ≡ b → Numbers t × (range_inclusive_start t ≡ x + 1)
      go true e = absurd (omega (arith, left, h.1.0, h.1.1, ap (range_inclusive_len (λ x y. y - x) (range_inclusive_start t) (range_inclusive_end t)) e))
      go false e = (record { unspent = e; some = omega (arith, h.1.0, h.1.2 e); last = h.0 ∙ now.last }, omega (arith, h.1.0, h.1.2 e))

-- ZEROS

-- what is left to write
abbrev pub zeroing_on : Take (RangeInclusive ℕ) → Steps
zeroing_on it = zeroing it.iter.start it.n

module _ (it next : Take (RangeInclusive ℕ)) where
  pub zeroing_turn : {x : ℕ} → take_steps nat_range_inclusive_steps it (Some x) next → zeroing_on it ≡ call tt (writes x (replicate 512 0)) (λ t. onward t (λ _. zeroing (x + 1) next.n))
  zeroing_turn h = let more : it.n ≡ suc next.n = omega (arith, h.1) in ap₂ zeroing (sym h.0.1.0) more

  pub zeroing_over : Numbers it.iter → take_steps nat_range_inclusive_steps it None next → zeroing_on it ≡ done (good tt)
  zeroing_over now h =
      let not_more : 0 < it.n → ⊥ = λ m. never_out now (h m) in
      let none : it.n ≡ 0 = omega arith in
      ap (zeroing it.iter.start) none

-- PARTS OF SOME BYTES

-- the whole sectors of some bytes to those from s on
abbrev pub spreading_all : ℕ → Bytes → Steps
spreading_all s b = spreading s (length b / 512) b

-- what is left to write
abbrev pub spreading_on : Zip (RangeInclusive ℕ) (ChunksExact ℕ) → Steps
spreading_on it = spreading_all it.a.start it.b.rest.now

module _ (it next : Zip (RangeInclusive ℕ) (ChunksExact ℕ)) (size : it.b.size ≡ 512) where
  pub spreading_turn : {x : ℕ} (part : Bor Bytes) → zip_steps nat_range_inclusive_steps chunks_exact_steps it (Some (x, part)) next → spreading_on it ≡ call tt (writes x part.now) (λ t. onward t (λ _. spreading_all (x + 1) next.b.rest.now))
  spreading_turn {x} part h =
      let b = it.b.rest.now in
      let rest = next.b.rest.now in
      let long : length part.now ≡ 512 = h.1.1.1 ∙ size in
      let count : length b / 512 ≡ suc (length rest / 512) = omega (arith, ap length h.1.1.0 ∙ length-append part.now rest) in
      let front : take 512 b ≡ part.now = ap (take 512) h.1.1.0 ∙ take_at part.now rest 512 long in
      let back : drop 512 b ≡ rest = ap (drop 512) h.1.1.0 ∙ drop_at part.now rest 512 long in
      ap₂ (λ y n. spreading y n b) (sym h.0.1.0) count ∙ (λ j. call tt (writes x (front j)) (λ t. onward t (λ _. spreading (x + 1) (length rest / 512) (back j))))

  pub spreading_over : Numbers it.a → zip_steps nat_range_inclusive_steps chunks_exact_steps it None next → spreading_on it ≡ done (good tt)
  spreading_over now h =
      let none : length it.b.rest.now / 512 ≡ 0 = ⊎_elim (λ out. never_out now out.1) (λ out. omega (arith, out.1.1.0)) h in
      ap (λ n. spreading it.a.start n it.b.rest.now) none

-- PLACES IN A BUFFER

-- the place that comes next
abbrev pub place : StepBy (Range ℕ) → ℕ
place it = (step_by_source it).start + cond (step_by_first_take it) 0 (step_by_gap it)

passed : (xs : List ℕ) (r t : Range ℕ) → Yields nat_range_steps r xs t → (t.end ≡ r.end) × (t.start ≡ r.start + length xs)
passed [] r t y = (sym (ap (λ z. z.end) y), omega (arith, ap (λ z. z.start) y))
passed (x ∷ xs) r t y = let h = passed xs y.0 t y.2 in (h.0 ∙ y.1.0, omega (arith, h.1, y.1.1.2))

-- places up to the end of a buffer of whole sectors, a sector apart
pub record Places (it : StepBy (Range ℕ)) (len : ℕ) : Type 0 where
  pub gap : step_by_gap it ≡ 511
  pub end : (step_by_source it).end ≡ len
  pub whole : len % 512 ≡ 0
  pub even : place it % 512 ≡ 0

pub first_place : {it : StepBy (Range ℕ)} {len : ℕ} → step_by_source it ≡ record { start = 0; end = len } → step_by_gap it + 1 ≡ 512 → IsTrue (step_by_first_take it) → len % 512 ≡ 0 → Places it len × (place it ≡ 0)
first_place {it} is gap fresh whole =
    let at : place it ≡ 0 = ap (λ f. (step_by_source it).start + cond f 0 (step_by_gap it)) fresh ∙ ap (λ r. r.start + 0) is in
    (record { gap = omega arith; end = ap (λ r. r.end) is; whole = whole; even = omega arith }, at)

module _ {it next : StepBy (Range ℕ)} {len : ℕ} (now : Places it len) where
  pub next_place : {at : ℕ} → step_by_steps nat_range_steps it (Some at) next → (at ≡ place it) × (at + 512 ≤ len) × Places next len × (place next ≡ at + 512)
  next_place {at} h =
      let over = passed h.2.1 (step_by_source it) h.2.3.0 h.2.3.1 in
      let step = h.2.3.2 in
      let here : at ≡ place it = omega (arith, over.1, step.1.1, h.2.2, h.2.4) in
      let there : place next ≡ at + 512 = ap (λ f. (step_by_source next).start + cond f 0 (step_by_gap next)) h.1 ∙ omega (arith, step.1.1, step.1.2, h.0, now.gap) in
      let below : at < len = omega (arith, over.0, step.1.0, step.1.1, now.end) in
      (here, omega (arith, now.even, now.whole), record { gap = h.0 ∙ now.gap; end = step.0 ∙ over.0 ∙ now.end; whole = now.whole; even = omega (arith, now.even) }, there)

  pub all_places : step_by_steps nat_range_steps it None next → len ≤ place it
  all_places h = let over = passed h.2.1 (step_by_source it) h.2.3.0 h.2.3.1 in omega (arith, over.0, over.1, h.2.3.2.1.0, h.2.2, h.2.4, now.end)

-- from sector s on into what a buffer has from a place on
abbrev pub filling_from : ℕ → ℕ → Bytes → Plan (Unit {0}) Filled
filling_from s at b = filling s (length (drop at b) / 512) (take at b) (drop at b)

-- what is left to read
abbrev pub filling_on : Zip (RangeInclusive ℕ) (StepBy (Range ℕ)) → Bytes → Plan (Unit {0}) Filled
filling_on it b = filling_from it.a.start (place it.b) b

module _ (it next : Zip (RangeInclusive ℕ) (StepBy (Range ℕ))) (b : Bytes) {n : ℕ} (all : length b ≡ n) (places : Places it.b n) where
  pub filling_over : Numbers it.a → zip_steps nat_range_inclusive_steps (step_by_steps nat_range_steps) it None next → filling_on it b ≡ done (record { answer = good tt; buffer = b })
  filling_over now h =
      let at = place it.b in
      let end : n ≤ at = ⊎_elim (λ out. never_out now out.1) (λ out. all_places places out.1) h in
      let none : length (drop at b) / 512 ≡ 0 = simp length-drop (omega arith) in
      ap (λ n. filling it.a.start n (take at b) (drop at b)) none ∙ (λ j. done (record { answer = good tt; buffer = take-append-drop at b j }))

  module _ {x at : ℕ} (h : zip_steps nat_range_inclusive_steps (step_by_steps nat_range_steps) it (Some (x, at)) next) where
    within : at + 512 ≤ length b
    within = omega (arith, (next_place places h.1).1)

    pub filling_turn : filling_on it b ≡ filling x (suc (length (drop (at + 512) b) / 512)) (take at b) (drop at b)
    filling_turn =
        let count : length (drop at b) / 512 ≡ suc (length (drop (at + 512) b) / 512) = simp length-drop (omega (arith, within)) in
        ap₂ (λ y p. filling_from y p b) (sym h.0.1.0) (sym (next_place places h.1).0) ∙ ap (λ n. filling x n (take at b) (drop at b)) count

    part_long : length (take (at + 512 - at) (drop at b)) ≡ 512
    part_long = simp (length-take, length-drop) (omega (arith, within))

    pub part_read : {s : ℕ} {d e : Disk} {t : Told Refusal Bytes} → Called (reads (length (take (at + 512 - at) (drop at b))) s) d t e → Called (reads 512 s) d t e
    part_read {s} {d} {e} {t} c = subst (λ m. Called (reads m s) d t e) part_long c

    -- a part that was not touched leaves the buffer as it was
    pub put_back : {part : Bytes} → part ≡ take (at + 512 - at) (drop at b) → put_mid at (at + 512 - at) b part ≡ take at b ++ drop at b
    put_back is = ap (put_mid at (at + 512 - at) b) is ∙ ap (λ l. take at b ++ l) (take-append-drop (at + 512 - at) (drop at b))

    -- and one into which a sector was read is behind the next place
    pub filled_on : (part : Bytes) → length part ≡ length (take (at + 512 - at) (drop at b)) → next.a.start ≡ x + 1 → filling (x + 1) (length (drop (at + 512) b) / 512) (take at b ++ part) (drop 512 (drop at b)) ≡ filling_on next (put_mid at (at + 512 - at) b part)
    filled_on part same start =
        let long : length part ≡ 512 = same ∙ part_long in
        let size : at + 512 - at ≡ 512 = omega arith in
        let read = put_mid at (at + 512 - at) b part in
        let front : take (at + 512) read ≡ take at b ++ part = take-put_mid at _ b part (at + 512) (omega arith) (omega (arith, within)) in
        let rest : drop (at + 512) read ≡ drop (at + 512) b = drop-put_mid at _ b part (at + 512) (omega arith) (omega (arith, within)) (long ∙ sym size) in
        (λ j. filling (x + 1) (length (sym rest j) / 512) (sym front j) ((drop-drop 512 at b ∙ sym rest) j)) ∙ ap₂ (λ y q. filling_from y q read) (sym start) (sym (next_place places h.1).3)

-- BUFFERS OF WHOLE SECTORS, AND OTHERS

module _ (s : ℕ) (b : Bytes) where
  pub reading_whole : length b % 512 ≡ 0 → reading_into s b ≡ filling s (length b / 512) [] b
  reading_whole h = cond-true (eqb (length b % 512) 0) _ _ (eq-eqb (length b % 512) 0 h)

  pub writing_whole : length b % 512 ≡ 0 → writing_from s b ≡ spreading_all s b
  writing_whole h = cond-true (eqb (length b % 512) 0) _ _ (eq-eqb (length b % 512) 0 h)
