-- An opening calls for sectors on the device alone, and writes whole ones: the device refuses only where it is gone.
use Rattle.std.proofs.Common.{◌≡◌, ℕ, zero, suc, ◌+◌, ◌-◌, ◌*◌, ◌/◌, ◌<◌, ◌≤◌, true, false, ◌⊎◌, List, [], length, take, drop, sym, refl, ap, ◌∙◌, subst, inl, inr, ⊎_elim, mul-one, mul-add, arith, length-drop}
use Rattle.std.proofs.lemmas.List.{length-take-le}
use Rattle.std.proofs.lemmas.Bool.{cases_Bool, cond-true, cond-false}
use Rattle.device.specs.Disk.{Bytes, Disk, Fate, Op, writes, flushes, place, Told, good, refused, Refusal, refusal, carried}
use Rattle.device.specs.Plans.{Runs, one, Steps, call, onward, then, spreading}
use Rattle.device.proofs.Uses.{Went, went_on, left_in, was_refused, went as went_one, over as run_over, not_good, halves}
use Rattle.device.specs.Ways.{way_here}
use Rattle.layout.specs.declared.chunk.ChunkSize.{ChunkSize}
use Rattle.layout.specs.declared.exception.Exception.{Exception}
use Rattle.layout.specs.Chunks.{sectors, per_area, area_start}
use Rattle.store.specs.Image.{Sizes, well_shaped, all_zero, cleaned}
use Rattle.store.specs.Refusals.{up}
use Rattle.store.specs.Scanning.{Parsed, full, over, many, wrong, parsed, Ending, most_areas}
use Rattle.store.specs.Steps.{Contents, shape_of, finished, flushing, cleaning}
use Rattle.recovery.specs.Readings.{image, area_bytes, found, OpeningAnswers}
use Rattle.recovery.proofs.Calls.{Did, went, broke}
use Rattle.recovery.proofs.Cleans.{taken, Known, known}
use Rattle.recovery.proofs.Gone.{Gone, Passes, refused_gone, left_gone}
use Rattle.recovery.proofs.Learns.{Learnt, learnt_none, Fine, parsed_fine, area_sector_on}
use Rattle.recovery.proofs.Opens.{RangeOn, range_first, range_rest, IfFull, ScanOn, Reached, Outcome, unread, declined, ran, outcome, found_by}
use Rattle.recovery.proofs.Sheets.{length_area}
use Rattle.recovery.proofs.Tidies.{length_cleaned}

-- READING

module _ (z : Sizes) (size : ChunkSize) (d : Disk) (same : z.cow ≡ d.count) (shape : well_shaped z (sectors size) ≡ true) where
  -- a list that was read so far has its next area on the device
  scan_on : (n a : ℕ) (l : List Exception) → length l ≡ per_area (sectors size) * a → Learnt (shape_of z size) (image d) l → ScanOn (shape_of z size) d n a l
  unfolding ScanOn
  scan_on zero a l long h = tt
  scan_on (suc n) a l long h = (
    λ q inside. subst (λ k. area_start (sectors size) a + q < k) same (area_sector_on z size l shape h.sound a q (omega arith) inside),
    by (λ l' long' h'. scan_on n (a + 1) l' long' h') (parsed (shape_of z size) a (area_bytes (shape_of z size) (image d) a) (per_area (sectors size)) 0 l) (parsed_fine (shape_of z size) (image d) a (per_area (sectors size)) 0 l (omega arith) (omega arith) h),
  )
    where
      by : ((l' : List Exception) → length l' ≡ per_area (sectors size) * (a + 1) → Learnt (shape_of z size) (image d) l' → ScanOn (shape_of z size) d n (a + 1) l') → (p : Parsed) → Fine (shape_of z size) (image d) a p → IfFull p (ScanOn (shape_of z size) d n (a + 1))
      by on (full l') f = on l' (f.1 ∙ omega (arith, mul-add (per_area (sectors size)) a 1, mul-one (per_area (sectors size)))) f.0
      by on (over l' k) f = tt
      by on many f = tt
      by on (wrong k) f = tt

reached : (z : Sizes) (d : Disk) → z.cow ≡ d.count → 0 < d.count → Reached z d
reached z d same some = record {
  header = some;
  areas = λ size head. scan_on z size d same (taken z size (image d 0) head).shape most_areas 0 [] (omega arith) (learnt_none (shape_of z size) (image d));
}

-- WRITING

-- steps on a device are good, or the device is gone
abbrev Ends : Disk → Told Refusal (Unit {0}) → Disk → Type 0
Ends d t e = ((t ≡ good tt) × (e.on ≡ d.on)) ⊎ ((r : Refusal) × (t ≡ refused r) × Gone r e)

-- one call, and then the rest
call_ends : (o : Op) (p : Steps) {d e : Disk} {t : Told Refusal (Unit {0})} → Passes o d → ((f : Fate) → Runs one p (carried o d f) t e → Ends d t e) → Runs one (call tt o (λ t. onward t (λ _. p))) d t e → Ends d t e
call_ends o p {d} {e} {t} ok on r = by (went_one r)
  where
    by : Went {B = Unit {0}} one tt o (λ _. p) d t e → Ends d t e
    by (went_on f is q) = on f q
    by (left_in f is a y) = inr (refusal 3 (place o), a, left_gone o d f y)
    by (was_refused f n k is a y) = inr (refusal n k, a, subst (Gone (refusal n k)) (sym y) (refused_gone o d f n k ok is))

spread_ends : (n s : ℕ) (b : Bytes) {d e : Disk} {t : Told Refusal (Unit {0})} → RangeOn d s n → 512 * n ≤ length b → Runs one (spreading s n b) d t e → Ends d t e
spread_ends zero s b on long r = let o = run_over r in inl (o.0, ap (λ y. y.on) o.1)
spread_ends (suc n) s b {d} on long r =
    let rest : 512 * n ≤ length (drop 512 b) = simp length-drop (omega arith) in
    call_ends (writes s (take 512 b)) (spreading (s + 1) n (drop 512 b)) (λ w. way_here (length (take 512 b)) s d w (length-take-le 512 b (omega arith)) (range_first d s n on))
    (λ f q. spread_ends n (s + 1) (drop 512 b) (range_rest d s n on) rest q) r

flush_ends : {d e : Disk} {t : Told Refusal (Unit {0})} → Runs one (flushing finished) d t e → Ends d t e
flush_ends r = call_ends flushes finished (λ w. refl) (λ f q. let o = run_over q in inl (o.0, ap (λ y. y.on) o.1)) r

then_ends : (p q : Steps) {d e : Disk} {t : Told Refusal (Unit {0})} → ((u : Told Refusal (Unit {0})) (mid : Disk) → Runs one p d u mid → Ends d u mid) → ((mid : Disk) → Runs one q mid t e → Ends mid t e) → Runs one (then p (λ _. q)) d t e → Ends d t e
then_ends p q {d} {e} {t} first rest r = let h = halves p (λ u. onward u (λ _. q)) r in by h.mid h.between (first h.mid h.between h.first) h.rest
  where
    by : (u : Told Refusal (Unit {0})) (mid : Disk) → Ends d u mid → Runs one (onward u (λ _. q)) mid t e → Ends d t e
    by (good u) mid (inl g) run = ⊎_elim (λ h. inl (h.0, h.1 ∙ g.1)) inr (rest mid run)
    by (good u) mid (inr g) run = not_good g.1
    by (refused f) mid (inl g) run = not_good (sym g.0)
    by (refused f) mid (inr g) run = let o = run_over run in inr (g.0, o.0 ∙ g.1, subst (Gone g.0) (sym o.1) g.2)

cleaning_ends : (c : ℕ) (x : Ending) {d e : Disk} {t : Told Refusal (Unit {0})} → RangeOn d (area_start c x.area) c → length x.bytes ≡ 512 * c → x.place < per_area c → Runs one (cleaning c x) d t e → Ends d t e
cleaning_ends c x {d} {e} {t} on long inside r =
    let q = x.place / 32 in
    let whole = cleaned x.bytes x.place in
    let size = length_cleaned x.bytes x.place (omega arith) in
    let rest = length-drop (512 * q) whole in
    ⊎_elim
    (λ z. let o = run_over (subst (λ p. Runs one p d t e) (cond-true (all_zero (drop (16 * x.place) x.bytes)) _ _ z) r) in inl (o.0, ap (λ y. y.on) o.1))
    (λ nz.
    then_ends (spreading (area_start c x.area + q) (c - q) (drop (512 * q) whole)) (flushing finished)
    (λ u mid run. spread_ends (c - q) (area_start c x.area + q) (drop (512 * q) whole) (λ k l. let h = on (q + k) (omega arith) in omega arith) (omega arith) run)
    (λ mid run. flush_ends run)
    (subst (λ p. Runs one p d t e) (cond-false (all_zero (drop (16 * x.place) x.bytes)) _ _ nz) r))
    (cases_Bool (all_zero (drop (16 * x.place) x.bytes)))

-- OPENING

pub opening_answers : OpeningAnswers
opening_answers z d e t same some long r = by (outcome z d e t r)
  where
    Answer : Type 0
    Answer = ((t ≡ found z (image d)) × (e.on ≡ d.on)) ⊎ ((p : ℕ) × (t ≡ refused (up (refusal 3 p))) × (e.on ≡ false))

    gone_says : (f : Refusal) → t ≡ refused (up f) → Gone f e → Answer
    gone_says f is g = inr (g.place, is ∙ ap (λ y. refused (up y)) g.is, g.off)

    ends : (size : ChunkSize) (x : Ending) → Known z size x.table d x → (u : Told Refusal (Unit {0})) → Runs one (cleaning (sectors size) x) d u e → Ends d u e
    ends size x k u run =
        let on : RangeOn d (area_start (sectors size) x.area) (sectors size) = λ q l. k.on x.area q (omega (arith, k.count)) l in
        let size_is : length x.bytes ≡ 512 * sectors size = ap length k.ends.bytes ∙ length_area (shape_of z size) (image d) x.area (λ q l. long _ (on q l)) in
        cleaning_ends (sectors size) x on size_is k.ends.inside run

    cleans : (size : ChunkSize) (x : Ending) → found z (image d) ≡ good (record { size = size; table = x.table }) → Known z size x.table d x → Did {A = Contents} (cleaning (sectors size) x) (record { size = size; table = x.table }) t d e → Answer
    cleans size x is k (went run answer) = ⊎_elim (λ g. inl (answer ∙ sym is, g.1)) (λ g. not_good g.1) (ends size x k (good tt) run)
    cleans size x is k (broke f run answer) = ⊎_elim (λ g. not_good (sym g.0)) (λ g. let same : g.0 ≡ f = cc in gone_says f answer (subst (λ y. Gone y e) same g.2)) (ends size x k (refused f) run)

    by : Outcome z d t e → Answer
    by (unread f own is cells gone) = gone_says f is (gone (reached z d same some))
    by (declined f none is kept) = inl (is ∙ sym none, ap (λ y. y.on) kept)
    by (ran size x head scan h) = cleans size x (found_by z (image d) size (good x) head scan) (known z size x.table d same (record { head = head; ending = x; list = refl; scan = scan })) h
