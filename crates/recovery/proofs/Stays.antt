-- After a good opening the list stands.
use Rattle.std.proofs.Common.{◌≡◌, ℕ, zero, suc, ◌+◌, ◌-◌, ◌*◌, ◌/◌, ◌%◌, ◌^◌, ◌<◌, ◌≤◌, true, false, not, leb, List, [], ◌∷◌, ◌++◌, length, get_or, take, drop, replicate, sym, ap, ◌∙◌, subst, ⊎_elim, mul-le-mul_right, mod-lt, mul_comm, mul-le-mul_left, mul-one, mul-add, div-le_self, arith, length-drop, take-append-drop, take_all, drop-drop}
use native.Mathlib.Nat.{div-add-mod}
use Rattle.std.specs.List.{ContainsAt as Has, AllByRecursion}
use Rattle.std.proofs.ByRecursion.{All-more}
use Rattle.std.proofs.lemmas.Bool.{cases_Bool, cases_lt, or_parts, and_parts, not-false, leb-false, ltb-true, cond-true, cond-false}
use Rattle.device.specs.Disk.{Bytes, Disk, possibilities, settled, good}
use Rattle.device.specs.Plans.{Runs, one, spreading}
use Rattle.device.specs.Sectors.{only}
use Rattle.device.proofs.Uses.{over as run_over}
use Rattle.layout.specs.declared.chunk.ChunkSize.{ChunkSize}
use Rattle.layout.specs.declared.exception.Exception.{Exception}
use Rattle.layout.specs.Chunks.{sectors, per_area, area_chunk, area_start, is_data}
use Rattle.layout.specs.Entries.{nothing, pic, Fits}
use Rattle.store.specs.declared.shape.Shape.{Shape}
use Rattle.store.specs.Image.{Sizes, all_zero, cleaned}
use Rattle.store.specs.Judge.{width, on_data, damaged}
use Rattle.store.specs.Scanning.{Ending}
use Rattle.store.specs.Steps.{Contents, shape_of, finished, flushing, cleaning}
use Rattle.recovery.specs.Readings.{Image, image, area_bytes}
use Rattle.recovery.specs.Holding.{Sound}
use Rattle.recovery.specs.Standing.{ValidHeader, Standing, Stands}
use Rattle.recovery.specs.Breaks.{Sure, OpeningStands, LegibleStands}
use Rattle.recovery.proofs.Again.{End}
use Rattle.recovery.proofs.Calls.{Did, went, broke}
use Rattle.recovery.proofs.Cleans.{Parts, parts, known, Opened, unread, cleaned as ran_cleaning, opened}
use Rattle.recovery.proofs.Finds.{sectors_within}
use Rattle.recovery.proofs.Learns.{Learnt}
use Rattle.recovery.proofs.Opens.{good_finds}
use Rattle.recovery.proofs.Places.{not_header}
use Rattle.recovery.proofs.Sectors.{Small, zeros_are}
use Rattle.recovery.proofs.Settles.{before_end, from_end}
use Rattle.recovery.proofs.Sheets.{sector_of_area}
use Rattle.recovery.proofs.Zeros.{spread_elsewhere, spread_here, settled_single, flushed_good, then_good}

-- WHAT A GOOD CLEANING LEAVES

module _ (s : Shape) (x : Ending) (d e : Disk) where
  abbrev first : ℕ
  first = area_start (width s) x.area

  -- sectors below the one with the end entry read as before, and from there on as they were cleaned; each has what it reads alone
  record Cleaned : Type 0 where
    below : (t : ℕ) → t < first + x.place / 32 → image e t ≡ image d t
    above : (q : ℕ) → x.place / 32 ≤ q → q < width s → image e (first + q) ≡ take 512 (drop (512 * q) (cleaned x.bytes x.place))
    single : (t : ℕ) (b : Bytes) → Has (possibilities (e.cells t)) b → image e t ≡ b

  same_when_zero : all_zero (drop (16 * x.place) x.bytes) ≡ true → cleaned x.bytes x.place ≡ x.bytes
  same_when_zero z =
      let rest = zeros_are (drop (16 * x.place) x.bytes) z in
      ap (λ l. take (16 * x.place) x.bytes ++ l) (ap (λ n. replicate n 0) (sym (length-drop (16 * x.place) x.bytes)) ∙ sym rest) ∙ take-append-drop (16 * x.place) x.bytes

  cleans_well : Sure d → ((q : ℕ) → q < width s → length (image d (first + q)) ≡ 512) → x.bytes ≡ area_bytes s (image d) x.area → x.place < per_area (width s) → Runs one (cleaning (width s) x) d (good tt) e → Cleaned
  cleans_well sure long bytes inside r =
      ⊎_elim
      (λ z.
      let o : e ≡ d = (run_over (subst (λ p. Runs one p d (good tt) e) (cond-true (all_zero (drop (16 * x.place) x.bytes)) _ _ z) r)).1 in
      record {
        below = λ t l. ap (λ y. image y t) o;
        above = λ q l h.
            ap (λ y. image y (first + q)) o ∙ sym (sector_of_area s (image d) x.area long q h) ∙ ap (λ b. take 512 (drop (512 * q) b)) (sym bytes ∙ sym (same_when_zero z));
        single = λ t b has. only (subst (λ l. Has (l ++ (image e t ∷ [])) b) (ap (λ y. (y.cells t).older) o ∙ sure.single t) has);
      })
      (λ nz.
      let q₀ = x.place / 32 in
      let whole = cleaned x.bytes x.place in
      let g = then_good (spreading (first + q₀) (width s - q₀) (drop (512 * q₀) whole)) (λ _. flushing finished) (subst (λ p. Runs one p d (good tt) e) (cond-false (all_zero (drop (16 * x.place) x.bytes)) _ _ nz) r) in
      let mid = g.1 in
      let o : e ≡ settled mid = (run_over (flushed_good g.3)).1 in
      record {
        below = λ t l. ap (λ y. image y t) o ∙ spread_elsewhere _ _ _ g.2 t (λ i h is. omega arith);
        above = λ q l h.
            let at : first + q ≡ first + q₀ + (q - q₀) = omega arith in
            let from : 512 * q₀ + 512 * (q - q₀) ≡ 512 * q = omega arith in
            ap (λ y. image y (first + q)) o ∙ ap (image mid) at ∙ spread_here _ _ _ g.2 (q - q₀) (omega arith) ∙ ap (take 512) (drop-drop (512 * (q - q₀)) (512 * q₀) whole ∙ ap (λ k. drop k whole) from);
        single = λ t b has. settled_single mid t b o has;
      })
      (cases_Bool (all_zero (drop (16 * x.place) x.bytes)))

-- THE LIST

-- the numbers of a sound list are small
module _ (z : Sizes) (size : ChunkSize) (es : List Exception) (sound : Sound (shape_of z size) es) (low : z.origin < 2 ^ 32) (few : z.cow < 2 ^ 32) where
  fits_at : (i : ℕ) → i < length es → Fits (get_or es i nothing)
  fits_at i h =
      let s = shape_of z size in
      let e = per_area (sectors size) in
      let some = (sectors_within size).0 in
      let is : e * (i / e) + i % e ≡ i = div-add-mod i e in
      let x = get_or es i nothing in
      let whole : damaged s (i / e) (i % e) (take i es) x ≡ false = subst (λ n. damaged s (i / e) (i % e) (take n es) (get_or es n nothing) ≡ false) is (sound.whole (i / e) (i % e) (mod-lt i (omega arith)) (omega arith)) in
      let p = or_parts (leb s.olds x.old) _ whole in
      let on = not-false _ (or_parts (not (on_data s x.new)) _ p.1).0 in
      record {
        old = omega (arith, leb-false _ _ p.0, div-le_self z.origin (sectors size));
        new = omega (arith, ltb-true _ _ (and_parts (is_data (sectors size) x.new) _ on).1, div-le_self z.cow (sectors size));
      }

  fits_first : (i : ℕ) → i ≤ length es → AllByRecursion Fits (take i es)
  fits_first zero h = tt
  fits_first (suc i) h = subst (λ n. AllByRecursion Fits (take n es)) (let z : i + 1 ≡ suc i = omega arith in z) (All-more Fits es i nothing (omega arith) (fits_first i (omega arith)) (fits_at i (omega arith)))

  fits_all : AllByRecursion Fits es
  fits_all = subst (AllByRecursion Fits) (take_all (length es) es (omega arith)) (fits_first (length es) (omega arith))

-- THE LIST STANDS

module _ (z : Sizes) (size : ChunkSize) (es : List Exception) (x : Ending) (d e : Disk) (long : (b q : ℕ) → per_area (sectors size) * b ≤ length es → q < sectors size → length (image d (area_start (sectors size) b + q)) ≡ 512) (small : (b q : ℕ) → per_area (sectors size) * b ≤ length es → q < sectors size → Small (image d (area_start (sectors size) b + q))) (learnt : Learnt (shape_of z size) (image d) es) (count : length es ≡ per_area (sectors size) * x.area + x.place) (ends : End (shape_of z size) (image d) 0 x) (valid : ValidHeader size (image d 0)) (done : Cleaned (shape_of z size) x d e) where
  -- areas before the one with the end entry lie below it
  area_below : (a q : ℕ) → a < x.area → q < sectors size → area_start (sectors size) a + q < area_start (sectors size) x.area
  area_below a q h l =
      let c = sectors size in
      let chunks : (per_area c + 1) * (a + 1) ≤ (per_area c + 1) * x.area = mul-le-mul_left (per_area c + 1) (let up : a + 1 ≤ x.area = omega arith in up) in
      let next : area_chunk c a + 1 ≤ area_chunk c x.area = omega (arith, mul-add (per_area c + 1) a 1, mul-one (per_area c + 1)) in
      let starts : (area_chunk c a + 1) * c ≤ area_chunk c x.area * c = mul-le-mul_right c next in
      omega (arith, mul_comm (area_chunk c a + 1) c, mul-add c (area_chunk c a) 1, mul-one c, mul_comm c (area_chunk c a))

  unchanged : (a q : ℕ) → q < sectors size → per_area (sectors size) * a + 32 * q + 32 ≤ length es → area_start (sectors size) a + q < area_start (sectors size) x.area + x.place / 32 → image e (area_start (sectors size) a + q) ≡ pic es (sectors size * a + q)
  unchanged a q l h lt = done.below _ lt ∙ before_end (shape_of z size) (image d) es x.area x.place learnt count ends.inside long small a q l h

  last_area : (q : ℕ) → q < sectors size → image e (area_start (sectors size) x.area + q) ≡ pic es (sectors size * x.area + q)
  last_area q l =
      ⊎_elim
      (λ before. unchanged x.area q l (omega (arith, before)) (omega (arith, before)))
      (λ from.
      done.above q from l ∙ ap (λ b. take 512 (drop (512 * q) (cleaned b x.place))) ends.bytes ∙ from_end (shape_of z size) (image d) es x.area x.place learnt count ends.inside long small q l (omega (arith, from)))
      (cases_lt q (x.place / 32))

  in_area : (a q : ℕ) → q < sectors size → per_area (sectors size) * a ≤ length es → image e (area_start (sectors size) a + q) ≡ pic es (sectors size * a + q)
  in_area a q l le =
      ⊎_elim
      (λ before.
      let below = area_below a q before l in
      let areas : per_area (sectors size) * (a + 1) ≤ per_area (sectors size) * x.area = mul-le-mul_left (per_area (sectors size)) (let up : a + 1 ≤ x.area = omega (arith, before) in up) in
      unchanged a q l (omega (arith, mul-add (per_area (sectors size)) a 1, mul-one (per_area (sectors size)))) (omega arith))
      (λ from.
      ⊎_elim
      (λ past.
      let areas : per_area (sectors size) * (x.area + 1) ≤ per_area (sectors size) * a = mul-le-mul_left (per_area (sectors size)) (let up : x.area + 1 ≤ a = omega (arith, past) in up) in
      absurd (omega (arith, ends.inside, mul-add (per_area (sectors size)) x.area 1, mul-one (per_area (sectors size)))))
      (λ same. let is : x.area ≡ a = omega (arith, from, same) in subst (λ b. image e (area_start (sectors size) b + q) ≡ pic es (sectors size * b + q)) is (last_area q l))
      (cases_lt x.area a))
      (cases_lt a x.area)

  stand_at : (t : ℕ) → Standing (shape_of z size) es t (image e t)
  stand_at t = record {
    head = λ is.
        let above : t < area_start (sectors size) x.area + x.place / 32 =
        ⊎_elim (λ h. h) (λ none. absurd (not_header (sectors size) x.area (x.place / 32) (omega (arith, ends.inside)) (omega (arith, none)))) (cases_lt t (area_start (sectors size) x.area + x.place / 32)) in
        subst (ValidHeader size) (ap (image d) (sym is) ∙ sym (done.below t above)) valid;
    areas = λ a q l le at. ap (image e) at ∙ in_area a q l le;
  }

pub legible_stands : LegibleStands
legible_stands z size es d e low few same sure small r =
    let p = parts z size es (image d) (good_finds z d e _ r) in
    by p (opened z size p.ending d p.head p.scan _ e r)
  where
    m : Image
    m = image d

    ready : (p : Parts z size es m) → Did {A = Contents} (cleaning (sectors size) p.ending) (record { size = size; table = p.ending.table }) (good (record { size = size; table = es })) d e → Stands z size es e
    ready p (broke f run is) = cc
    ready p (went run is) =
        let s = shape_of z size in
        let x = p.ending in
        let k = known z size es d same p in
        let long : (b q : ℕ) → per_area (sectors size) * b ≤ length es → q < sectors size → length (image d (area_start (sectors size) b + q)) ≡ 512 = λ b q h l. sure.long _ (k.on b q h l) in
        let narrow : (b q : ℕ) → per_area (sectors size) * b ≤ length es → q < sectors size → Small (image d (area_start (sectors size) b + q)) = λ b q h l. small b q l h in
        let done = cleans_well s x d e sure (λ q l. long x.area q (omega (arith, k.count)) l) k.ends.bytes k.ends.inside run in
        record {
          listed = record { shape = k.header.shape; sound = k.learnt.sound; fits = fits_all z size es k.learnt.sound low few };
          single = λ b has. done.single 0 b has;
          sectors = λ t b has. subst (Standing s es t) (done.single t b has) (stand_at z size es x d e long narrow k.learnt k.count k.ends k.header.valid done t);
        }

    by : (p : Parts z size es m) → Opened z size p.ending (good (record { size = size; table = es })) d e → Stands z size es e
    by p (unread f is same) = cc
    by p (ran_cleaning h) = ready p h

pub opening_stands : OpeningStands
opening_stands z size es d e low few same sure small r =
    let k = known z size es d same (parts z size es (image d) (good_finds z d e _ r)) in
    legible_stands z size es d e low few same sure (λ a q l h. small _ (k.on a q h l)) r
