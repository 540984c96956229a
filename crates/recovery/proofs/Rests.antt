-- An opening where a list stands finds nothing to clean.
use Rattle.std.proofs.Common.{◌≡◌, ℕ, suc, ◌+◌, ◌-◌, ◌*◌, ◌/◌, ◌%◌, ◌<◌, ◌≤◌, true, eqb, List, [], ◌∷◌, length, get_or, take, drop, replicate, sym, refl, ap, ◌∙◌, subst, mul_assoc, arith, length-drop, length-take}
use Rattle.std.specs.List.{flat_map}
use Rattle.std.proofs.lemmas.List.{get_or-take, get_or-drop, get_or-append_right, get_or-replicate}
use Rattle.std.proofs.lemmas.Bool.{and_from, eq-eqb, cond-true}
use Rattle.device.specs.Disk.{Bytes, Told, Refusal}
use Rattle.device.specs.Plans.{Runs, one}
use Rattle.device.proofs.Possible.{last_has}
use Rattle.device.proofs.Uses.{over as run_over}
use Rattle.layout.specs.declared.exception.Exception.{Exception}
use Rattle.layout.specs.Chunks.{sectors, per_area, area_start}
use Rattle.layout.specs.Entries.{entry, pic}
use Rattle.layout.proofs.Made.{length_entries}
use Rattle.store.specs.declared.shape.Shape.{Shape}
use Rattle.store.specs.Image.{all_zero}
use Rattle.store.specs.Judge.{width}
use Rattle.store.specs.Scanning.{Ending, most_areas}
use Rattle.store.specs.Steps.{shape_of, cleaning}
use Rattle.recovery.specs.Readings.{Image, image, area_bytes}
use Rattle.recovery.specs.Standing.{Standing}
use Rattle.recovery.specs.Breaks.{OpeningStanding}
use Rattle.recovery.proofs.Again.{end_of}
use Rattle.recovery.proofs.Calls.{did_run}
use Rattle.recovery.proofs.Cleans.{Parts, parts, Opened, unread, cleaned, opened}
use Rattle.recovery.proofs.Learns.{learnt_none, scanned_fine}
use Rattle.recovery.proofs.Sheets.{length_pic, length_area, sector_of_area}
use Rattle.recovery.proofs.Stand.{standing_lies}

-- a picture has zeros after its entries
zero_past : (es : List Exception) (j r : ℕ) → 16 * length (take 32 (drop (32 * j) es)) ≤ r → r < 512 → get_or (pic es j) r 0 ≡ 0
zero_past es j r past inside =
    let part = take 32 (drop (32 * j) es) in
    let size = length_entries part in
    get_or-append_right (flat_map entry part) (replicate (512 - length (flat_map entry part)) 0) (16 * length part) r 0 size past ∙ get_or-replicate (512 - length (flat_map entry part)) (r - 16 * length part) 0 0 (omega arith)

zeros_from : (l : Bytes) → ((i : ℕ) → i < length l → get_or l i 0 ≡ 0) → all_zero l ≡ true
zeros_from [] h = refl
zeros_from (x ∷ xs) h = and_from (eqb x 0) (all_zero xs) (eq-eqb x 0 (h 0 (omega arith))) (zeros_from xs (λ i l. h (suc i) (omega arith)))

-- behind the end of a list its area has zeros
zero_end : (s : Shape) (m : Image) (es : List Exception) (a p : ℕ) → length es ≡ per_area (width s) * a + p → p < per_area (width s) → ((q : ℕ) → q < width s → m (area_start (width s) a + q) ≡ pic es (width s * a + q)) → all_zero (drop (16 * p) (area_bytes s m a)) ≡ true
zero_end s m es a p count inside pics = zeros_from (drop (16 * p) (area_bytes s m a)) at
  where
    long : (q : ℕ) → q < width s → length (m (area_start (width s) a + q)) ≡ 512
    long q l = ap length (pics q l) ∙ length_pic es (width s * a + q)

    at : (i : ℕ) → i < length (drop (16 * p) (area_bytes s m a)) → get_or (drop (16 * p) (area_bytes s m a)) i 0 ≡ 0
    at i h =
        let bytes = area_bytes s m a in
        let q = (16 * p + i) / 512 in
        let r = (16 * p + i) % 512 in
        let rest = length-drop (16 * p) bytes in
        let all = length_area s m a long in
        let flat = mul_assoc 32 (width s) a in
        let l : q < width s = omega arith in
        let few = length-take 32 (drop (32 * (width s * a + q)) es) in
        let left = length-drop (32 * (width s * a + q)) es in
        let place : 16 * p + i ≡ 512 * q + r = omega arith in
        get_or-drop (16 * p) bytes i 0
        ∙ ap (λ n. get_or bytes n 0) place
        ∙ sym (get_or-take 512 (drop (512 * q) bytes) r 0 (omega arith) ∙ get_or-drop (512 * q) bytes r 0)
        ∙ ap (λ b. get_or b r 0) (sector_of_area s m a long q l ∙ pics q l)
        ∙ zero_past es (width s * a + q) r (omega arith) (omega arith)

pub opening_standing : OpeningStanding
opening_standing z size es d e t stands r = by (opened z size x d p.head p.scan t e r)
  where
    s : Shape
    s = shape_of z size

    at : (k : ℕ) → Standing s es k (image d k)
    at k = stands.sectors k (image d k) (last_has (d.cells k))

    p : Parts z size es (image d)
    p = parts z size es (image d) (standing_lies z size es (image d) stands.listed at).finds

    x : Ending
    x = p.ending

    clean : all_zero (drop (16 * x.place) x.bytes) ≡ true
    clean =
        let fine = scanned_fine s (image d) x most_areas 0 [] (omega arith) (learnt_none s (image d)) p.scan in
        let count : length es ≡ per_area (sectors size) * x.area + x.place = ap length (sym p.list) ∙ fine.1 in
        let ends = end_of s (image d) most_areas 0 [] x p.scan in
        ap (λ b. all_zero (drop (16 * x.place) b)) ends.bytes ∙ zero_end s (image d) es x.area x.place count ends.inside (λ q l. (at _).areas x.area q l (omega arith) refl)

    rests : {u : Told Refusal (Unit {0})} → Runs one (cleaning (sectors size) x) d u e → e.cells ≡ d.cells
    rests {u} run = ap (λ y. y.cells) (run_over (subst (λ p. Runs one p d u e) (cond-true (all_zero (drop (16 * x.place) x.bytes)) _ _ clean) run)).1

    by : Opened z size x t d e → e.cells ≡ d.cells
    by (unread f is same) = same
    by (cleaned h) = rests (did_run h).1
