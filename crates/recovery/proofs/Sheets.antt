-- Sectors that are written as pictures hold the exceptions.
use Rattle.std.proofs.Common.{◌≡◌, ℕ, ◌+◌, ◌-◌, ◌*◌, ◌/◌, ◌%◌, ◌<◌, ◌≤◌, leb, List, length, get_or, take, drop, sym, ap, ◌∙◌, mul_assoc, arith, length-append, length-drop, length-take}
use lib.ListN.{length-replicate}
use Rattle.std.specs.List.{flat_map}
use Rattle.std.proofs.lemmas.Bool.{cond-true, le-leb}
use Rattle.layout.specs.declared.exception.Exception.{Exception}
use Rattle.layout.specs.Chunks.{per_area, area_start}
use Rattle.layout.specs.Entries.{nothing, entry, entry_from, nth_entry, pic}
use Rattle.layout.proofs.Made.{length_entries}
use Rattle.layout.proofs.Back.{read_back}
use Rattle.store.specs.declared.shape.Shape.{Shape}
use Rattle.store.specs.Judge.{width}
use Rattle.recovery.specs.Readings.{Image, area_bytes}
use Rattle.recovery.specs.Holding.{PicturesHold}
use Rattle.recovery.proofs.Gathered.{part, length_gathered, part_gathered, part_entry}

pub length_pic : (es : List Exception) (j : ℕ) → length (pic es j) ≡ 512
length_pic es j =
    let part = take 32 (drop (32 * j) es) in
    let size = length_entries part in
    let few = length-take 32 (drop (32 * j) es) in
    length-append (flat_map entry part) _ ∙ ap (λ n. length (flat_map entry part) + n) (length-replicate (512 - length (flat_map entry part)) 0) ∙ omega arith

module _ (s : Shape) (m : Image) (a : ℕ) (long : (q : ℕ) → q < width s → length (m (area_start (width s) a + q)) ≡ 512) where
  pub length_area : length (area_bytes s m a) ≡ 512 * width s
  length_area = length_gathered m (width s) (area_start (width s) a) long

  -- a sector of an area's bytes
  pub sector_of_area : (q : ℕ) → q < width s → part (area_bytes s m a) q ≡ m (area_start (width s) a + q)
  sector_of_area q l = part_gathered m (width s) (area_start (width s) a) q long l

  -- an entry of an area's bytes is one of its sector's
  pub entry_of_area : (q r : ℕ) → q < width s → r + 16 ≤ 512 → entry_from (area_bytes s m a) (512 * q + r) ≡ entry_from (m (area_start (width s) a + q)) r
  entry_of_area q r l few = sym (part_entry (area_bytes s m a) (512 * q) r few) ∙ ap (λ b. entry_from b r) (sector_of_area q l)

  -- the same by its number
  pub entry_in_area : (k : ℕ) → k < per_area (width s) → nth_entry (area_bytes s m a) k ≡ entry_from (m (area_start (width s) a + k / 32)) (16 * (k % 32))
  entry_in_area k inside =
      let size = length_area in
      let place : 16 * k ≡ 512 * (k / 32) + 16 * (k % 32) = omega arith in
      cond-true (leb (16 * k + 16) (length (area_bytes s m a))) _ _ (le-leb _ _ (omega arith)) ∙ ap (entry_from (area_bytes s m a)) place ∙ entry_of_area (k / 32) (16 * (k % 32)) (omega arith) (omega arith)

pub pictures_hold : PicturesHold
pictures_hold s m es fit p = record { entries = entries; end = end }
  where
    flat : (a : ℕ) → per_area (width s) * a ≡ 32 * (width s * a)
    flat a = mul_assoc 32 (width s) a

    in_picture : (a k : ℕ) → k < per_area (width s) → per_area (width s) * a ≤ length es → nth_entry (area_bytes s m a) k ≡ entry_from (pic es (width s * a + k / 32)) (16 * (k % 32))
    in_picture a k inside here =
        entry_in_area s m a (λ q l. ap length (p.sectors a q l here) ∙ length_pic es (width s * a + q)) k inside ∙ ap (λ l. entry_from l (16 * (k % 32))) (p.sectors a (k / 32) (omega arith) here)

    entries : (a k : ℕ) → k < per_area (width s) → per_area (width s) * a + k < length es → nth_entry (area_bytes s m a) k ≡ get_or es (per_area (width s) * a + k) nothing
    entries a k inside l =
        let j = width s * a + k / 32 in
        let f = flat a in
        let lt : k % 32 < length (take 32 (drop (32 * j) es)) = simp (length-take, length-drop) (omega arith) in
        let at : 32 * j + k % 32 ≡ per_area (width s) * a + k = omega arith in
        in_picture a k inside (omega arith) ∙ read_back.here es j (k % 32) nothing fit lt ∙ ap (λ i. get_or es i nothing) at

    end : (a k : ℕ) → k < per_area (width s) → per_area (width s) * a + k ≡ length es → (nth_entry (area_bytes s m a) k).new ≡ 0
    end a k inside is =
        let j = width s * a + k / 32 in
        let f = flat a in
        let ge : length (take 32 (drop (32 * j) es)) ≤ k % 32 = simp (length-take, length-drop) (omega arith) in
        ap (λ e. e.new) (in_picture a k inside (omega arith) ∙ read_back.past es j (k % 32) ge (omega arith))
