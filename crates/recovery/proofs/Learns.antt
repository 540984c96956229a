-- What a scan finds is sound, and the sectors hold it.
use Rattle.std.proofs.Common.{◌≡◌, ℕ, zero, suc, ◌+◌, ◌-◌, ◌*◌, ◌/◌, ◌%◌, ◌<◌, ◌≤◌, true, false, not, ◌&&◌, eqb, leb, List, [], length, get_or, take, sym, refl, ap, ◌∙◌, subst, ap₂, ⊎_elim, mul-le-mul_right, mul_comm, mul-one, mul-add, arith}
use native.Mathlib.Nat.{div-add-mod}
use lib.Arith.{digits_div, digits_mod}
use Rattle.std.proofs.lemmas.List.{get_or_append_left, get_or_push}
use Rattle.std.proofs.lemmas.Bool.{cases_Bool, cases_lt, and_parts, or_parts, eq-eqb, eqb-false, leb-true, leb-false, cond-true, cond-false}
use Rattle.device.specs.Disk.{good}
use Rattle.layout.specs.declared.exception.Exception.{Exception}
use Rattle.layout.specs.declared.chunk.ChunkSize.{ChunkSize}
use Rattle.layout.specs.Chunks.{sectors, per_area, area_chunk, area_start}
use Rattle.layout.specs.Entries.{nothing, nth_entry}
use Rattle.exceptions.specs.Table.{entries_at_most, has_old, has_new}
use Rattle.store.specs.declared.shape.Shape.{Shape}
use Rattle.store.specs.Image.{Sizes, well_shaped}
use Rattle.store.specs.Judge.{width, on_data, damaged}
use Rattle.store.specs.Scanning.{Parsed, full, over, many, wrong, parsed, Ending, concluded}
use Rattle.store.specs.Steps.{shape_of}
use Rattle.recovery.specs.Breaks.{more}
use Rattle.recovery.specs.Holding.{Sound}
use Rattle.recovery.specs.Readings.{Image, area_bytes, scanned}
use Rattle.recovery.proofs.Finds.{sectors_within, sound_none}
use Rattle.recovery.proofs.Listing.{sound_push}
use Rattle.recovery.proofs.Pictures.{length_more}

module _ (s : Shape) (m : Image) where
  -- a list that is sound, and as the entries have it
  pub record Learnt (l : List Exception) : Type 0 where
    pub sound : Sound s l
    pub entries : (a k : ℕ) → k < per_area (width s) → per_area (width s) * a + k < length l → nth_entry (area_bytes s m a) k ≡ get_or l (per_area (width s) * a + k) nothing

  pub learnt_none : Learnt []
  learnt_none = record {
    sound = sound_none s;
    entries = λ a k inside h. absurd (omega arith);
  }

  -- a place by its area and its number there
  module _ (a k a' k' : ℕ) (h : k < per_area (width s)) (h' : k' < per_area (width s)) (is : per_area (width s) * a + k ≡ per_area (width s) * a' + k') where
    turned : a * per_area (width s) + k ≡ a' * per_area (width s) + k'
    turned = omega (arith, mul_comm a (per_area (width s)), mul_comm a' (per_area (width s)))

    area_same : a ≡ a'
    area_same = sym (digits_div a h) ∙ ap (λ n. n / per_area (width s)) turned ∙ digits_div a' h'

    place_same : k ≡ k'
    place_same = sym (digits_mod a h) ∙ ap (λ n. n % per_area (width s)) turned ∙ digits_mod a' h'

  -- one more entry
  module _ (a k : ℕ) (l : List Exception) (x : Exception) (here : nth_entry (area_bytes s m a) k ≡ x) (inside : k < per_area (width s)) (size : length l ≡ per_area (width s) * a + k) (h : Learnt l) (some : x.new ≡ 0 → ⊥) (few : length l < entries_at_most) (whole : damaged s a k l x ≡ false) where
    sound_one : Sound s (more l x)
    sound_one = sound_push s l x h.sound some few (λ a' k' inside' is. let at = is ∙ size in ap₂ (λ b j. damaged s b j l x) (area_same a' k' a k inside' inside at) (place_same a' k' a k inside' inside at) ∙ whole)

    learn_one : Learnt (more l x)
    learn_one = record {
      sound = sound_one;
      entries = λ a' k' inside' lt.
          let longer = length_more l x in
          let i = per_area (width s) * a' + k' in
          ⊎_elim
          (λ low. h.entries a' k' inside' low ∙ sym (get_or_append_left l _ nothing i low))
          (λ high.
          let is : i ≡ per_area (width s) * a + k = omega (arith, high) in
          ap₂ (λ b j. nth_entry (area_bytes s m b) j) (area_same a' k' a k inside' inside is) (place_same a' k' a k inside' inside is) ∙ here ∙ sym (get_or_push l x nothing i (omega (arith, high))))
          (cases_lt i (length l));
    }

  -- what the entries of area a come to
  abbrev pub Fine : ℕ → Parsed → Type 0
  Fine a (full l) = Learnt l × (length l ≡ per_area (width s) * a + per_area (width s))
  Fine a (over l p) = Learnt l × (length l ≡ per_area (width s) * a + p)
  Fine a many = Unit {0}
  Fine a (wrong k) = Unit {0}

  pub parsed_fine : (a n k : ℕ) (l : List Exception) → n + k ≡ per_area (width s) → length l ≡ per_area (width s) * a + k → Learnt l → Fine a (parsed s a (area_bytes s m a) n k l)
  parsed_fine a zero k l sum size h = (h, omega arith)
  parsed_fine a (suc n) k l sum size h =
      let x = nth_entry (area_bytes s m a) k in
      ⊎_elim
      (λ z. subst (Fine a) (sym (cond-true (eqb x.new 0) _ _ z)) (h, size))
      (λ nz.
      subst (Fine a) (sym (cond-false (eqb x.new 0) _ _ nz))
      (⊎_elim
      (λ b. subst (Fine a) (sym (cond-true (leb entries_at_most (length l)) _ _ b)) tt)
      (λ few.
      subst (Fine a) (sym (cond-false (leb entries_at_most (length l)) _ _ few))
      (⊎_elim
      (λ b. subst (Fine a) (sym (cond-true (damaged s a k l x) _ _ b)) tt)
      (λ fine.
      let longer = length_more l x in
      subst (Fine a) (sym (cond-false (damaged s a k l x) _ _ fine))
      (parsed_fine a n (k + 1) (more l x) (omega arith) (omega arith) (learn_one a k l x refl (omega arith) size h (eqb-false _ _ nz) (leb-false _ _ few) fine)))
      (cases_Bool (damaged s a k l x))))
      (cases_Bool (leb entries_at_most (length l)))))
      (cases_Bool (eqb x.new 0))

  -- what a scan finds
  pub scanned_fine : (x : Ending) (n a : ℕ) (l : List Exception) → length l ≡ per_area (width s) * a → Learnt l → scanned s m n a l ≡ good x → Learnt x.table × (length x.table ≡ per_area (width s) * x.area + x.place)
  unfolding scanned
  scanned_fine x zero a l size h is = cc
  scanned_fine x (suc n) a l size h is =
      by (λ l' size' h' is'. scanned_fine x n (a + 1) l' size' h' is') (parsed s a (area_bytes s m a) (per_area (width s)) 0 l) (parsed_fine a (per_area (width s)) 0 l (omega arith) (omega arith) h) is
    where
      Answer : Type 0
      Answer = Learnt x.table × (length x.table ≡ per_area (width s) * x.area + x.place)

      by : ((l' : List Exception) → length l' ≡ per_area (width s) * (a + 1) → Learnt l' → scanned s m n (a + 1) l' ≡ good x → Answer) → (p : Parsed) → Fine a p → concluded (λ t. t) a (area_bytes s m a) p (scanned s m n (a + 1)) ≡ good x → Answer
      by on (full l') f g = on l' (f.1 ∙ omega (arith, mul-add (per_area (width s)) a 1, mul-one (per_area (width s)))) f.0 g
      by on (over l' k) f g =
          let area : a ≡ x.area = cc in
          let place : k ≡ x.place = cc in
          let list : l' ≡ x.table = cc in
          subst (λ t. Learnt t × (length t ≡ per_area (width s) * x.area + x.place)) list (f.0, f.1 ∙ ap₂ (λ b j. per_area (width s) * b + j) area place)
      by on many f g = cc
      by on (wrong k) f g = cc

-- the areas that a sound list reaches are on the device
module _ (z : Sizes) (size : ChunkSize) (es : List Exception) (shape : well_shaped z (sectors size) ≡ true) (sound : Sound (shape_of z size) es) where
  area_on : (a : ℕ) → per_area (sectors size) * a ≤ length es → area_chunk (sectors size) a < z.cow / sectors size
  area_on zero h = let three = leb-true 3 (z.cow / sectors size) (and_parts (eqb (z.origin % sectors size) 0) _ shape).1 in omega arith
  area_on (suc a) h =
      let e = per_area (sectors size) in
      let some = (sectors_within size).0 in
      let flat : e * suc a ≡ e * a + e = (let up : suc a ≡ a + 1 = omega arith in ap (λ n. e * n) up) ∙ mul-add e a 1 ∙ ap (λ n. e * a + n) (mul-one e) in
      let x = get_or es (e * a + (e - 1)) nothing in
      let before = take (e * a + (e - 1)) es in
      let s = shape_of z size in
      let whole = sound.whole a (e - 1) (omega arith) (omega arith) in
      let rest = (or_parts (has_new before x.new) _ (or_parts (has_old before x.old) _ (or_parts (not (on_data s x.new)) _ (or_parts (leb s.olds x.old) _ whole).1).1).1).1 in
      let last : eqb (e - 1 + 1) e ≡ true = eq-eqb _ _ (omega arith) in
      let up : a + 1 ≡ suc a = omega arith in
      subst (λ n. area_chunk (sectors size) n < z.cow / sectors size) up (leb-false _ _ (sym (ap (λ t. t && leb s.chunks (area_chunk (sectors size) (a + 1))) last) ∙ rest))

  -- and so are their sectors
  pub area_sector_on : (a q : ℕ) → per_area (sectors size) * a ≤ length es → q < sectors size → area_start (sectors size) a + q < z.cow
  area_sector_on a q h l =
      let c = sectors size in
      let chunks : (area_chunk c a + 1) * c ≤ (z.cow / c) * c = mul-le-mul_right c (let up : area_chunk c a + 1 ≤ z.cow / c = omega (arith, area_on a h) in up) in
      omega (arith, mul_comm (area_chunk c a + 1) c, mul-add c (area_chunk c a) 1, mul-one c, mul_comm c (area_chunk c a), mul_comm (z.cow / c) c, div-add-mod z.cow c)
