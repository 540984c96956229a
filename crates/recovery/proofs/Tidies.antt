-- What cleaning writes keeps the entries up to the end entry.
use Rattle.std.proofs.Common.{◌≡◌, ℕ, ◌+◌, ◌-◌, ◌*◌, ◌/◌, ◌%◌, ◌<◌, ◌≤◌, ◌++◌, length, take, drop, replicate, sym, refl, ap, ◌∙◌, subst₂, arith, length-append, length-drop, take-take, drop-drop}
use lib.ListN.{length-replicate}
use lib.Seq.{take-append-le}
use Rattle.std.specs.List.{between}
use Rattle.std.proofs.lemmas.List.{length-take-le}
use Rattle.std.proofs.lemmas.Slice.{between_is}
use Rattle.device.specs.Disk.{Bytes}
use Rattle.layout.specs.Chunks.{area_start}
use Rattle.layout.specs.Entries.{entry_from}
use Rattle.layout.proofs.Back.{entry_past}
use Rattle.store.specs.declared.shape.Shape.{Shape}
use Rattle.store.specs.Image.{cleaned}
use Rattle.store.specs.Judge.{width}
use Rattle.store.specs.Scanning.{Ending}
use Rattle.store.specs.Steps.{cleaning}
use Rattle.recovery.specs.Readings.{Image}
use Rattle.recovery.proofs.Allowed.{Writes, cleaning_writes}
use Rattle.recovery.proofs.Again.{Keeps, End}
use Rattle.recovery.proofs.Gathered.{part, entry_by, part_entry}
use Rattle.recovery.proofs.Places.{same_sector, same_area, not_header}
use Rattle.recovery.proofs.Sheets.{length_area, entry_of_area, entry_in_area}

-- the bytes before a place, with others after them
front_between : (l zs : Bytes) (n i j : ℕ) → j ≤ n → n ≤ length l → between i j (take n l ++ zs) ≡ between i j l
front_between l zs n i j le few =
    let size : length (take n l) ≡ n = length-take-le n l few in
    between_is (take n l ++ zs) i j ∙ ap (drop i) (take-append-le j (take n l) zs (omega arith) ∙ take-take j n l le) ∙ sym (between_is l i j)

kept_entry : (l : Bytes) (p i : ℕ) → i + 16 ≤ 16 * p → 16 * p ≤ length l → entry_from (cleaned l p) i ≡ entry_from l i
kept_entry l p i le few = entry_by (cleaned l p) l i i (front_between l _ (16 * p) i (i + 8) (omega arith) few) (front_between l _ (16 * p) (i + 8) (i + 8 + 8) (omega arith) few)

end_entry : (l : Bytes) (p : ℕ) → 16 * p + 16 ≤ length l → (entry_from (cleaned l p) (16 * p)).new ≡ 0
end_entry l p few = ap (λ e. e.new) (entry_past (take (16 * p) l) (16 * p) (length l - 16 * p) (length-take-le (16 * p) l (omega arith)) (omega arith))

pub length_cleaned : (l : Bytes) (p : ℕ) → 16 * p ≤ length l → length (cleaned l p) ≡ length l
length_cleaned l p few =
    let size = length-take-le (16 * p) l few in
    length-append (take (16 * p) l) (replicate (length l - 16 * p) 0) ∙ ap (λ n. length (take (16 * p) l) + n) (length-replicate (length l - 16 * p) 0) ∙ omega arith

module _ (s : Shape) (m : Image) (x : Ending) where
  -- what a sector may be while an area is cleaned: as it was outside that area; in it, with the same entries up to the end entry
  pub record Tidy (at : ℕ) (b : Bytes) : Type 0 where
    pub head : at ≡ 0 → b ≡ m 0
    pub before : (a q : ℕ) → a < x.area → q < width s → at ≡ area_start (width s) a + q → b ≡ m (area_start (width s) a + q)
    pub long : (q : ℕ) → q < width s → at ≡ area_start (width s) x.area + q → length b ≡ 512
    pub entries : (q r : ℕ) → q < width s → r < 32 → at ≡ area_start (width s) x.area + q → 32 * q + r < x.place → entry_from b (16 * r) ≡ entry_from (m (area_start (width s) x.area + q)) (16 * r)
    pub end : (q r : ℕ) → q < width s → r < 32 → at ≡ area_start (width s) x.area + q → 32 * q + r ≡ x.place → (entry_from b (16 * r)).new ≡ 0

  module _ (ends : End s m 0 x) (long : (q : ℕ) → q < width s → length (m (area_start (width s) x.area + q)) ≡ 512) where
    abbrev start : ℕ
    start = area_start (width s) x.area

    -- as they are, the sectors are tidy
    pub tidy_before : (at : ℕ) → Tidy at (m at)
    tidy_before at = record {
      head = λ e. ap m e;
      before = λ a q h l e. ap m e;
      long = λ q l e. ap (λ t. length (m t)) e ∙ long q l;
      entries = λ q r l few e h. ap (λ t. entry_from (m t) (16 * r)) e;
      end = λ q r l few e h.
          let sector : q ≡ x.place / 32 = omega arith in
          let place : r ≡ x.place % 32 = omega arith in
          ap (λ t. (entry_from (m t) (16 * r)).new) e
          ∙ (λ i. (entry_from (m (start + sector i)) (16 * place i)).new)
          ∙ ap (λ e. e.new) (sym (entry_in_area s m x.area long x.place ends.inside))
          ∙ ends.ends;
    }

    -- tidy sectors keep the list
    pub tidy_keeps : (m' : Image) → ((at : ℕ) → Tidy at (m' at)) → Keeps s m m' x
    tidy_keeps m' all =
        let long' : (q : ℕ) → q < width s → length (m' (start + q)) ≡ 512 = λ q l. (all _).long q l refl in
        let inside = ends.inside in
        record {
          before = λ a q h l. (all _).before a q h l refl;
          entries = λ k l.
              entry_in_area s m' x.area long' k (omega arith)
              ∙ (all _).entries (k / 32) (k % 32) (omega arith) (omega arith) refl (omega arith)
              ∙ sym (entry_in_area s m x.area long k (omega arith));
          end = ap (λ e. e.new) (entry_in_area s m' x.area long' x.place inside) ∙ (all _).end (x.place / 32) (x.place % 32) (omega arith) (omega arith) refl (omega arith);
        }

    size : length x.bytes ≡ 512 * width s
    size = ap length ends.bytes ∙ length_area s m x.area long

    abbrev clean : Bytes
    clean = cleaned x.bytes x.place

    piece_long : (q : ℕ) → q < width s → length (take 512 (drop (512 * q) clean)) ≡ 512
    piece_long q l =
        let whole = length_cleaned x.bytes x.place (omega (arith, size, ends.inside)) in
        let rest = length-drop (512 * q) clean in
        length-take-le 512 (drop (512 * q) clean) (omega (arith, size))

    -- a sector of the cleaned area is tidy
    piece_tidy : (q : ℕ) → q < width s → Tidy (start + q) (take 512 (drop (512 * q) clean))
    piece_tidy q l = record {
      head = λ e. absurd (not_header (width s) x.area q l e);
      before = λ a q' h l' e. absurd (let same = same_area (width s) x.area q a q' l l' e in omega arith);
      long = λ q' l' e. piece_long q l;
      entries = λ q' r l' few e h.
          let same : q ≡ q' = same_sector (width s) x.area q x.area q' l l' e in
          part_entry clean (512 * q) (16 * r) (omega arith)
          ∙ kept_entry x.bytes x.place (512 * q + 16 * r) (omega arith) (omega (arith, size, ends.inside))
          ∙ ap (λ b. entry_from b (512 * q + 16 * r)) ends.bytes
          ∙ entry_of_area s m x.area long q (16 * r) l (omega arith)
          ∙ ap (λ n. entry_from (m (start + n)) (16 * r)) same;
      end = λ q' r l' few e h.
          let same : q ≡ q' = same_sector (width s) x.area q x.area q' l l' e in
          let at : 512 * q + 16 * r ≡ 16 * x.place = omega arith in
          ap (λ e. e.new) (part_entry clean (512 * q) (16 * r) (omega arith) ∙ ap (entry_from clean) at) ∙ end_entry x.bytes x.place (omega (arith, size, ends.inside));
    }

    pub cleaning_tidies : Writes Tidy (cleaning (width s) x)
    cleaning_tidies = cleaning_writes Tidy (width s) x each
      where
        each : (i : ℕ) → i < width s - x.place / 32 → Tidy (start + x.place / 32 + i) (part (drop (512 * (x.place / 32)) clean) i)
        each i l =
            let q = x.place / 32 in
            let at : start + (q + i) ≡ start + q + i = omega arith in
            let from : 512 * (q + i) ≡ 512 * q + 512 * i = omega arith in
            subst₂ Tidy at (ap (take 512) (ap (λ k. drop k clean) from ∙ sym (drop-drop (512 * i) (512 * q) clean))) (piece_tidy (q + i) (omega arith))
