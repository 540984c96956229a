-- What entering adds to a list, an opening takes.
use Rattle.std.proofs.Common.{◌≡◌, ℕ, ◌+◌, ◌*◌, ◌/◌, ◌%◌, ◌^◌, ◌<◌, ◌≤◌, Bool, true, false, cond, not, ◌&&◌, eqb, ltb, leb, List, [], ◌∷◌, length, get_or, take, is_some, Some, None, sym, refl, ap, ◌∙◌, subst, ap₂, ⊎_elim, mod-eq_of_lt, mul_comm, div-le_self, arith, ltb-true, lt-ltb, eq-eqb, ne_eqb, eqb-true, le-leb, leb-true}
use native.Mathlib.Nat.{div-add-mod}
use lib.Arith.{digits_div, digits_mod}
use borrow.Author.Tests.{eqb-false, lt-leb, not-true, not-false}
use Rattle.std.proofs.lemmas.Bool.{and_parts, and_from, and_left, and_right, or_parts, or_from, not_from_true, not_from_false, cond-false, cases_eq, cases_lt}
use Rattle.std.proofs.ByRecursion.{All-push}
use Rattle.std.proofs.lemmas.List.{get_or_append_left, get_or_push, take_at, take-append-le}
use Rattle.layout.specs.declared.exception.Exception.{Exception}
use Rattle.layout.specs.Chunks.{sectors, per_area, area_chunk, is_area, is_data}
use Rattle.layout.specs.Entries.{nothing, Fits}
use Rattle.exceptions.specs.Search.{first_from}
use Rattle.exceptions.specs.Table.{entries_at_most, news, has_old, has_new, largest, next_place, fills_area, has_room, room}
use Rattle.store.specs.declared.shape.Shape.{Shape}
use Rattle.store.specs.Judge.{width, on_data, stranded, damaged}
use Rattle.store.specs.Steps.{shape_of}
use Rattle.recovery.specs.Holding.{Sound}
use Rattle.recovery.specs.Breaks.{more, EnteringListed}
use Rattle.recovery.proofs.Finds.{sectors_within}
use Rattle.recovery.proofs.Pictures.{length_more}

-- one more exception
pub sound_push : (s : Shape) (l : List Exception) (x : Exception) → Sound s l → (x.new ≡ 0 → ⊥) → length l < entries_at_most → ((a k : ℕ) → k < per_area (width s) → per_area (width s) * a + k ≡ length l → damaged s a k l x ≡ false) → Sound s (more l x)
sound_push s l x ok some few whole = record {
  few = let longer = length_more l x in omega arith;
  some = λ i lt z.
      let longer = length_more l x in
      ⊎_elim
      (λ low. ok.some i low (ap (λ y. y.new) (sym (get_or_append_left l _ nothing i low)) ∙ z))
      (λ high. some (ap (λ y. y.new) (sym (get_or_push l x nothing i (omega (arith, high)))) ∙ z))
      (cases_lt i (length l));
  whole = λ a k inside lt.
      let longer = length_more l x in
      let i = per_area (width s) * a + k in
      ⊎_elim
      (λ low. ap₂ (damaged s a k) (take-append-le i l _ (omega (arith, low))) (get_or_append_left l _ nothing i low) ∙ ok.whole a k inside low)
      (λ high.
      let is : i ≡ length l = omega (arith, high) in
      ap₂ (damaged s a k) (take_at l _ i (sym is)) (get_or_push l x nothing i (sym is)) ∙ whole a k inside is)
      (cases_lt i (length l));
}

-- no new chunk above the largest is taken
pub none_above : (es : List Exception) (p i : ℕ) → largest es < p → first_from news p i es ≡ None
none_above [] p i h = refl
none_above (x ∷ xs) p i h = cond-false (eqb x.new p) _ _ (ne_eqb _ _ (omega arith)) ∙ none_above xs p (i + 1) (omega arith)

-- the next place is past every copy
past_largest : (c : ℕ) (es : List Exception) → largest es < next_place c es
past_largest c [] = omega arith
past_largest c (x ∷ xs) = go (is_area c (largest (x ∷ xs) + 1))
  where
    go : (b : Bool) → largest (x ∷ xs) < cond b (largest (x ∷ xs) + 1 + 1) (largest (x ∷ xs) + 1)
    go true = omega arith
    go false = omega arith

-- and it is no area
no_area : (c : ℕ) (es : List Exception) → 0 < c → is_area c (next_place c es) ≡ false
no_area c [] some = ne_eqb _ _ (λ e. let low : 2 % (per_area c + 1) ≡ 2 = mod-eq_of_lt (omega arith) in omega arith)
no_area c (x ∷ xs) some = go (is_area c (largest (x ∷ xs) + 1)) refl
  where
    after : (k : ℕ) → k % (per_area c + 1) ≡ 1 → (k + 1) % (per_area c + 1) ≡ 2
    after k is =
        let whole = div-add-mod k (per_area c + 1) in
        ap (λ n. n % (per_area c + 1)) (let z : k + 1 ≡ (k / (per_area c + 1)) * (per_area c + 1) + 2 = omega (arith, mul_comm (per_area c + 1) (k / (per_area c + 1))) in z) ∙ digits_mod (k / (per_area c + 1)) (omega arith)

    go : (b : Bool) → is_area c (largest (x ∷ xs) + 1) ≡ b → is_area c (cond b (largest (x ∷ xs) + 1 + 1) (largest (x ∷ xs) + 1)) ≡ false
    go true is = ne_eqb _ _ (λ one. let two = after (largest (x ∷ xs) + 1) (eqb-true _ _ is) in omega arith)
    go false is = is

-- copies stand in data chunks, from 2 on
first_data : (s : Shape) (x : Exception) (xs : List Exception) → Sound s (x ∷ xs) → 2 ≤ x.new
first_data s x xs ok =
    let some = (sectors_within s.size).0 in
    let start : per_area (width s) * 0 + 0 ≡ 0 = omega arith in
    let whole : damaged s 0 0 [] x ≡ false = subst (λ i. damaged s 0 0 (take i (x ∷ xs)) (get_or (x ∷ xs) i nothing) ≡ false) start (ok.whole 0 0 (omega arith) (omega arith)) in
    let a = (or_parts (leb s.olds x.old) _ whole).1 in
    let b = (or_parts (not (on_data s x.new)) _ a).0 in
    let c = (and_parts (is_data (width s) x.new) _ (not-false _ b)).0 in
    leb-true _ _ (and_parts (leb 2 x.new) _ c).0

from_two : (s : Shape) (es : List Exception) → Sound s es → 2 ≤ next_place (width s) es
from_two s [] ok = omega arith
from_two s (x ∷ xs) ok = let low = first_data s x xs ok in let past = past_largest (width s) (x ∷ xs) in omega arith

-- the next place is for data, past every copy
pub place_free : (s : Shape) (es : List Exception) → Sound s es → (is_data (width s) (next_place (width s) es) ≡ true) × (largest es < next_place (width s) es)
place_free s es ok = (and_from (leb 2 (next_place (width s) es)) _ (le-leb 2 _ (from_two s es ok)) (not_from_false _ (no_area (width s) es (sectors_within s.size).0)), past_largest (width s) es)

-- what room says
pub record Roomy (c chunks : ℕ) (es : List Exception) (p : ℕ) : Type 0 where
  pub same : next_place c es ≡ p
  pub place : p < chunks
  pub next_area : (fills_area c (length es) && not (ltb (area_chunk c (length es / per_area c + 1)) chunks)) ≡ false
  pub few : length es ≡ entries_at_most → ⊥

pub roomy : (c chunks : ℕ) (es : List Exception) (p : ℕ) → room entries_at_most c chunks es ≡ Some p → Roomy c chunks es p
roomy c chunks es p is = go (has_room entries_at_most c chunks (length es) (next_place c es)) refl is
  where
    go : (b : Bool) → has_room entries_at_most c chunks (length es) (next_place c es) ≡ b → cond b (Some (next_place c es)) None ≡ Some p → Roomy c chunks es p
    go true h e =
        let same : next_place c es ≡ p = cc in
        let parts = and_parts (ltb (next_place c es) chunks) _ h in
        let rest = and_parts (not (fills_area c (length es) && not (ltb (area_chunk c (length es / per_area c + 1)) chunks))) (not (eqb (length es) entries_at_most)) parts.1 in
        record { same = same; place = subst (λ q. q < chunks) same (ltb-true _ _ parts.0); next_area = not-true _ rest.0; few = eqb-false _ _ (not-true _ rest.1) }
    go false h e = cc

-- an entry that fills its area has the next area on the device
pub next_on : {c chunks : ℕ} {es : List Exception} {p : ℕ} → Roomy c chunks es p → fills_area c (length es) ≡ true → area_chunk c (length es / per_area c + 1) < chunks
next_on {c} {chunks} {es} r fills = ltb-true _ _ (not-false _ (sym (ap (λ b. b && not (ltb (area_chunk c (length es / per_area c + 1)) chunks)) fills) ∙ r.next_area))

module _ (s : Shape) (es : List Exception) (old p : ℕ) (ok : Sound s es) (absent : has_old es old ≡ false) (here : old < s.olds) (r : Roomy (width s) s.chunks es p) where
  -- an entry that fills its area has a next one
  not_stranded : (a k : ℕ) → k < per_area (width s) → per_area (width s) * a + k ≡ length es → stranded s a k ≡ false
  not_stranded a k inside is =
      ⊎_elim
      (λ last.
      let e = per_area (width s) in
      let flat : a * e + k ≡ length es = ap (λ n. n + k) (mul_comm a e) ∙ is in
      let area : length es / e ≡ a = ap (λ n. n / e) (sym flat) ∙ digits_div a inside in
      let rest : length es % e ≡ k = ap (λ n. n % e) (sym flat) ∙ digits_mod a inside in
      let fills : fills_area (width s) (length es) ≡ true = eq-eqb _ _ (omega arith) in
      and_right _ _ (lt-leb _ _ (subst (λ n. area_chunk (width s) (n + 1) < s.chunks) area (next_on r fills))))
      (λ ne. and_left _ _ (ne_eqb _ _ ne))
      (cases_eq (k + 1) (per_area (width s)))

  new_sound : (a k : ℕ) → k < per_area (width s) → per_area (width s) * a + k ≡ length es → damaged s a k es (record { old = old; new = p }) ≡ false
  new_sound a k inside is =
      let free = place_free s es ok in
      let holds_data : is_data (width s) p ≡ true = subst (λ q. is_data (width s) q ≡ true) r.same free.0 in
      let above : largest es < p = subst (λ q. largest es < q) r.same free.1 in
      or_from (leb s.olds old) _ (lt-leb _ _ here)
      (or_from (not (on_data s p)) _ (not_from_true _ (and_from _ _ holds_data (lt-ltb _ _ r.place)))
      (or_from (has_old es old) _ absent (or_from (has_new es p) _ (ap is_some (none_above es p 0 above)) (not_stranded a k inside is))))

  -- the longer list
  abbrev longer : List Exception
  longer = more es (record { old = old; new = p })

  sound_more : length es ≤ entries_at_most → Sound s longer
  sound_more bound = sound_push s es _ ok (λ z. let low = from_two s es ok in omega (arith, r.same)) (omega (arith, r.few)) new_sound

pub entering_listed : EnteringListed
entering_listed z size es old p low_origin low_cow l absent here is =
    let s = shape_of z size in
    let r = roomy (sectors size) (z.cow / sectors size) es p is in
    let small_old : old < 256 ^ 8 = omega (arith, div-le_self z.origin (sectors size)) in
    let small_new : p < 256 ^ 8 = omega (arith, r.place, div-le_self z.cow (sectors size)) in
    record { shape = l.shape; sound = sound_more s es old p l.sound absent here r l.sound.few; fits = All-push Fits es _ l.fits (record { old = small_old; new = small_new }) }
