-- Lists of exceptions: what a lookup finds, after one more and in a part, and what an opening's tests say of each exception.
use Rattle.std.proofs.Common.{◌≡◌, ℕ, zero, suc, ◌+◌, ◌*◌, ◌/◌, ◌%◌, ◌<◌, ◌≤◌, Bool, true, false, cond, not, ◌||◌, eqb, leb, List, [], ◌∷◌, ◌++◌, length, get_or, take, drop, is_some, Some, None, Option, sym, refl, ap, ◌∙◌, subst, ⊎_elim, mod-lt, arith, length-drop}
use native.Mathlib.Nat.{div-add-mod}
use Rattle.std.proofs.lemmas.List.{take-append-drop, take-take, drop_more, get_or-drop, get_or-take, length-take-le}
use Rattle.std.proofs.lemmas.Bool.{both_ways, not-false, and_parts, or_parts, eq-eqb, ne_eqb, leb-false, ltb-true, cond-true, cond-false, cases_eq, cases_order}
use Rattle.layout.specs.declared.chunk.ChunkSize.{ChunkSize}
use Rattle.layout.specs.declared.exception.Exception.{Exception}
use Rattle.layout.specs.Chunks.{sectors, per_area, is_data}
use Rattle.layout.specs.Entries.{nothing}
use Rattle.exceptions.specs.Search.{first_from, first}
use Rattle.exceptions.specs.Table.{entries_at_most, olds, news, new_at, lookup, has_old, has_new, largest, room}
use Rattle.store.specs.Image.{Sizes}
use Rattle.store.specs.Judge.{on_data, damaged}
use Rattle.store.specs.Steps.{shape_of}
use Rattle.recovery.specs.Standing.{Listed}
use Rattle.recovery.specs.Breaks.{more}
use Rattle.recovery.proofs.Finds.{sectors_within}
use Rattle.recovery.proofs.Listing.{roomy, place_free}

-- FIRST MATCHES

-- one place further on
abbrev raised : Option ℕ → Option ℕ
raised None = None
raised (Some i) = Some (suc i)

module _ {X : Type 0} (key : X → ℕ) (k : ℕ) where
  -- counted from one more, the place is one more
  first_raised : (xs : List X) (i : ℕ) → first_from key k (suc i) xs ≡ raised (first_from key k i xs)
  first_raised [] i = refl
  first_raised (x ∷ xs) i = go (eqb (key x) k) (ap (λ j. first_from key k j xs) (let e : suc i + 1 ≡ suc (i + 1) = omega arith in e) ∙ first_raised xs (i + 1))
    where
      go : (b : Bool) → first_from key k (suc i + 1) xs ≡ raised (first_from key k (i + 1) xs) → cond b (Some (suc i)) (first_from key k (suc i + 1) xs) ≡ raised (cond b (Some i) (first_from key k (i + 1) xs))
      go true e = refl
      go false e = e

  -- the first match is the first record, or the rest's
  first_cons : (x : X) (xs : List X) → first key k (x ∷ xs) ≡ cond (eqb (key x) k) (Some 0) (raised (first key k xs))
  first_cons x xs = ap (cond (eqb (key x) k) (Some 0)) (ap (λ j. first_from key k j xs) (let e : 0 + 1 ≡ suc 0 = omega arith in e) ∙ first_raised xs 0)

  -- a match is the first record or in the rest
  pub found_cons : (x : X) (xs : List X) → is_some (first key k (x ∷ xs)) ≡ (eqb (key x) k || is_some (first key k xs))
  found_cons x xs = ap is_some (first_cons x xs) ∙ go (eqb (key x) k) (first key k xs)
    where
      go : (b : Bool) (o : Option ℕ) → is_some (cond b (Some 0) (raised o)) ≡ (b || is_some o)
      go true o = refl
      go false None = refl
      go false (Some i) = refl

  -- a match in two lists is in one of them
  pub found_append : (xs ys : List X) → is_some (first key k (xs ++ ys)) ≡ (is_some (first key k xs) || is_some (first key k ys))
  found_append [] ys = refl
  found_append (x ∷ xs) ys = found_cons x (xs ++ ys) ∙ ap (λ b. eqb (key x) k || b) (found_append xs ys) ∙ go (eqb (key x) k) ∙ ap (λ b. b || is_some (first key k ys)) (sym (found_cons x xs))
    where
      go : (b : Bool) → (b || (is_some (first key k xs) || is_some (first key k ys))) ≡ ((b || is_some (first key k xs)) || is_some (first key k ys))
      go true = refl
      go false = refl

  -- a match is in the beginning or in the end
  pub found_parts : (i : ℕ) (xs : List X) → is_some (first key k xs) ≡ (is_some (first key k (take i xs)) || is_some (first key k (drop i xs)))
  found_parts i xs = ap (λ l. is_some (first key k l)) (sym (take-append-drop i xs)) ∙ found_append (take i xs) (drop i xs)

  -- a record with the key is a match
  pub found_at : (xs : List X) (i : ℕ) (d : X) → i < length xs → key (get_or xs i d) ≡ k → is_some (first key k xs) ≡ true
  found_at [] i d h is = absurd (omega arith)
  found_at (x ∷ xs) zero d h is = found_cons x xs ∙ ap (λ b. b || is_some (first key k xs)) (eq-eqb _ _ is)
  found_at (x ∷ xs) (suc i) d h is = found_cons x xs ∙ go (eqb (key x) k) (found_at xs i d (omega arith) is)
    where
      go : (b : Bool) → is_some (first key k xs) ≡ true → (b || is_some (first key k xs)) ≡ true
      go true e = refl
      go false e = e

-- LOOKUP

-- the copy is the first exception's, or the rest has it
pub lookup_cons : (x : Exception) (xs : List Exception) (k : ℕ) → lookup (x ∷ xs) k ≡ cond (eqb x.old k) (Some x.new) (lookup xs k)
lookup_cons x xs k = ap (new_at (x ∷ xs)) (first_cons olds k x xs) ∙ go (eqb x.old k) (first olds k xs)
  where
    go : (b : Bool) (o : Option ℕ) → new_at (x ∷ xs) (cond b (Some 0) (raised o)) ≡ cond b (Some x.new) (new_at xs o)
    go true o = refl
    go false None = refl
    go false (Some i) = refl

-- a copy of the first exception's old chunk
lookup_here : (x : Exception) (xs : List Exception) (k : ℕ) → x.old ≡ k → lookup (x ∷ xs) k ≡ Some x.new
lookup_here x xs k is = lookup_cons x xs k ∙ cond-true _ _ _ (eq-eqb _ _ is)

-- a copy of another
lookup_later : (x : Exception) (xs : List Exception) (k : ℕ) → (x.old ≡ k → ⊥) → lookup (x ∷ xs) k ≡ lookup xs k
lookup_later x xs k ne = lookup_cons x xs k ∙ cond-false _ _ _ (ne_eqb _ _ ne)

-- a copy is found exactly where the old chunk stands in the table
pub lookup_found : (es : List Exception) (k : ℕ) → is_some (lookup es k) ≡ has_old es k
lookup_found es k = go (first olds k es)
  where
    go : (o : Option ℕ) → is_some (new_at es o) ≡ is_some o
    go None = refl
    go (Some i) = refl

-- an old chunk that the table lacks has no copy
pub lookup_none : (es : List Exception) (k : ℕ) → has_old es k ≡ false → lookup es k ≡ None
lookup_none es k = go (first olds k es)
  where
    go : (o : Option ℕ) → is_some o ≡ false → new_at es o ≡ None
    go None e = refl
    go (Some i) e = absurd (both_ways _ e refl)

-- one with a copy stands in the table
pub lookup_has : (es : List Exception) (k p : ℕ) → lookup es k ≡ Some p → has_old es k ≡ true
lookup_has es k p is = sym (lookup_found es k) ∙ ap is_some is

-- one that stands in the table has a copy
pub lookup_known : (es : List Exception) (k : ℕ) → has_old es k ≡ true → (p : ℕ) × (lookup es k ≡ Some p)
lookup_known es k = go (first olds k es)
  where
    go : (o : Option ℕ) → is_some o ≡ true → (p : ℕ) × (new_at es o ≡ Some p)
    go None e = absurd (both_ways _ refl e)
    go (Some i) e = (_, refl)

-- where the first list lacks an old chunk, the second decides
pub lookup_past : (xs ys : List Exception) (k : ℕ) → has_old xs k ≡ false → lookup (xs ++ ys) k ≡ lookup ys k
lookup_past [] ys k h = refl
lookup_past (x ∷ xs) ys k h =
    let parts = or_parts (eqb x.old k) _ (sym (found_cons olds k x xs) ∙ h) in
    lookup_cons x (xs ++ ys) k ∙ cond-false _ _ _ parts.0 ∙ lookup_past xs ys k parts.1

-- a copy that the first list has stays
pub lookup_front : (xs ys : List Exception) (k p : ℕ) → lookup xs k ≡ Some p → lookup (xs ++ ys) k ≡ Some p
lookup_front [] ys k p is = cc
lookup_front (x ∷ xs) ys k p is =
    ⊎_elim
    (λ e. lookup_here x (xs ++ ys) k e ∙ sym (lookup_here x xs k e) ∙ is)
    (λ ne. lookup_later x (xs ++ ys) k ne ∙ lookup_front xs ys k p (sym (lookup_later x xs k ne) ∙ is))
    (cases_eq x.old k)

-- a new exception's copy is found
pub lookup_more_same : (es : List Exception) (k p : ℕ) → has_old es k ≡ false → lookup (more es (record { old = k; new = p })) k ≡ Some p
lookup_more_same es k p absent = lookup_past es _ k absent ∙ lookup_here (record { old = k; new = p }) [] k refl

-- the other lookups stay
pub lookup_more_other : (es : List Exception) (k p j : ℕ) → (j ≡ k → ⊥) → lookup (more es (record { old = k; new = p })) j ≡ lookup es j
lookup_more_other [] k p j ne = lookup_later (record { old = k; new = p }) [] j (λ e. ne (sym e))
lookup_more_other (x ∷ xs) k p j ne = lookup_cons x _ j ∙ ap (cond (eqb x.old j) (Some x.new)) (lookup_more_other xs k p j ne) ∙ sym (lookup_cons x xs j)

-- a copy of the beginning is one of the whole
pub lookup_take : (es : List Exception) (i k p : ℕ) → lookup (take i es) k ≡ Some p → lookup es k ≡ Some p
lookup_take es i k p is = ap (λ l. lookup l k) (sym (take-append-drop i es)) ∙ lookup_front (take i es) (drop i es) k p is

-- what is found stands at a place
pub lookup_at : (es : List Exception) (k p : ℕ) → lookup es k ≡ Some p → (i : ℕ) × (i < length es) × (get_or es i nothing ≡ record { old = k; new = p })
lookup_at [] k p is = cc
lookup_at (x ∷ xs) k p is =
    ⊎_elim
    (λ e. let same : x.new ≡ p = (let f = lookup_here x xs k e in cc) in (0, omega arith, λ j. record { old = e j; new = same j }))
    (λ ne. let r = lookup_at xs k p (sym (lookup_later x xs k ne) ∙ is) in (suc r.0, omega (arith, r.1), r.2))
    (cases_eq x.old k)

-- WHAT AN OPENING'S TESTS SAY

-- exception i, after those before it
pub record Tested (z : Sizes) (size : ChunkSize) (es : List Exception) (i : ℕ) : Type 0 where
  pub on_origin : (get_or es i nothing).old < z.origin / sectors size
  pub for_data : is_data (sectors size) (get_or es i nothing).new ≡ true
  pub on_cow : (get_or es i nothing).new < z.cow / sectors size
  pub new_old : has_old (take i es) (get_or es i nothing).old ≡ false
  pub new_new : has_new (take i es) (get_or es i nothing).new ≡ false

module _ (z : Sizes) (size : ChunkSize) (es : List Exception) (l : Listed z size es) where
  -- each exception passed the tests
  pub tested : (i : ℕ) → i < length es → Tested z size es i
  tested i h =
      let s = shape_of z size in
      let e = per_area (sectors size) in
      let x = get_or es i nothing in
      let some = (sectors_within size).0 in
      let at : e * (i / e) + i % e ≡ i = div-add-mod i e in
      let whole = subst (λ n. damaged s (i / e) (i % e) (take n es) (get_or es n nothing) ≡ false) at (l.sound.whole (i / e) (i % e) (mod-lt i (omega arith)) (omega arith)) in
      let a = or_parts (leb s.olds x.old) _ whole in
      let b = or_parts (not (on_data s x.new)) _ a.1 in
      let c = or_parts (has_old (take i es) x.old) _ b.1 in
      let d = or_parts (has_new (take i es) x.new) _ c.1 in
      let on = and_parts (is_data (sectors size) x.new) _ (not-false _ b.0) in
      record { on_origin = leb-false _ _ a.0; for_data = on.0; on_cow = ltb-true _ _ on.1; new_old = c.0; new_new = d.0 }

  -- each exception has its chunks on the devices
  pub listed_at : (i : ℕ) → i < length es → ((get_or es i nothing).old < z.origin / sectors size) × (is_data (sectors size) (get_or es i nothing).new ≡ true) × ((get_or es i nothing).new < z.cow / sectors size)
  listed_at i h = let t = tested i h in (t.on_origin, t.for_data, t.on_cow)

  -- what is found has its chunks on the devices
  pub listed_lookup : (k p : ℕ) → lookup es k ≡ Some p → (k < z.origin / sectors size) × (is_data (sectors size) p ≡ true) × (p < z.cow / sectors size)
  listed_lookup k p is =
      let r = lookup_at es k p is in
      subst (λ x. (x.old < z.origin / sectors size) × (is_data (sectors size) x.new ≡ true) × (x.new < z.cow / sectors size)) r.2 (listed_at r.0 r.1)

  -- each exception is found
  pub item_lookup : (i : ℕ) → i < length es → lookup es (get_or es i nothing).old ≡ Some (get_or es i nothing).new
  item_lookup i h =
      let x = get_or es i nothing in
      ap (λ t. lookup t x.old) (sym (take-append-drop i es))
      ∙ lookup_past (take i es) (drop i es) x.old (tested i h).new_old
      ∙ ap (λ t. lookup t x.old) (drop_more es i nothing h)
      ∙ lookup_here x (drop (i + 1) es) x.old refl

  -- no new chunk stands twice
  new_once : (i j : ℕ) → i < j → j < length es → (get_or es i nothing).new ≡ (get_or es j nothing).new → ⊥
  new_once i j lt h is =
      let size_of : length (take j es) ≡ j = length-take-le j es (omega arith) in
      both_ways _ (tested j h).new_new (found_at news _ (take j es) i nothing (omega arith) (ap news (get_or-take j es i nothing lt) ∙ is))

  -- two old chunks have no copy in common
  pub lookup_injective : (k k' p : ℕ) → lookup es k ≡ Some p → lookup es k' ≡ Some p → k ≡ k'
  lookup_injective k k' p is is' =
      let r = lookup_at es k p is in
      let r' = lookup_at es k' p is' in
      let same : (get_or es r.0 nothing).new ≡ (get_or es r'.0 nothing).new = ap news r.2 ∙ sym (ap news r'.2) in
      ⊎_elim
      (λ e. sym (ap olds r.2) ∙ ap (λ i. (get_or es i nothing).old) e ∙ ap olds r'.2)
      (⊎_elim (λ lt. absurd (new_once r.0 r'.0 lt r'.1 same)) (λ gt. absurd (new_once r'.0 r.0 gt r.1 (sym same))))
      (cases_order r.0 r'.0)

  -- an old chunk of the end does not stand in the beginning
  pub listed_apart : (i k : ℕ) → has_old (drop i es) k ≡ true → has_old (take i es) k ≡ false
  listed_apart i k h =
      let p = lookup_known (drop i es) k h in
      let r = lookup_at (drop i es) k p.0 p.1 in
      let at : (get_or es (i + r.0) nothing).old ≡ k = ap olds (sym (get_or-drop i es r.0 nothing) ∙ r.2) in
      let long = length-drop i es in
      let before : has_old (take (i + r.0) es) k ≡ false = subst (λ n. has_old (take (i + r.0) es) n ≡ false) at (tested (i + r.0) (omega (arith, r.1))).new_old in
      ap (λ t. has_old t k) (sym (take-take i (i + r.0) es (omega arith))) ∙ (or_parts _ _ (sym (found_parts olds k i (take (i + r.0) es)) ∙ before)).0

-- THE NEXT PLACE

-- no new chunk is above the largest
below_largest : (es : List Exception) (k p : ℕ) → lookup es k ≡ Some p → p ≤ largest es
below_largest [] k p is = cc
below_largest (x ∷ xs) k p is =
    ⊎_elim
    (λ e. let same : x.new ≡ p = (let f = lookup_here x xs k e in cc) in omega arith)
    (λ ne. omega (arith, below_largest xs k p (sym (lookup_later x xs k ne) ∙ is)))
    (cases_eq x.old k)

-- where there is room, the place is for data, on the device, and free
pub room_free : (z : Sizes) (size : ChunkSize) (es : List Exception) → Listed z size es → (p : ℕ) → room entries_at_most (sectors size) (z.cow / sectors size) es ≡ Some p → (is_data (sectors size) p ≡ true) × (p < z.cow / sectors size) × ((k : ℕ) → lookup es k ≡ Some p → ⊥)
room_free z size es l p is =
    let r = roomy (sectors size) (z.cow / sectors size) es p is in
    let free = place_free (shape_of z size) es l.sound in
    (subst (λ q. is_data (sectors size) q ≡ true) r.same free.0, r.place, λ k found. omega (arith, below_largest es k p found, free.1, r.same))
