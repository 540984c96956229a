-- The diverged chunks with their places, as a list of exceptions.
use Rattle.std.proofs.Common.{◌≡◌, ℕ, zero, suc, ◌+◌, ◌≤◌, Bool, true, false, cond, ◌||◌, eqb, List, [], ◌∷◌, ◌++◌, length, take, drop, is_some, Some, None, sym, refl, ap, ◌∙◌, ap₂, arith}
use Rattle.std.proofs.lemmas.Bool.{eqb-true, eqb-false}
use Rattle.layout.specs.declared.chunk.ChunkSize.{ChunkSize}
use Rattle.layout.specs.declared.chunk.ChunkSize.TheVariants.{One, Two, Four, Eight, Sixteen}
use Rattle.layout.specs.Chunks.{sectors, per_area, is_area}
use Rattle.exceptions.specs.Table.{olds, lookup, has_old, largest, past_area, next_place, has_room, room}
use Rattle.store.specs.Image.{Sizes}
use Rattle.recovery.specs.Standing.{Listed}
use Rattle.recovery.specs.Breaks.{more}
use Rattle.history.specs.Machine.{has_chunk, place_of, placed}
use Rattle.history.proofs.Tables.{found_cons, found_append, found_parts, lookup_found, listed_apart}

-- as many as the chunks
pub length_placed : (e i : ℕ) (ks : List ℕ) → length (placed e i ks) ≡ length ks
length_placed e i [] = refl
length_placed e i (k ∷ ks) = ap suc (length_placed e (i + 1) ks)

-- one more chunk is one more exception
pub placed_more : (e i : ℕ) (ks : List ℕ) (k : ℕ) → placed e i (ks ++ (k ∷ [])) ≡ more (placed e i ks) (record { old = k; new = place_of e (i + length ks) })
placed_more e i [] k = ap (λ n. record { old = k; new = place_of e n } ∷ []) (let z : i ≡ i + 0 = omega arith in z)
placed_more e i (j ∷ ks) k = ap (◌∷◌ (record { old = j; new = place_of e i })) (placed_more e (i + 1) ks k ∙ ap (λ n. more (placed e (i + 1) ks) (record { old = k; new = place_of e n })) (let z : i + 1 + length ks ≡ i + suc (length ks) = omega arith in z))

-- the beginning
pub placed_take : (e i n : ℕ) (ks : List ℕ) → placed e i (take n ks) ≡ take n (placed e i ks)
placed_take e i zero ks = refl
placed_take e i (suc n) [] = refl
placed_take e i (suc n) (k ∷ ks) = ap (◌∷◌ (record { old = k; new = place_of e i })) (placed_take e (i + 1) n ks)

-- the end
pub placed_drop : (e i n : ℕ) (ks : List ℕ) → placed e (i + n) (drop n ks) ≡ drop n (placed e i ks)
placed_drop e i zero ks = ap (λ j. placed e j ks) (let z : i + 0 ≡ i = omega arith in z)
placed_drop e i (suc n) [] = refl
placed_drop e i (suc n) (k ∷ ks) = ap (λ j. placed e j (drop n ks)) (let z : i + suc n ≡ i + 1 + n = omega arith in z) ∙ placed_drop e (i + 1) n ks

-- WHICH CHUNKS

-- the chunks are the old chunks of the exceptions
pub has_chunk_old : (e i : ℕ) (ks : List ℕ) (k : ℕ) → has_chunk ks k ≡ has_old (placed e i ks) k
has_chunk_old e i [] k = refl
has_chunk_old e i (j ∷ ks) k = found_cons (λ n. n) k j ks ∙ ap (λ b. eqb j k || b) (has_chunk_old e (i + 1) ks k) ∙ sym (found_cons olds k (record { old = j; new = place_of e i }) (placed e (i + 1) ks))

-- they are those with a copy
pub has_chunk_lookup : (e i : ℕ) (ks : List ℕ) (k : ℕ) → has_chunk ks k ≡ is_some (lookup (placed e i ks) k)
has_chunk_lookup e i ks k = has_chunk_old e i ks k ∙ sym (lookup_found (placed e i ks) k)

-- one more chunk
pub has_chunk_more : (ks : List ℕ) (k j : ℕ) → has_chunk (ks ++ (k ∷ [])) j ≡ (has_chunk ks j || eqb k j)
has_chunk_more ks k j = found_append (λ n. n) j ks (k ∷ []) ∙ ap (λ b. has_chunk ks j || b) (found_cons (λ n. n) j k [] ∙ go (eqb k j))
  where
    go : (b : Bool) → (b || false) ≡ b
    go true = refl
    go false = refl

-- a chunk is in the beginning or in the end
pub has_chunk_parts : (i : ℕ) (ks : List ℕ) (k : ℕ) → has_chunk ks k ≡ (has_chunk (take i ks) k || has_chunk (drop i ks) k)
has_chunk_parts i ks k = found_parts (λ n. n) k i ks

-- no chunk is in both
pub has_chunk_apart : (z : Sizes) (size : ChunkSize) (ks : List ℕ) → Listed z size (placed (per_area (sectors size)) 0 ks) → (i k : ℕ) → has_chunk (drop i ks) k ≡ true → has_chunk (take i ks) k ≡ false
has_chunk_apart z size ks l i k h =
    let e = per_area (sectors size) in
    let es = placed e 0 ks in
    has_chunk_old e 0 (take i ks) k
    ∙ ap (λ t. has_old t k) (placed_take e 0 i ks)
    ∙ listed_apart z size es l i k (ap (λ t. has_old t k) (sym (placed_drop e 0 i ks)) ∙ sym (has_chunk_old e (0 + i) (drop i ks) k) ∙ h)

-- THE NEXT PLACE

-- places go up
places_up : (size : ChunkSize) (i n : ℕ) → place_of (per_area (sectors size)) i ≤ place_of (per_area (sectors size)) (i + n)
places_up One i n = omega arith
places_up Two i n = omega arith
places_up Four i n = omega arith
places_up Eight i n = omega arith
places_up Sixteen i n = omega arith

-- the largest is the last
largest_placed : (size : ChunkSize) (i k : ℕ) (ks : List ℕ) → largest (placed (per_area (sectors size)) i (k ∷ ks)) ≡ place_of (per_area (sectors size)) (i + length ks)
largest_placed size i k [] = let same = ap (place_of (per_area (sectors size))) (let z : i ≡ i + 0 = omega arith in z) in omega arith
largest_placed size i k (j ∷ ks) =
    let rest = largest_placed size (i + 1) j ks in
    let same = ap (place_of (per_area (sectors size))) (let z : i + 1 + length ks ≡ i + suc (length ks) = omega arith in z) in
    let up = places_up size i (suc (length ks)) in
    omega arith

-- the chunk past a place, and past an area behind it, is the next place
next_one : (size : ChunkSize) (n : ℕ) → past_area (sectors size) (place_of (per_area (sectors size)) n + 1) ≡ place_of (per_area (sectors size)) (suc n)
next_one size n = go size (is_area (sectors size) (place_of (per_area (sectors size)) n + 1)) refl
  where
    go : (size : ChunkSize) (b : Bool) → is_area (sectors size) (place_of (per_area (sectors size)) n + 1) ≡ b → cond b (place_of (per_area (sectors size)) n + 1 + 1) (place_of (per_area (sectors size)) n + 1) ≡ place_of (per_area (sectors size)) (suc n)
    go One true h = let is = eqb-true _ _ h in omega arith
    go One false h = let is = eqb-false _ _ h in omega arith
    go Two true h = let is = eqb-true _ _ h in omega arith
    go Two false h = let is = eqb-false _ _ h in omega arith
    go Four true h = let is = eqb-true _ _ h in omega arith
    go Four false h = let is = eqb-false _ _ h in omega arith
    go Eight true h = let is = eqb-true _ _ h in omega arith
    go Eight false h = let is = eqb-false _ _ h in omega arith
    go Sixteen true h = let is = eqb-true _ _ h in omega arith
    go Sixteen false h = let is = eqb-false _ _ h in omega arith

-- the next place is that of one more chunk
pub next_placed : (size : ChunkSize) (ks : List ℕ) → next_place (sectors size) (placed (per_area (sectors size)) 0 ks) ≡ place_of (per_area (sectors size)) (length ks)
next_placed size [] = none size
  where
    none : (size : ChunkSize) → 2 ≡ place_of (per_area (sectors size)) 0
    none One = refl
    none Two = refl
    none Four = refl
    none Eight = refl
    none Sixteen = refl
next_placed size (k ∷ ks) =
    ap (λ n. past_area (sectors size) (n + 1)) (largest_placed size 0 k ks ∙ ap (place_of (per_area (sectors size))) (let z : 0 + length ks ≡ length ks = omega arith in z))
    ∙ next_one size (length ks)

-- there is room as the machine has it
pub room_placed : (size : ChunkSize) (limit chunks : ℕ) (ks : List ℕ) → room limit (sectors size) chunks (placed (per_area (sectors size)) 0 ks) ≡ cond (has_room limit (sectors size) chunks (length ks) (place_of (per_area (sectors size)) (length ks))) (Some (place_of (per_area (sectors size)) (length ks))) None
room_placed size limit chunks ks = ap₂ (λ n p. cond (has_room limit (sectors size) chunks n p) (Some p) None) (length_placed _ 0 ks) (next_placed size ks)
