-- A merge step that came part of the way: of the last r diverged chunks, its run, the last j have left.
use Rattle.std.proofs.Common.{◌≡◌, ℕ, zero, suc, ◌+◌, ◌-◌, ◌<◌, ◌≤◌, Bool, true, false, ◌||◌, ◌⊎◌, List, [], ◌∷◌, length, take, drop, Some, sym, refl, ap, ◌∙◌, subst, inl, inr, ⊎_elim, arith}
use Rattle.std.specs.List.{ContainsAt as Has}
use Rattle.std.proofs.ByRecursion.{has_push, has_append_left, has_append_right}
use Rattle.std.proofs.lemmas.List.{drop-drop, drop_all}
use Rattle.std.proofs.lemmas.Bool.{both_ways, cases_Bool, or_cases, or_parts, or_from, cond-true, cond-false, cond_both}
use Rattle.device.specs.Disk.{Bytes, Cell, Disk, possibilities}
use Rattle.device.specs.Plans.{Disks}
use Rattle.layout.specs.declared.exception.Exception.{Exception}
use Rattle.layout.specs.Chunks.{sectors, per_area, in_copy}
use Rattle.exceptions.specs.Table.{lookup, linked, reach, last_run}
use Rattle.recovery.specs.Readings.{Image, image, found}
use Rattle.recovery.specs.Standing.{Listed, Stands, Lies}
use Rattle.recovery.proofs.Prefixes.{listed_take}
use Rattle.history.specs.Steps.{sizes, both_on, Memory, serving}
use Rattle.history.specs.Machine.{Plain, settled_cell, perhaps, has_chunk, chunk_of, diverged_at, table_of, run_length, merged_partly, reads_at, Agrees}
use Rattle.history.proofs.Ends.{Up}
use Rattle.history.proofs.Invariant.{Wholes, Chosen, Covers, image_chosen}
use Rattle.history.proofs.Placing.{length_placed, placed_take, has_chunk_parts, has_chunk_apart}
use Rattle.history.proofs.Spots.{no_copy, a_copy, copy_diverged, reads_origin, reads_copy}
use Rattle.history.proofs.Standings.{stands_lists}
use Rattle.history.proofs.Tables.{lookup_take}

-- THE RUN

reach_within : (c : ℕ) (es : List Exception) (n : ℕ) → reach c es n ≤ n
reach_within c es zero = omega arith
reach_within c es (suc n) = cond_both (linked c es n) (suc (reach c es n)) 0 (λ k. k ≤ suc n) (λ _. let h = reach_within c es n in omega arith) (λ _. omega arith)

run_within : (c : ℕ) (es : List Exception) → last_run c es ≤ length es
run_within c [] = omega arith
run_within c (x ∷ xs) = let h = reach_within c (x ∷ xs) (length xs) in omega arith

-- as many exceptions as diverged chunks
pub table_length : (p : Plain) → length (table_of p) ≡ length p.diverged
table_length p = length_placed (per_area (sectors p.chunk)) 0 p.diverged

-- a run is no longer than the list
pub run_few : (p : Plain) → run_length p ≤ length p.diverged
run_few p = let h = run_within (sectors p.chunk) (table_of p) in let same = table_length p in omega arith

-- whether the chunk of a sector is one of the last r that diverged
abbrev pub among_last : Plain → ℕ → ℕ → Bool
among_last p r s = has_chunk (drop (length p.diverged - r) p.diverged) (chunk_of p s)

-- none is one of the last 0
pub none_last : (p : Plain) (s : ℕ) → among_last p 0 s ≡ false
none_last p s = ap (λ l. has_chunk l (chunk_of p s)) (drop_all (length p.diverged - 0) p.diverged (omega arith))

-- SECTORS

-- what a sector of the origin may then hold: what it may have held, unless its chunk has left; in the run, what the view reads
abbrev pub Back : Plain → ℕ → ℕ → ℕ → Bytes → Type 0
Back p r j s b = ((among_last p j s ≡ false) × Has (possibilities (p.origin s)) b) ⊎ ((among_last p r s ≡ true) × ((p.view s).latest ≡ b))

module _ (p : Plain) (r j : ℕ) (part : j ≤ r) (few : r ≤ length p.diverged) (s : ℕ) where
  -- a chunk of the run that has not left
  abbrev stays : Bool
  stays = has_chunk (take (r - j) (drop (length p.diverged - r) p.diverged)) (chunk_of p s)

  -- a chunk of the run stays or has left
  run_parts : among_last p r s ≡ (stays || among_last p j s)
  run_parts =
      let n = length p.diverged in
      let past : drop (r - j) (drop (n - r) p.diverged) ≡ drop (n - j) p.diverged = drop-drop (r - j) (n - r) p.diverged ∙ ap (λ i. drop i p.diverged) (let z : (n - r) + (r - j) ≡ n - j = omega arith in z) in
      has_chunk_parts (r - j) (drop (n - r) p.diverged) (chunk_of p s) ∙ ap (λ l. stays || has_chunk l (chunk_of p s)) past

  -- what has left is in the run, and what is in the run has diverged
  pub left_in_run : among_last p r s ≡ false → among_last p j s ≡ false
  left_in_run out = (or_parts stays _ (sym run_parts ∙ out)).1

  pub run_diverged : diverged_at p s ≡ false → among_last p r s ≡ false
  run_diverged out = (or_parts _ _ (sym (has_chunk_parts (length p.diverged - r) p.diverged (chunk_of p s)) ∙ out)).1

  -- the origin's cell, by where the chunk stands
  abbrev partly : Cell
  partly = (merged_partly r j p).origin s

  left_cell : among_last p j s ≡ true → partly ≡ settled_cell (p.view s)
  left_cell g = cond-true (among_last p j s) _ _ g

  staying_cell : among_last p j s ≡ false → stays ≡ true → partly ≡ perhaps (p.view s).latest (p.origin s)
  staying_cell g h = cond-false (among_last p j s) _ _ g ∙ cond-true stays _ _ h

  other_cell : among_last p r s ≡ false → partly ≡ p.origin s
  other_cell out = let parts = or_parts stays _ (sym run_parts ∙ out) in cond-false (among_last p j s) _ _ parts.1 ∙ cond-false stays _ _ parts.0

  -- the possibilities of the origin
  partly_origin : (b : Bytes) → Back p r j s b → Has (possibilities partly) b
  partly_origin b (inl (g, has)) =
      let see = (p.view s).latest in
      subst (λ k. Has (possibilities k) b) (sym (cond-false (among_last p j s) _ _ g)) (cond_both stays _ _ (λ k. Has (possibilities k) b) (λ _. has_append_right (see ∷ []) (possibilities (p.origin s)) b has) (λ _. has))
  partly_origin b (inr (run, is)) =
      let see = (p.view s).latest in
      ⊎_elim
      (λ g. subst (λ k. Has (possibilities k) b) (sym (left_cell g)) (subst (Has (see ∷ [])) is (has_push [] see)))
      (λ g. ⊎_elim (λ h. subst (λ k. Has (possibilities k) b) (sym (staying_cell g h)) (subst (Has (see ∷ possibilities (p.origin s))) is (has_append_left (see ∷ []) (possibilities (p.origin s)) see (has_push [] see)))) (λ h. absurd (both_ways _ g h)) (or_cases stays _ (sym run_parts ∙ run)))
      (cases_Bool (among_last p j s))

  -- outside the diverged chunks that stay, origin and view are the same
  partly_shared : (diverged_at p s ≡ false → p.view s ≡ p.origin s) → diverged_at (merged_partly r j p) s ≡ false → (merged_partly r j p).view s ≡ partly
  partly_shared shared out =
      ⊎_elim
      (λ g. cond-true (among_last p j s) _ _ g ∙ sym (left_cell g))
      (λ g.
      let none : diverged_at p s ≡ false = has_chunk_parts (length p.diverged - j) p.diverged (chunk_of p s) ∙ or_from _ _ out g in
      cond-false (among_last p j s) _ _ g ∙ shared none ∙ sym (other_cell (run_diverged none)))
      (cases_Bool (among_last p j s))

-- the exceptions that stay
pub partly_table : (p : Plain) (r j : ℕ) → table_of (merged_partly r j p) ≡ take (length p.diverged - j) (table_of p)
partly_table p r j = placed_take (per_area (sectors p.chunk)) 0 (length p.diverged - j) p.diverged

-- the view reads as before
pub partly_view : (p : Plain) (r j s : ℕ) → ((merged_partly r j p).view s).latest ≡ (p.view s).latest
partly_view p r j s = cond_both (among_last p j s) (settled_cell (p.view s)) (p.view s) (λ k. k.latest ≡ (p.view s).latest) (λ _. refl) (λ _. refl)

-- the sectors of copies have no possibility that they had not
abbrev pub CopiesKept : Plain → Disk → Disk → Type 0
CopiesKept p w y = (s k : ℕ) (b : Bytes) → lookup (table_of p) (chunk_of p s) ≡ Some k → Has (possibilities (y.cells (in_copy (sectors p.chunk) k s))) b → Has (possibilities (w.cells (in_copy (sectors p.chunk) k s))) b

-- devices that came so far
pub record SoFar (p : Plain) (r j : ℕ) (d e : Disks) : Type 0 where
  pub sectors : sizes e ≡ p.size
  pub origin : (s : ℕ) (b : Bytes) → s < p.size.origin → Has (possibilities (e.origin.cells s)) b → Back p r j s b
  pub copies : CopiesKept p d.cow e.cow
  pub lists : (m : Image) → Chosen e.cow m → Lies p.size p.chunk (take (length p.diverged - j) (table_of p)) m

pub partly_covers : (p : Plain) (r j : ℕ) (d e : Disks) → j ≤ r → r ≤ length p.diverged → p.void ≡ false → Covers p d → SoFar p r j d e → Covers (merged_partly r j p) e
partly_covers p r j d e part few v c x = record {
  sectors = x.sectors;
  origin = λ s b l has. partly_origin p r j part few s b (x.origin s b l has);
  shared = λ _ s l out. partly_shared p r j part few s (c.shared v s l) out;
  valid = λ _. record {
    listed = subst (Listed p.size p.chunk) (sym (partly_table p r j)) (listed_take (table_of p) (length p.diverged - j) (let same = table_length p in omega arith) p.size p.chunk listed);
    lists = λ m ch. subst (λ es. Lies p.size p.chunk es m) (sym (partly_table p r j)) (x.lists m ch);
    copies = copies;
  };
  spoiled = λ z. absurd (both_ways _ v z);
}
  where
    listed : Listed p.size p.chunk (table_of p)
    listed = (c.valid v).listed

    copies : (s k : ℕ) (b : Bytes) → s < p.size.origin → lookup (table_of (merged_partly r j p)) (chunk_of p s) ≡ Some k → Has (possibilities (e.cow.cells (in_copy (sectors p.chunk) k s))) b → Has (possibilities ((merged_partly r j p).view s)) b
    copies s k b l is has =
        let there = lookup_take (table_of p) (length p.diverged - j) (chunk_of p s) k (ap (λ es. lookup es (chunk_of p s)) (sym (partly_table p r j)) ∙ is) in
        let here : among_last p j s ≡ false =
        ⊎_elim (λ g. absurd (both_ways _ (has_chunk_apart p.size p.chunk p.diverged listed (length p.diverged - j) (chunk_of p s) g) (copy_diverged (merged_partly r j p) s k is))) (λ g. g) (cases_Bool (among_last p j s)) in
        subst (λ y. Has (possibilities y) b) (sym (cond-false (among_last p j s) _ _ here)) ((c.valid v).copies s k b l there (x.copies s k b there has))

-- THE WHOLE RUN

-- devices that have merged a run
pub record WholeRun (p : Plain) (r : ℕ) (d e : Disks) : Type 0 where
  pub far : SoFar p r r d e
  pub on : both_on e ≡ true
  pub back : (s : ℕ) → s < p.size.origin → among_last p r s ≡ true → image e.origin s ≡ (p.view s).latest
  pub same : (s : ℕ) → s < p.size.origin → among_last p r s ≡ false → image e.origin s ≡ (p.origin s).latest
  pub reads : (s k : ℕ) → lookup (table_of p) (chunk_of p s) ≡ Some k → image e.cow (in_copy (sectors p.chunk) k s) ≡ image d.cow (in_copy (sectors p.chunk) k s)
  pub stands : Stands p.size p.chunk (take (length p.diverged - r) (table_of p)) e.cow

module _ (p : Plain) (r : ℕ) (d e : Disks) (few : r ≤ length p.diverged) (v : p.void ≡ false) (a : Agrees p d) (c : Covers p d) (x : WholeRun p r d e) where
  abbrev after : Plain
  after = merged_partly r r p

  origin_reads : (s : ℕ) → s < p.size.origin → image e.origin s ≡ (after.origin s).latest
  origin_reads s l =
      ⊎_elim
      (λ g. x.back s l g ∙ ap (λ k. k.latest) (sym (left_cell p r r (omega arith) few s g)))
      (λ g. x.same s l g ∙ ap (λ k. k.latest) (sym (other_cell p r r (omega arith) few s g)))
      (cases_Bool (among_last p r s))

  view_reads : (s : ℕ) → s < p.size.origin → reads_at e p.chunk (table_of after) s ≡ (after.view s).latest
  view_reads s l =
      ⊎_elim
      (λ div.
      let k = a_copy after s div in
      let there = lookup_take (table_of p) (length p.diverged - r) (chunk_of p s) k.0 (ap (λ es. lookup es (chunk_of p s)) (sym (partly_table p r r)) ∙ k.1) in
      reads_copy after s e k.0 k.1 ∙ x.reads s k.0 there ∙ sym (reads_copy p s d k.0 there) ∙ a.view v s l ∙ sym (partly_view p r r s))
      (λ out. reads_origin after s e (no_copy after s out) ∙ origin_reads s l ∙ ap (λ k. k.latest) (sym (partly_shared p r r (omega arith) few s (c.shared v s l) out)))
      (cases_Bool (diverged_at after s))

  pub partly_up : (m : Memory) → Wholes e → m ≡ serving p.chunk (take (length p.diverged - r) (table_of p)) → Up after m e
  partly_up m whole is = record {
    memory = is ∙ ap (serving p.chunk) (sym (partly_table p r r)) ∙ sym (cond-false p.void _ _ v);
    whole = whole;
    agrees = record {
      on = x.on;
      sectors = x.far.sectors;
      origin = origin_reads;
      opens = λ _. ap (λ z. found z (image e.cow)) x.far.sectors ∙ (stands_lists p.size p.chunk (table_of after) e.cow stands (image e.cow) (image_chosen e.cow)).finds;
      view = λ _. view_reads;
      spoiled = λ z. absurd (both_ways _ v z);
    };
    covers = partly_covers p r r d e (omega arith) few v c x.far;
    stands = λ _. stands;
  }
    where
      stands : Stands p.size p.chunk (table_of after) e.cow
      stands = subst (λ es. Stands p.size p.chunk es e.cow) (sym (partly_table p r r)) x.stands
