-- A chunk copied to the next place and entered: the machine's chunk diverges.
use Rattle.std.proofs.Common.{◌≡◌, ℕ, ◌+◌, ◌*◌, ◌/◌, ◌%◌, ◌<◌, true, false, [], ◌∷◌, ◌++◌, length, List, Some, None, Option, sym, refl, ap, ◌∙◌, subst, ap₂, inl, inr, ⊎_elim, div-lt_iff_lt-mul, div-add-mod', arith}
use lib.Arith.{digits_div}
use Rattle.std.specs.List.{ContainsAt as Has}
use Rattle.std.proofs.lemmas.Bool.{cases_Bool, cases_eq, and_from, or_parts, cond-true, cond-false, true≢false}
use Rattle.device.specs.Disk.{Bytes, Disk, possibilities, Told}
use Rattle.device.specs.Plans.{cow, Disks, with_side}
use Rattle.device.proofs.Possible.{last_has}
use Rattle.layout.specs.declared.chunk.ChunkSize.{ChunkSize}
use Rattle.layout.specs.declared.exception.Exception.{Exception}
use Rattle.layout.specs.Chunks.{sectors, per_area, is_data, in_copy}
use Rattle.exceptions.specs.Table.{entries_at_most, lookup, room}
use Rattle.recovery.specs.Breaks.{more}
use Rattle.recovery.specs.Readings.{Image, image, found}
use Rattle.recovery.specs.Standing.{Within, Listed, Stands, Lies}
use Rattle.recovery.proofs.Finds.{sectors_within}
use Rattle.history.specs.Faults.{Fault}
use Rattle.history.specs.Steps.{sizes, Memory, serving}
use Rattle.history.specs.Machine.{Plain, has_chunk, chunk_of, place_of, diverged_at, table_of, can_diverge, with_diverged, diverge, reads_at}
use Rattle.history.proofs.CopyWrites.{stands_data}
use Rattle.history.proofs.Ends.{Up, Turned}
use Rattle.history.proofs.Invariant.{Covers, Wholes, image_chosen}
use Rattle.history.proofs.Moves.{Gains}
use Rattle.history.proofs.Placing.{placed_more, has_chunk_more, room_placed}
use Rattle.history.proofs.Spots.{in_table, reads_origin, reads_copy}
use Rattle.history.proofs.Standings.{stands_lists, in_copy_chunk}
use Rattle.history.proofs.Tables.{lookup_more_same, lookup_more_other}

-- a sector on an origin of whole chunks is in one of them
pub in_whole_chunk : (size : ChunkSize) (n s : ℕ) → n % sectors size ≡ 0 → s < n → s / sectors size < n / sectors size
in_whole_chunk size n s whole h =
    let c = sectors size in
    (div-lt_iff_lt-mul (sectors_within size).0).1 (omega (arith, div-add-mod' n c))

-- A FREE CHUNK WRITTEN

module _ (p : Plain) (valid : p.void ≡ false) (d : Disks) (m : Memory) (st : Up p m d) (k : ℕ) (data_chunk : is_data (sectors p.chunk) k ≡ true) (unused : (j : ℕ) → lookup (table_of p) j ≡ Some k → ⊥) (bytes : Bytes) (w : Disk) (same : w.count ≡ d.cow.count) (gains : Within (Gains d.cow (k * sectors p.chunk) (sectors p.chunk) bytes) w) where
  in_chunk : (i : ℕ) → i < sectors p.chunk → (k * sectors p.chunk + i) / sectors p.chunk ≡ k
  in_chunk i l = digits_div k l

  pub free_stands : Stands p.size p.chunk (table_of p) w
  free_stands = stands_data p.size p.chunk (table_of p) d.cow w (st.stands valid) (λ t x has. ⊎_elim inl (λ new. inr (ap (λ u. is_data (sectors p.chunk) (u / sectors p.chunk)) new.2 ∙ ap (is_data (sectors p.chunk)) (in_chunk new.0 new.1) ∙ data_chunk)) (gains t x has))

  -- no copy stands there
  elsewhere : (t x i : ℕ) → lookup (table_of p) (chunk_of p t) ≡ Some x → i < sectors p.chunk → in_copy (sectors p.chunk) x t ≡ k * sectors p.chunk + i → ⊥
  elsewhere t x i is l at =
      let place : x ≡ k = sym (in_copy_chunk (sectors p.chunk) x t (sectors_within p.chunk).0) ∙ ap (λ u. u / sectors p.chunk) at ∙ in_chunk i l in
      unused (chunk_of p t) (is ∙ ap Some place)

  resized : sizes (with_side cow d w) ≡ p.size
  resized = (λ i. record { origin = d.origin.count; cow = same i }) ∙ st.agrees.sectors

  pub free_covers : Covers p (with_side cow d w)
  free_covers =
      let c = st.covers in
      record {
        sectors = resized;
        origin = c.origin;
        shared = c.shared;
        valid = λ v.
            let q = c.valid v in
            record {
              listed = q.listed;
              lists = stands_lists p.size p.chunk (table_of p) w free_stands;
              copies = λ t x b l is has. ⊎_elim (q.copies t x b l is) (λ new. absurd (elsewhere t x new.0 is new.1 new.2)) (gains _ b has);
            };
        spoiled = λ v. absurd (true≢false (sym v ∙ valid));
      }

  module _ (else : (u : ℕ) → ((i : ℕ) → i < sectors p.chunk → u ≡ k * sectors p.chunk + i → ⊥) → image w u ≡ image d.cow u) (on : w.on ≡ true) (o_on : d.origin.on ≡ true) (whole : Wholes (with_side cow d w)) where
    free_view : (t : ℕ) → (o : Option ℕ) → lookup (table_of p) (chunk_of p t) ≡ o → reads_at (with_side cow d w) p.chunk (table_of p) t ≡ reads_at d p.chunk (table_of p) t
    free_view t None is = reads_origin p t (with_side cow d w) is ∙ sym (reads_origin p t d is)
    free_view t (Some x) is = reads_copy p t (with_side cow d w) x is ∙ else _ (λ i l at. elsewhere t x i is l at) ∙ sym (reads_copy p t d x is)

    pub free_up : Up p m (with_side cow d w)
    free_up = record {
      memory = st.memory;
      whole = whole;
      agrees = record {
        on = and_from _ _ o_on on;
        sectors = resized;
        origin = st.agrees.origin;
        opens = λ v. ap (λ z. found z (image w)) resized ∙ (stands_lists p.size p.chunk (table_of p) w free_stands (image w) (image_chosen w)).finds;
        view = λ v t l. free_view t (lookup (table_of p) (chunk_of p t)) refl ∙ st.agrees.view v t l;
        spoiled = λ v. absurd (true≢false (sym v ∙ valid));
      };
      covers = free_covers;
      stands = λ v. free_stands;
    }

-- ONE MORE CHUNK HAS DIVERGED

-- the machine's disks with one more diverged chunk
abbrev pub parted : Plain → ℕ → Plain
parted p s = with_diverged p (p.diverged ++ (chunk_of p s ∷ []))

-- steps by which it diverges, and which answer the longer list
abbrev pub Parts : Plain → ℕ → Told Fault (List Exception) → Disks → Type 0
Parts p s = Turned p (parted p s) (serving p.chunk (table_of (parted p s))) (table_of (parted p s))

module _ (p : Plain) (s k : ℕ) (out : diverged_at p s ≡ false) (free : room entries_at_most (sectors p.chunk) (p.size.cow / sectors p.chunk) (table_of p) ≡ Some k) where
  pub diverge_is : diverge p s ≡ parted p s
  diverge_is = cond-false (diverged_at p s) _ _ out

  can_and_place : (can_diverge p ≡ true) × (k ≡ place_of (per_area (sectors p.chunk)) (length p.diverged))
  can_and_place =
      let is = sym (room_placed p.chunk entries_at_most (p.size.cow / sectors p.chunk) p.diverged) ∙ free in
      ⊎_elim
      (λ can. let e : ◌≡◌ {A = Option ℕ} (Some _) (Some k) = sym (cond-true (can_diverge p) _ _ can) ∙ is in (can, cc))
      (λ cannot. let e : ◌≡◌ {A = Option ℕ} None (Some k) = sym (cond-false (can_diverge p) _ _ cannot) ∙ is in cc)
      (cases_Bool (can_diverge p))

  pub parted_table : table_of (parted p s) ≡ more (table_of p) (record { old = chunk_of p s; new = k })
  parted_table =
      placed_more (per_area (sectors p.chunk)) 0 p.diverged (chunk_of p s)
      ∙ ap (λ x. more (table_of p) (record { old = chunk_of p s; new = x })) (let z : 0 + length p.diverged ≡ length p.diverged = omega arith in ap (place_of (per_area (sectors p.chunk))) z ∙ sym can_and_place.1)

  -- sectors of the new chunk have the new copy, and others what they had
  pub parted_here : (t : ℕ) → chunk_of p t ≡ chunk_of p s → lookup (table_of (parted p s)) (chunk_of p t) ≡ Some k
  parted_here t is = ap₂ lookup parted_table is ∙ lookup_more_same (table_of p) (chunk_of p s) k (sym (in_table p s) ∙ out)

  pub parted_else : (t : ℕ) → (chunk_of p t ≡ chunk_of p s → ⊥) → lookup (table_of (parted p s)) (chunk_of p t) ≡ lookup (table_of p) (chunk_of p t)
  parted_else t ne = ap (λ l. lookup l (chunk_of p t)) parted_table ∙ lookup_more_other (table_of p) (chunk_of p s) k (chunk_of p t) ne

  pub parted_out : (t : ℕ) → diverged_at (parted p s) t ≡ false → diverged_at p t ≡ false
  parted_out t is = (or_parts (has_chunk p.diverged (chunk_of p t)) _ (sym (has_chunk_more p.diverged (chunk_of p s) (chunk_of p t)) ∙ is)).0

  -- what is possible on both devices, with the new copy
  pub parted_covers : (d : Disks) → p.void ≡ false → Listed p.size p.chunk (table_of (parted p s)) → ((m : Image) → Rattle.history.proofs.Invariant.Chosen d.cow m → Lies p.size p.chunk (table_of (parted p s)) m) → ((t : ℕ) (b : Bytes) → t < p.size.origin → chunk_of p t ≡ chunk_of p s → Has (possibilities (d.cow.cells (in_copy (sectors p.chunk) k t))) b → b ≡ (p.view t).latest) → ((t x : ℕ) (b : Bytes) → t < p.size.origin → lookup (table_of p) (chunk_of p t) ≡ Some x → Has (possibilities (d.cow.cells (in_copy (sectors p.chunk) x t))) b → Has (possibilities (p.view t)) b) → sizes d ≡ p.size → ((t : ℕ) (b : Bytes) → t < p.size.origin → Has (possibilities (d.origin.cells t)) b → Has (possibilities (p.origin t)) b) → ((t : ℕ) → t < p.size.origin → diverged_at p t ≡ false → p.view t ≡ p.origin t) → Covers (parted p s) d
  parted_covers d valid listed lists fresh old sized origins shared = record {
    sectors = sized;
    origin = origins;
    shared = λ v t l o. shared t l (parted_out t o);
    valid = λ v. record {
      listed = listed;
      lists = lists;
      copies = λ t x b l is has.
          ⊎_elim
          (λ same.
          let place : x ≡ k = let e = sym is ∙ parted_here t same in cc in
          subst (Has (possibilities (p.view t))) (sym (fresh t b l same (subst (λ y. Has (possibilities (d.cow.cells (in_copy (sectors p.chunk) y t))) b) place has))) (last_has (p.view t)))
          (λ other. old t x b l (sym (parted_else t other) ∙ is) has)
          (cases_eq (chunk_of p t) (chunk_of p s));
    };
    spoiled = λ v. absurd (true≢false (sym v ∙ valid));
  }
