-- Data sectors of the COW device written, and one sector of a copy.
use Rattle.std.proofs.Common.{◌≡◌, ℕ, ◌+◌, ◌*◌, ◌/◌, ◌%◌, ◌<◌, true, false, ◌⊎◌, List, Some, None, Option, sym, refl, ap, ◌∙◌, subst, inl, inr, ⊎_elim}
use native.Mathlib.Nat.{div-add-mod}
use Rattle.std.specs.List.{ContainsAt as Has}
use Rattle.std.proofs.lemmas.Bool.{cases_eq, and_from, true≢false}
use Rattle.device.specs.Disk.{Bytes, Cell, Disk, possibilities}
use Rattle.device.specs.Plans.{cow, Disks, with_side}
use Rattle.device.proofs.Possible.{last_has}
use Rattle.layout.specs.declared.chunk.ChunkSize.{ChunkSize}
use Rattle.layout.specs.declared.exception.Exception.{Exception}
use Rattle.layout.specs.Chunks.{sectors, is_data, in_copy}
use Rattle.exceptions.specs.Table.{lookup}
use Rattle.store.specs.Image.{Sizes}
use Rattle.recovery.specs.Data.{IsData}
use Rattle.recovery.specs.Readings.{image, found}
use Rattle.recovery.specs.Standing.{Within, Listed, Stands}
use Rattle.recovery.proofs.Datas.{data_free}
use Rattle.recovery.proofs.Finds.{sectors_within}
use Rattle.recovery.proofs.Keeps.{header_no_data}
use Rattle.history.specs.Machine.{Plain, added, changed, chunk_of, table_of, on_view, reads_at, Agrees}
use Rattle.history.proofs.Changes.{Widens, changed_here, changed_else, changed_grows, changed_takes, apart}
use Rattle.history.proofs.Invariant.{Covers, image_chosen}
use Rattle.history.proofs.Moves.{GainsOne}
use Rattle.history.proofs.Spots.{copy_diverged, reads_origin, reads_copy}
use Rattle.history.proofs.Standings.{stands_lists, in_copy_chunk, in_copy_mod, in_copy_data}
use Rattle.history.proofs.Tables.{listed_lookup, lookup_injective}

-- whatever is written to data sectors, the list stands
pub stands_data : (z : Sizes) (size : ChunkSize) (es : List Exception) (d w : Disk) → Stands z size es d → ((t : ℕ) (x : Bytes) → Has (possibilities (w.cells t)) x → Has (possibilities (d.cells t)) x ⊎ IsData (sectors size) t) → Stands z size es w
stands_data z size es d w st gains = record {
  listed = st.listed;
  sectors = λ t x has. ⊎_elim (st.sectors t x) (data_free z size es t x) (gains t x has);
  single = λ x has. sym (header (image w 0) (last_has (w.cells 0))) ∙ header x has;
}
  where
    header : (x : Bytes) → Has (possibilities (w.cells 0)) x → image d 0 ≡ x
    header x has = ⊎_elim (st.single x) (λ is. absurd (header_no_data (sectors size) (sectors_within size).0 is)) (gains 0 x has)

-- the copies of two sectors stand apart
pub one_place : (p : Plain) (s t k x : ℕ) → Listed p.size p.chunk (table_of p) → lookup (table_of p) (chunk_of p s) ≡ Some k → lookup (table_of p) (chunk_of p t) ≡ Some x → in_copy (sectors p.chunk) x t ≡ in_copy (sectors p.chunk) k s → t ≡ s
one_place p s t k x listed is it same =
    let c = sectors p.chunk in
    let some = (sectors_within p.chunk).0 in
    let place : x ≡ k = sym (in_copy_chunk c x t some) ∙ ap (λ n. n / c) same ∙ in_copy_chunk c k s some in
    let chunk : t / c ≡ s / c = lookup_injective p.size p.chunk (table_of p) listed (t / c) (s / c) k (it ∙ ap Some place) is in
    let rest : t % c ≡ s % c = sym (in_copy_mod c x t some) ∙ ap (λ n. n % c) same ∙ in_copy_mod c k s some in
    sym (div-add-mod t c) ∙ (λ i. c * chunk i + rest i) ∙ div-add-mod s c

module _ (p : Plain) (valid : p.void ≡ false) (d : Disks) (w : Disk) (s k : ℕ) (b : Bytes) (is : lookup (table_of p) (chunk_of p s) ≡ Some k) (same : w.count ≡ d.cow.count) (gains : Within (GainsOne d.cow (in_copy (sectors p.chunk) k s) b) w) (st : Stands p.size p.chunk (table_of p) d.cow) where
  for_data : is_data (sectors p.chunk) k ≡ true
  for_data = (listed_lookup p.size p.chunk (table_of p) st.listed (chunk_of p s) k is).1

  pub copy_stands : Stands p.size p.chunk (table_of p) w
  copy_stands = stands_data p.size p.chunk (table_of p) d.cow w st (λ t x has. ⊎_elim inl (λ new. inr (subst (IsData (sectors p.chunk)) (sym new.0) (in_copy_data p.chunk k s for_data))) (gains t x has))

  pub copy_covers : (f : Cell → Cell) → Widens f b → Covers p d → Covers (on_view f s p) (with_side cow d w)
  copy_covers f wide c = record {
    sectors = (λ i. record { origin = d.origin.count; cow = same i }) ∙ c.sectors;
    origin = c.origin;
    shared = λ v t l out. changed_else f s p.view t (apart p s t (copy_diverged p s k is) out) ∙ c.shared v t l out;
    valid = λ v.
        let q = c.valid v in
        record {
          listed = q.listed;
          lists = stands_lists p.size p.chunk (table_of p) w copy_stands;
          copies = λ t x y l it has.
              ⊎_elim
              (λ old. changed_grows f s p.view b wide t y (q.copies t x y l it old))
              (λ new. subst (Has (possibilities (changed f s p.view t))) new.1 (changed_takes f s p.view b wide t (one_place p s t k x st.listed is it new.0)))
              (gains _ y has);
        };
    spoiled = λ v. absurd (true≢false (sym v ∙ valid));
  }

  module _ (here : image w (in_copy (sectors p.chunk) k s) ≡ b) (else : (t : ℕ) → (t ≡ in_copy (sectors p.chunk) k s → ⊥) → image w t ≡ image d.cow t) (on : w.on ≡ true) (up : d.origin.on ≡ true) (a : Agrees p d) where
    view_now : (t : ℕ) → t < p.size.origin → reads_at (with_side cow d w) p.chunk (table_of p) t ≡ (changed (added b) s p.view t).latest
    view_now t l =
        ⊎_elim
        (λ it. reads_copy p t (with_side cow d w) k (ap (λ u. lookup (table_of p) (chunk_of p u)) it ∙ is) ∙ ap (λ u. image w (in_copy (sectors p.chunk) k u)) it ∙ here ∙ sym (ap (λ q. q.latest) (changed_here (added b) s p.view t it)))
        (λ ne. by ne (lookup (table_of p) (chunk_of p t)) refl ∙ a.view valid t l ∙ sym (ap (λ q. q.latest) (changed_else (added b) s p.view t ne)))
        (cases_eq t s)
      where
        by : (t ≡ s → ⊥) → (o : Option ℕ) → lookup (table_of p) (chunk_of p t) ≡ o → reads_at (with_side cow d w) p.chunk (table_of p) t ≡ reads_at d p.chunk (table_of p) t
        by ne None it = reads_origin p t (with_side cow d w) it ∙ sym (reads_origin p t d it)
        by ne (Some x) it = reads_copy p t (with_side cow d w) x it ∙ else _ (λ e. ne (one_place p s t k x st.listed is it e)) ∙ sym (reads_copy p t d x it)

    pub copy_agrees : Agrees (on_view (added b) s p) (with_side cow d w)
    copy_agrees = record {
      on = and_from _ _ up on;
      sectors = (λ i. record { origin = d.origin.count; cow = same i }) ∙ a.sectors;
      origin = a.origin;
      opens = λ v. ap (λ z. found z (image w)) ((λ i. record { origin = d.origin.count; cow = same i }) ∙ a.sectors) ∙ (stands_lists p.size p.chunk (table_of p) w copy_stands (image w) (image_chosen w)).finds;
      view = λ v t l. view_now t l;
      spoiled = λ v. absurd (true≢false (sym v ∙ valid));
    }
