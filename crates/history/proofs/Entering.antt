-- A copied chunk entered in the list: good, or broken off.
use Rattle.std.proofs.Common.{◌≡◌, ℕ, ◌+◌, ◌/◌, ◌%◌, ◌^◌, ◌<◌, true, false, not, ◌||◌, eqb, ltb, ◌⊎◌, List, [], length, Some, None, Option, sym, refl, ap, ◌∙◌, subst, inl, inr, ⊎_elim}
use Rattle.std.specs.List.{ContainsAt as Has}
use Rattle.std.proofs.lemmas.Bool.{cases_eq, and_from, and_parts, eqb-true, or_from, lt-ltb, not_from_true, cond-false, true≢false}
use Rattle.device.specs.Disk.{Bytes, Disk, possibilities, Told, good, refused, Refusal, refusal}
use Rattle.device.specs.Plans.{done, Runs, one, both, cow, Disks, with_side, raised}
use Rattle.device.proofs.Uses.{count_stays}
use Rattle.layout.specs.declared.exception.Exception.{Exception}
use Rattle.layout.specs.Chunks.{sectors, per_area, is_data, in_copy, area_place}
use Rattle.layout.specs.Entries.{pic}
use Rattle.exceptions.specs.Table.{entries_at_most, fills_area, has_old, lookup, room}
use Rattle.store.specs.Refusals.{StoreRefusal, up, doing}
use Rattle.store.specs.Steps.{shape_of, flushing, storing, preparing, entering, enter, entered_at}
use Rattle.recovery.specs.Breaks.{more}
use Rattle.recovery.specs.Data.{DataKept}
use Rattle.recovery.specs.Readings.{Image, image, found}
use Rattle.recovery.specs.Standing.{Listed, Stands, Lies}
use Rattle.recovery.proofs.Calls.{Did, went, broke, did}
use Rattle.recovery.proofs.Enters.{entering_leaves, entering_stands}
use Rattle.recovery.proofs.Finds.{sectors_within}
use Rattle.recovery.proofs.Keeps.{quiet_keeps, entering_quiet}
use Rattle.recovery.proofs.Listing.{entering_listed}
use Rattle.recovery.proofs.Orders.{entering_order}
use Rattle.recovery.proofs.Stand.{standing_lies}
use Rattle.recovery.proofs.Zeros.{flushed_good, stored_good, then_good}
use Rattle.history.specs.Faults.{Fault, store_up, in_store}
use Rattle.history.specs.Steps.{sizes, serving}
use Rattle.history.specs.Machine.{Plain, chunk_of, diverged_at, table_of, reads_at}
use Rattle.history.proofs.Copying.{in_whole_chunk, parted, parted_table, parted_here, parted_else, parted_covers, Parts}
use Rattle.history.proofs.Ends.{Up, turned, turned_off}
use Rattle.history.proofs.Fair.{Fared, fine, lost, fares}
use Rattle.history.proofs.Fairs.{entering_fair}
use Rattle.history.proofs.Invariant.{Chosen, Covers, Wholes, CutBoth, cut_fewer, single_is, image_chosen}
use Rattle.history.proofs.Sides.{Live, live, passed_off}
use Rattle.history.proofs.Splits.{At, at_store}
use Rattle.history.proofs.Spots.{in_table, reads_origin, reads_copy}
use Rattle.history.proofs.Standings.{stands_lists, in_copy_data, single_choice}
use Rattle.history.proofs.Tables.{listed_lookup, room_free}
use Rattle.history.proofs.Wholes.{wholes_stay}

-- a good entering ends with a flush
entered_single : (c : ℕ) (list : List Exception) (n : ℕ) {d e : Disk} → Runs one (entering c list n) d (good tt) e → (s : ℕ) → (e.cells s).older ≡ []
entered_single c list n r s =
    let a = then_good (preparing (fills_area c n) c (n / per_area c + 1)) (λ _. flushing (storing (area_place c (n / 32)) (pic list (n / 32)))) r in
    ap (λ y. (y.cells s).older) (stored_good (flushed_good a.3)).1

module _ (p : Plain) (valid : p.void ≡ false) (d : Disks) (st : Up p (serving p.chunk (table_of p)) d) (s : ℕ) (here : s < p.size.origin) (out : diverged_at p s ≡ false) (k : ℕ) (free : room entries_at_most (sectors p.chunk) (p.size.cow / sectors p.chunk) (table_of p) ≡ Some k) (filled : (t : ℕ) → t < p.size.origin → chunk_of p t ≡ chunk_of p s → image d.cow (in_copy (sectors p.chunk) k t) ≡ (p.view t).latest) where
  -- the new exception, and the list with it
  abbrev new_one : Exception
  new_one = record { old = chunk_of p s; new = k }

  abbrev longer : List Exception
  longer = more (table_of p) new_one

  stand : Stands p.size p.chunk (table_of p) d.cow
  stand = st.stands valid

  low_origin : p.size.origin < 2 ^ 32
  low_origin = subst (λ z. z.origin < 2 ^ 32) st.agrees.sectors st.whole.origin.few

  low_cow : p.size.cow < 2 ^ 32
  low_cow = subst (λ z. z.cow < 2 ^ 32) st.agrees.sectors st.whole.cow.few

  no_old : has_old (table_of p) (chunk_of p s) ≡ false
  no_old = sym (in_table p s) ∙ out

  on_origin : chunk_of p s < p.size.origin / sectors p.chunk
  on_origin = in_whole_chunk p.chunk p.size.origin s (eqb-true _ _ (and_parts (eqb (p.size.origin % sectors p.chunk) 0) _ stand.listed.shape).0) here

  listed_longer : Listed p.size p.chunk longer
  listed_longer = entering_listed p.size p.chunk (table_of p) (chunk_of p s) k low_origin low_cow stand.listed no_old on_origin free

  -- the store's call comes to its steps
  enter_is : enter (shape_of p.size p.chunk) (table_of p) (chunk_of p s) ≡ doing (entering (sectors p.chunk) longer (length (table_of p))) (λ _. done (good longer))
  enter_is =
      cond-false (has_old (table_of p) (chunk_of p s) || not (ltb (chunk_of p s) (p.size.origin / sectors p.chunk))) _ _ (or_from _ _ no_old (not_from_true _ (lt-ltb _ _ on_origin)))
      ∙ ap (entered_at (sectors p.chunk) (table_of p) (chunk_of p s)) free

  cow_count : d.cow.count ≡ p.size.cow
  cow_count = ap (λ z. z.cow) st.agrees.sectors

  -- a copy that was there stays as it was
  module _ (w : Disk) (keeps : DataKept (sectors p.chunk) d.cow w) where
    old_copies : (t x : ℕ) (b : Bytes) → t < p.size.origin → lookup (table_of p) (chunk_of p t) ≡ Some x → Has (possibilities (w.cells (in_copy (sectors p.chunk) x t))) b → Has (possibilities (p.view t)) b
    old_copies t x b l is has =
        let data_sector = in_copy_data p.chunk x t (listed_lookup p.size p.chunk (table_of p) stand.listed (chunk_of p t) x is).1 in
        (st.covers.valid valid).copies t x b l is (keeps.possible _ b data_sector has)

    old_reads : w.on ≡ true → (t x : ℕ) → lookup (table_of p) (chunk_of p t) ≡ Some x → image w (in_copy (sectors p.chunk) x t) ≡ image d.cow (in_copy (sectors p.chunk) x t)
    old_reads on t x is = keeps.reads _ (in_copy_data p.chunk x t (listed_lookup p.size p.chunk (table_of p) stand.listed (chunk_of p t) x is).1) on

  new_data : (t : ℕ) → is_data (sectors p.chunk) (in_copy (sectors p.chunk) k t / sectors p.chunk) ≡ true
  new_data t = in_copy_data p.chunk k t (room_free p.size p.chunk (table_of p) stand.listed k free).0

  shares : (t : ℕ) → t < p.size.origin → diverged_at p t ≡ false → p.view t ≡ p.origin t
  shares t l o = st.covers.shared valid t l o

  -- GOOD

  module _ (w : Disk) (run : Runs one (entering (sectors p.chunk) longer (length (table_of p))) d.cow (good tt) w) (on : w.on ≡ true) (whole : Wholes (with_side cow d w)) where
    keeps : DataKept (sectors p.chunk) d.cow w
    keeps = quiet_keeps (sectors p.chunk) _ (good tt) d.cow w (entering_quiet (sectors p.chunk) (sectors_within p.chunk).0 longer (length (table_of p))) run

    resized : sizes (with_side cow d w) ≡ p.size
    resized = (λ i. record { origin = d.origin.count; cow = count_stays run i }) ∙ st.agrees.sectors

    stands_now : Stands p.size p.chunk (table_of (parted p s)) w
    stands_now = subst (λ l. Stands p.size p.chunk l w) (sym (parted_table p s k out free)) (entering_stands p.size p.chunk (table_of p) new_one d.cow w stand listed_longer run)

    new_reads : (t : ℕ) → t < p.size.origin → chunk_of p t ≡ chunk_of p s → image w (in_copy (sectors p.chunk) k t) ≡ (p.view t).latest
    new_reads t l same = keeps.reads _ (new_data t) on ∙ filled t l same

    covers_now : Covers (parted p s) (with_side cow d w)
    covers_now =
        parted_covers p s k out free (with_side cow d w) valid stands_now.listed (stands_lists p.size p.chunk _ w stands_now)
        (λ t b l same has. sym (single_is (entered_single (sectors p.chunk) longer (length (table_of p)) run _) has) ∙ new_reads t l same)
        (old_copies w keeps) resized st.covers.origin shares

    view_now : (t : ℕ) → t < p.size.origin → reads_at (with_side cow d w) p.chunk (table_of (parted p s)) t ≡ (p.view t).latest
    view_now t l = ⊎_elim (λ same. reads_copy (parted p s) t (with_side cow d w) k (parted_here p s k out free t same) ∙ new_reads t l same) (λ other. by other (lookup (table_of p) (chunk_of p t)) refl) (cases_eq (chunk_of p t) (chunk_of p s))
      where
        by : (chunk_of p t ≡ chunk_of p s → ⊥) → (o : Option ℕ) → lookup (table_of p) (chunk_of p t) ≡ o → reads_at (with_side cow d w) p.chunk (table_of (parted p s)) t ≡ (p.view t).latest
        by other None is = reads_origin (parted p s) t (with_side cow d w) (parted_else p s k out free t other ∙ is) ∙ sym (reads_origin p t d is) ∙ st.agrees.view valid t l
        by other (Some x) is = reads_copy (parted p s) t (with_side cow d w) x (parted_else p s k out free t other ∙ is) ∙ old_reads w keeps on t x is ∙ sym (reads_copy p t d x is) ∙ st.agrees.view valid t l

    entered_up : Up (parted p s) (serving p.chunk (table_of (parted p s))) (with_side cow d w)
    entered_up = record {
      memory = sym (cond-false p.void _ _ valid);
      whole = whole;
      agrees = record {
        on = and_from _ _ (and_parts d.origin.on d.cow.on st.agrees.on).0 on;
        sectors = resized;
        origin = st.agrees.origin;
        opens = λ v. ap (λ z. found z (image w)) resized ∙ (stands_lists p.size p.chunk _ w stands_now (image w) (image_chosen w)).finds;
        view = λ v t l. view_now t l;
        spoiled = λ v. absurd (true≢false (sym v ∙ valid));
      };
      covers = covers_now;
      stands = λ v. stands_now;
    }

  -- BROKEN OFF

  module _ (w : Disk) (t : Told Refusal (Unit {0})) (run : Runs one (entering (sectors p.chunk) longer (length (table_of p))) d.cow t w) (e : Disks) (cut : CutBoth (with_side cow d w) e) where
    kept : DataKept (sectors p.chunk) d.cow w
    kept = quiet_keeps (sectors p.chunk) _ t d.cow w (entering_quiet (sectors p.chunk) (sectors_within p.chunk).0 longer (length (table_of p))) run

    cut_sizes : sizes e ≡ p.size
    cut_sizes = (λ i. record { origin = cut.origin.same_count i; cow = (cut.cow.same_count ∙ count_stays run) i }) ∙ st.agrees.sectors

    cut_origin : (u : ℕ) (b : Bytes) → u < p.size.origin → Has (possibilities (e.origin.cells u)) b → Has (possibilities (p.origin u)) b
    cut_origin u b l has = st.covers.origin u b l ((cut_fewer cut.origin).possible u b has)

    cut_copies : (u x : ℕ) (b : Bytes) → u < p.size.origin → lookup (table_of p) (chunk_of p u) ≡ Some x → Has (possibilities (e.cow.cells (in_copy (sectors p.chunk) x u))) b → Has (possibilities (p.view u)) b
    cut_copies u x b l is has = old_copies w kept u x b l is ((cut_fewer cut.cow).possible _ b has)

    -- the list as it was
    without : ((m : Image) → Chosen e.cow m → Lies p.size p.chunk (table_of p) m) → Covers p e
    without lists = record {
      sectors = cut_sizes;
      origin = cut_origin;
      shared = st.covers.shared;
      valid = λ v. record { listed = stand.listed; lists = lists; copies = cut_copies };
      spoiled = λ v. absurd (true≢false (sym v ∙ valid));
    }

    -- one choice is left
    left_one : (es : List Exception) → Lies p.size p.chunk es (image e.cow) → (m : Image) → Chosen e.cow m → Lies p.size p.chunk es m
    left_one es lies m ch = subst (Lies p.size p.chunk es) (sym (single_choice e.cow cut.cow.single m ch)) lies

    entered_survives : Covers p e ⊎ Covers (parted p s) e
    entered_survives =
        ⊎_elim
        (λ before. inl (without (λ m ch. standing_lies p.size p.chunk (table_of p) m stand.listed (λ u. before u (m u) ((cut_fewer cut.cow).possible u (m u) (ch u))))))
        (λ lasts.
        ⊎_elim
        (λ old. inl (without (left_one (table_of p) old)))
        (λ new.
        let is = parted_table p s k out free in
        inr (parted_covers p s k out free e valid (subst (Listed p.size p.chunk) (sym is) listed_longer) (left_one _ (subst (λ l. Lies p.size p.chunk l (image e.cow)) (sym is) new))
        (λ u b l same has. lasts _ b (new_data u) ((cut_fewer cut.cow).possible _ b has) ∙ filled u l same)
        cut_copies cut_sizes cut_origin shares))
        (entering_leaves standing_lies p.size p.chunk (table_of p) new_one d.cow w e.cow t stand listed_longer run cut.cow))
        (entering_order p.size p.chunk (table_of p) new_one d.cow w t stand listed_longer run)

  -- the chunk has diverged; or a device went, and then it has or has not
  pub entered_both : {t : Told Fault (List Exception)} {e : Disks} → Runs both (in_store (enter (shape_of p.size p.chunk) (table_of p) (chunk_of p s))) d t e → Parts p s t e
  entered_both {t} {e} r = by (did (entering (sectors p.chunk) longer (length (table_of p))) longer a.answer d.cow a.disk (subst (λ q. Runs one q d.cow a.answer a.disk) enter_is a.ran))
    where
      a : At StoreRefusal (List Exception) cow (enter (shape_of p.size p.chunk) (table_of p) (chunk_of p s)) store_up d t e
      a = at_store (enter (shape_of p.size p.chunk) (table_of p) (chunk_of p s)) r

      alive : Live d
      alive = live st.agrees.on st.whole

      fared : {u : Told Refusal (Unit {0})} → Runs one (entering (sectors p.chunk) longer (length (table_of p))) d.cow u a.disk → Fared u a.disk
      fared run = fares (subst (λ n. Rattle.history.proofs.Fair.Fair n (entering (sectors p.chunk) longer (length (table_of p)))) (sym cow_count) (entering_fair p.size p.chunk (table_of p) longer k stand.listed free)) (alive.long cow) (alive.on cow) run

      good_by : Runs one (entering (sectors p.chunk) longer (length (table_of p))) d.cow (good tt) a.disk → a.answer ≡ good longer → Fared {A = Unit {0}} (good tt) a.disk → Parts p s t e
      good_by run is (fine u told on long) =
          turned (a.told ∙ ap (raised store_up) is ∙ ap good (sym (parted_table p s k out free)))
          (subst (Up (parted p s) _) (sym a.left) (entered_up a.disk run on (subst Wholes a.left (wholes_stay r st.whole))))
      good_by run is (lost q told off) = cc

      off_by : (f : Refusal) → Runs one (entering (sectors p.chunk) longer (length (table_of p))) d.cow (refused f) a.disk → a.answer ≡ refused (up f) → Fared {A = Unit {0}} (refused f) a.disk → Parts p s t e
      off_by f run is (fine u told on long) = cc
      off_by f run is (lost q told off) =
          let three : f ≡ refusal 3 q = cc in
          turned_off
          (passed_off cow store_up (up (refusal 3 q)) d a.disk refl a.told a.left (is ∙ ap (λ y. refused (up y)) three) off)
          (λ x cut. entered_survives a.disk (refused f) run x (subst (λ y. CutBoth y x) a.left cut))

      by : Did (entering (sectors p.chunk) longer (length (table_of p))) longer a.answer d.cow a.disk → Parts p s t e
      by (went run is) = good_by run is (fared run)
      by (broke f run is) = off_by f run is (fared run)
