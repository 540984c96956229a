-- A reopening that no test refused.
use Rattle.std.proofs.Common.{◌≡◌, ℕ, ◌^◌, ◌<◌, true, false, ◌⊎◌, [], Some, None, Option, sym, refl, ap, ◌∙◌, subst, ⊎_elim}
use Rattle.std.proofs.ByRecursion.{has_push}
use Rattle.std.proofs.lemmas.Bool.{cases_Bool, and_from, and_parts, and_right, cond-false, true≢false}
use Rattle.device.specs.Disk.{Disk, Told, good, refused, refusal}
use Rattle.device.specs.Plans.{Disks, pair, Runs, one, both, raised}
use Rattle.device.proofs.Possible.{last_has}
use Rattle.device.proofs.Uses.{over as run_over, count_stays}
use Rattle.layout.specs.Chunks.{sectors, in_copy}
use Rattle.exceptions.specs.Table.{lookup}
use Rattle.store.specs.Refusals.{StoreRefusal, because, up}
use Rattle.store.specs.Steps.{Contents, opening}
use Rattle.recovery.specs.Breaks.{Sure}
use Rattle.recovery.specs.Data.{IsData, DataKept}
use Rattle.recovery.specs.Readings.{Image, image, found}
use Rattle.recovery.specs.Standing.{Stands, Lies}
use Rattle.recovery.proofs.Reaches.{opening_answers}
use Rattle.recovery.proofs.Opens.{opening_refused}
use Rattle.recovery.proofs.Stays.{legible_stands}
use Rattle.recovery.proofs.Cleans.{opening_lies}
use Rattle.recovery.proofs.Rests.{opening_standing}
use Rattle.recovery.proofs.Datas.{calls_keep_data}
use Rattle.history.specs.Faults.{Fault, store_up, in_store}
use Rattle.history.specs.Steps.{sizes, both_on, work_bytes, closed, serving, Outcome, giving, after}
use Rattle.history.specs.History.{reopen, nothing, replied}
use Rattle.history.specs.Machine.{Plain, chunk_of, table_of, reads_at, finding, Agrees}
use Rattle.history.proofs.Invariant.{Chosen, Copies, Covers, Wholes, Fewer, covers_fewer, cut_fewer, fewer_refl, fewer_same, image_chosen}
use Rattle.history.proofs.Ends.{Up, Down, down_by, Shut, Reopened, good_open, void_open, off_open}
use Rattle.history.proofs.Splits.{After, stopped, went_on, after_parts, at_store}
use Rattle.history.proofs.Spots.{reads_origin, reads_copy}
use Rattle.history.proofs.Standings.{stands_lists, in_copy_data, single_choice}
use Rattle.history.proofs.Tables.{listed_lookup}
use Rattle.history.proofs.Wholes.{wholes_stay}

-- what a reopening answers and remembers, by the store's answer
abbrev outcome_of : Told StoreRefusal Contents → Outcome (Unit {0})
outcome_of (good x) = record { answer = good tt; memory = serving x.size x.table }
outcome_of (refused f) = record { answer = refused (store_up f); memory = closed }

-- a reopening by the store's run
record Opened (d : Disks) (o : Outcome (Unit {0})) (e : Disks) : Type 0 where
  told : Told StoreRefusal Contents
  disk : Disk
  ran : Runs one (opening (sizes d) work_bytes) d.cow told disk
  is : o ≡ outcome_of told
  left : e ≡ pair d.origin disk

opened : (d : Disks) (o : Outcome (Unit {0})) (e : Disks) → Runs both (after closed (in_store (opening (sizes d) work_bytes)) (λ x. giving (serving x.size x.table) tt)) d o e → Opened d o e
opened d o e r = by (after_parts closed (in_store (opening (sizes d) work_bytes)) (λ x. giving (serving x.size x.table) tt) r)
  where
    as_refused : (f : Fault) (u : Told StoreRefusal Contents) → refused f ≡ raised store_up u → ◌≡◌ {A = Outcome (Unit {0})} (record { answer = refused f; memory = closed }) (outcome_of u)
    as_refused f (good x) h = cc
    as_refused f (refused g) h = let same : f ≡ store_up g = cc in ap (λ y. record { answer = refused y; memory = closed }) same

    as_good : (x : Contents) (u : Told StoreRefusal Contents) → good x ≡ raised store_up u → outcome_of (good x) ≡ outcome_of u
    as_good x (good y) h = let same : x ≡ y = cc in ap (λ y. outcome_of (good y)) same
    as_good x (refused g) h = cc

    by : After closed (in_store (opening (sizes d) work_bytes)) (λ x. giving (serving x.size x.table) tt) d o e → Opened d o e
    by (stopped f run is) = let a = at_store (opening (sizes d) work_bytes) run in record { told = a.answer; disk = a.disk; ran = a.ran; is = is ∙ as_refused f a.answer a.told; left = a.left }
    by (went_on x mid run rest) =
        let a = at_store (opening (sizes d) work_bytes) run in
        let y = run_over rest in
        record { told = a.answer; disk = a.disk; ran = a.ran; is = y.0 ∙ as_good x a.answer a.told; left = y.1 ∙ a.left }

module _ (p : Plain) (d : Disks) (k : ℕ) (shut : Shut p d) (u : Told StoreRefusal Contents) (w : Disk) (r : Runs one (opening (sizes d) work_bytes) d.cow u w) (whole : Wholes (pair d.origin w)) where
  -- the devices after the call
  abbrev e : Disks
  e = pair d.origin w

  sized : sizes e ≡ p.size
  sized = (λ i. record { origin = d.origin.count; cow = count_stays r i }) ∙ shut.agrees.sectors

  -- a store that was not written, on a device that is on, is as it was
  kept : w.cells ≡ d.cow.cells → w.on ≡ d.cow.on → d ≡ e
  kept cells on = sym (λ i. record { origin = d.origin; cow = record { count = count_stays r i; cells = cells i; on = on i } })

  -- a store that was not written is covered as before
  covers_same : w.cells ≡ d.cow.cells → Covers p e
  covers_same cells = covers_fewer shut.covers fewer_refl (fewer_same (count_stays r) cells)

  went_off : w.on ≡ false → both_on e ≡ false
  went_off off = and_right d.origin.on w.on off

  off_same : w.on ≡ false → w.cells ≡ d.cow.cells → Down p (reopen k) e
  off_same off cells = down_by p whole sized (went_off off) (has_push [] p) (covers_same cells)

  -- what the store tells: what is there, or that the device went
  abbrev Finds : Type 0
  Finds = ((u ≡ finding d) × (w.on ≡ d.cow.on)) ⊎ ((q : ℕ) × (u ≡ refused (up (refusal 3 q))) × (w.on ≡ false))

  -- what is to be shown
  abbrev Ended : Type 0
  Ended = Reopened p k (replied (λ _. nothing) (outcome_of u).answer) (outcome_of u).memory e

  -- a device that went is told as such
  lost : (q : ℕ) → u ≡ refused (up (refusal 3 q)) → Down p (reopen k) e → Ended
  lost q is down = off_open (store_up (up (refusal 3 q))) (ap (λ y. replied (λ _. nothing) (outcome_of y).answer) is) refl down

  -- a good answer is told as such
  fine : p.void ≡ false → u ≡ finding d → (up_then : (outcome_of u).memory ≡ serving p.chunk (table_of p) → Up p (outcome_of u).memory e) → Ended
  fine v is up_then =
      let good_here = is ∙ shut.agrees.opens v in
      good_open v (ap (λ y. replied (λ _. nothing) (outcome_of y).answer) good_here) (up_then (ap (λ y. (outcome_of y).memory) good_here))

  -- A VOID VIEW

  void_ends : p.void ≡ true → Finds → Ended
  void_ends v ends =
      let none = shut.agrees.spoiled v in
      let cells = opening_refused (sizes d) d.cow w u (because 6 0 0) none r in
      ⊎_elim
      (λ x. void_open v (ap (λ y. replied (λ _. nothing) (outcome_of y).answer) (x.0 ∙ none)) (ap (λ y. (outcome_of y).memory) (x.0 ∙ none)) (subst (Shut p) (kept cells x.1) shut))
      (λ x. lost x.0 x.1 (off_same x.2 cells))
      ends

  module _ (v : p.void ≡ false) where
    -- A LIST THAT STANDS

    standing_ends : Stands p.size p.chunk (table_of p) d.cow → Finds → Ended
    standing_ends st ends =
        let cells = opening_standing p.size p.chunk (table_of p) d.cow w u st (subst (λ z. Runs one (opening z work_bytes) d.cow u w) shut.agrees.sectors r) in
        ⊎_elim
        (λ x. fine v x.0 (λ is. subst (Up p (outcome_of u).memory) (kept cells x.1) (record {
          memory = is ∙ sym (cond-false p.void _ _ v);
          whole = shut.whole;
          agrees = shut.agrees;
          covers = shut.covers;
          stands = λ _. st;
        })))
        (λ x. lost x.0 x.1 (off_same x.2 cells))
        ends

    -- A DEVICE AFTER A POWER CUT

    module _ (sure : Sure d.cow) where
      here : Copies p d.cow
      here = shut.covers.valid v

      lies : Lies p.size p.chunk (table_of p) (image d.cow)
      lies = here.lists (image d.cow) (image_chosen d.cow)

      ran : Runs one (opening p.size work_bytes) d.cow u w
      ran = subst (λ z. Runs one (opening z work_bytes) d.cow u w) shut.agrees.sectors r

      data_kept : DataKept (sectors p.chunk) d.cow w
      data_kept = calls_keep_data.opening p.size p.chunk (table_of p) d.cow w u lies.finds ran

      -- a copy's sector is data
      copy_data : (s c : ℕ) → lookup (table_of p) (chunk_of p s) ≡ Some c → IsData (sectors p.chunk) (in_copy (sectors p.chunk) c s)
      copy_data s c is = in_copy_data p.chunk c s (listed_lookup p.size p.chunk (table_of p) here.listed _ c is).1

      -- devices with no more than the call left are covered where the list is found
      covers_found : (x : Disks) → Fewer d.origin x.origin → Fewer w x.cow → ((m : Image) → Chosen x.cow m → Lies p.size p.chunk (table_of p) m) → Covers p x
      covers_found x fo fw lists = record {
        sectors = (λ i. record { origin = fo.count i; cow = fw.count i }) ∙ sized;
        origin = λ s b l has. shut.covers.origin s b l (fo.possible s b has);
        shared = shut.covers.shared;
        valid = λ _. record {
          listed = here.listed;
          lists = lists;
          copies = λ s c b l is has. here.copies s c b l is (data_kept.possible _ b (copy_data s c is) (fw.possible _ b has));
        };
        spoiled = λ y. absurd (true≢false (sym y ∙ v));
      }

      stands_after : u ≡ finding d → Stands p.size p.chunk (table_of p) w
      stands_after is =
          legible_stands p.size p.chunk (table_of p) d.cow w
          (subst (λ z. z.origin < 2 ^ 32) shut.agrees.sectors shut.whole.origin.few)
          (subst (λ z. z.cow < 2 ^ 32) shut.agrees.sectors shut.whole.cow.few)
          (ap (λ z. z.cow) (sym shut.agrees.sectors)) sure lies.bytes
          (subst (λ y. Runs one (opening p.size work_bytes) d.cow y w) (is ∙ shut.agrees.opens v) ran)

      -- each sector of the view reads as before
      view_same : w.on ≡ true → (s : ℕ) (o : Option ℕ) → lookup (table_of p) (chunk_of p s) ≡ o → reads_at e p.chunk (table_of p) s ≡ reads_at d p.chunk (table_of p) s
      view_same on s None is = reads_origin p s e is ∙ sym (reads_origin p s d is)
      view_same on s (Some c) is = reads_copy p s e c is ∙ data_kept.reads _ (copy_data s c is) on ∙ sym (reads_copy p s d c is)

      agrees_after : Stands p.size p.chunk (table_of p) w → w.on ≡ d.cow.on → Agrees p e
      agrees_after st on =
          let were = and_parts d.origin.on d.cow.on shut.agrees.on in
          record {
            on = and_from d.origin.on w.on were.0 (on ∙ were.1);
            sectors = sized;
            origin = shut.agrees.origin;
            opens = λ _. ap (λ z. found z (image w)) sized ∙ (stands_lists p.size p.chunk (table_of p) w st (image w) (image_chosen w)).finds;
            view = λ _ s l. view_same (on ∙ were.1) s (lookup (table_of p) (chunk_of p s)) refl ∙ shut.agrees.view v s l;
            spoiled = λ y. absurd (true≢false (sym y ∙ v));
          }

      up_after : u ≡ finding d → w.on ≡ d.cow.on → (outcome_of u).memory ≡ serving p.chunk (table_of p) → Up p (outcome_of u).memory e
      up_after is on memory =
          let st = stands_after is in
          record {
            memory = memory ∙ sym (cond-false p.void _ _ v);
            whole = whole;
            agrees = agrees_after st on;
            covers = covers_found e fewer_refl fewer_refl (stands_lists p.size p.chunk (table_of p) w st);
            stands = λ _. st;
          }

      down_after : w.on ≡ false → Down p (reopen k) e
      down_after off = record {
        whole = whole;
        sectors = sized;
        gone = went_off off;
        survives = λ x cut. (
          p,
          has_push [] p,
          covers_found x (cut_fewer cut.origin) (cut_fewer cut.cow) (λ m ch. subst (Lies p.size p.chunk (table_of p)) (sym (single_choice x.cow cut.cow.single m ch)) (opening_lies p.size p.chunk (table_of p) d.cow w x.cow u (ap (λ z. z.cow) (sym shut.agrees.sectors)) sure lies ran cut.cow)),
        );
      }

      sure_ends : Finds → Ended
      sure_ends ends = ⊎_elim (λ x. fine v x.0 (up_after x.0 x.1)) (λ x. lost x.0 x.1 (down_after x.2)) ends

  reopened : Ended
  reopened =
      let ends = opening_answers (sizes d) d.cow w u refl shut.whole.cow.some (λ s l. shut.whole.cow.long s _ l (last_has (d.cow.cells s))) r in
      ⊎_elim (λ v. void_ends v ends) (λ v. ⊎_elim (λ st. standing_ends v st ends) (λ sure. sure_ends v sure ends) (shut.ready v)) (cases_Bool p.void)

pub core_reopen : (p : Plain) (d : Disks) (k : ℕ) → Shut p d → (o : Outcome (Unit {0})) (e : Disks) → Runs both (after closed (in_store (opening (sizes d) work_bytes)) (λ x. giving (serving x.size x.table) tt)) d o e → Reopened p k (replied (λ _. nothing) o.answer) o.memory e
core_reopen p d k shut o e r =
    let x = opened d o e r in
    let whole = subst Wholes x.left (wholes_stay r shut.whole) in
    subst (λ y. Reopened p k (replied (λ _. nothing) o.answer) o.memory y) (sym x.left)
    (subst (λ y. Reopened p k (replied (λ _. nothing) y.answer) y.memory (pair d.origin x.disk)) (sym x.is) (reopened p d k shut x.told x.disk x.ran whole))
