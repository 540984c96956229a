-- A store without room is spoiled: the view becomes void.
use Rattle.std.proofs.Common.{◌≡◌, ℕ, ◌<◌, true, false, ◌⊎◌, sym, refl, ap, ◌∙◌, subst, inl, inr, ⊎_elim}
use Rattle.std.specs.List.{ContainsAt as Has}
use Rattle.std.proofs.lemmas.Bool.{and_parts, and_from, true≢false}
use Rattle.device.specs.Disk.{Bytes, Disk, possibilities, put, Told, good, refused, Refusal}
use Rattle.device.specs.Plans.{Runs, one, both, cow, Disks, with_side, raised}
use Rattle.device.proofs.Uses.{count_stays}
use Rattle.layout.specs.Chunks.{sectors}
use Rattle.layout.specs.Headers.{header}
use Rattle.store.specs.Refusals.{because}
use Rattle.store.specs.Steps.{spoiling}
use Rattle.recovery.specs.Data.{DataKept}
use Rattle.recovery.specs.Readings.{image, found}
use Rattle.recovery.specs.Standing.{Stands, Lies}
use Rattle.recovery.proofs.Finds.{sectors_within}
use Rattle.recovery.proofs.Keeps.{quiet_keeps, spoiling_quiet}
use Rattle.recovery.proofs.Spoils.{invalid_opens, spoiling_leaves}
use Rattle.recovery.proofs.Stand.{standing_lies}
use Rattle.recovery.proofs.Zeros.{put_here, settled_single, stored_good}
use Rattle.history.specs.Faults.{Fault, passed_up, at_side}
use Rattle.history.specs.Steps.{sizes, serving, invalid}
use Rattle.history.specs.Machine.{Plain, chunk_of, table_of, voided}
use Rattle.history.proofs.Ends.{Up, Turned, turned, turned_off}
use Rattle.history.proofs.Fair.{Fared, fine, lost, fares}
use Rattle.history.proofs.Fairs.{spoiling_fair}
use Rattle.history.proofs.Invariant.{Covers, Spoiled, Wholes, CutBoth, cut_fewer, image_chosen}
use Rattle.history.proofs.Reading.{alive}
use Rattle.history.proofs.Sides.{went_off}
use Rattle.history.proofs.Splits.{At, at_one}
use Rattle.history.proofs.Standings.{single_choice, in_copy_data}
use Rattle.history.proofs.Tables.{listed_lookup}
use Rattle.history.proofs.Wholes.{wholes_stay}

module _ (p : Plain) (valid : p.void ≡ false) (d : Disks) (up : Up p (serving p.chunk (table_of p)) d) where
  stand : Stands p.size p.chunk (table_of p) d.cow
  stand = up.stands valid

  -- GOOD

  module _ (w : Disk) (run : Runs one (spoiling (sectors p.chunk)) d.cow (good tt) w) (on : w.on ≡ true) (whole : Wholes (with_side cow d w)) where
    spoiled_now : Spoiled p.size w
    spoiled_now m ch =
        let s = stored_good run in
        let head = header false (sectors p.chunk) in
        let read : image w 0 ≡ head = ap (λ y. image y 0) s.1 ∙ put_here d.cow 0 head s.0 in
        invalid_opens p.size p.chunk m stand.listed.shape (sym (settled_single (put d.cow 0 head s.0) 0 (m 0) s.1 (ch 0)) ∙ read)

    resized : sizes (with_side cow d w) ≡ p.size
    resized = (λ i. record { origin = d.origin.count; cow = count_stays run i }) ∙ up.agrees.sectors

    void_up : Up (voided p) invalid (with_side cow d w)
    void_up = record {
      memory = refl;
      whole = whole;
      agrees = record {
        on = and_from _ _ (and_parts d.origin.on d.cow.on up.agrees.on).0 on;
        sectors = resized;
        origin = up.agrees.origin;
        opens = λ v. absurd (true≢false v);
        view = λ v. absurd (true≢false v);
        spoiled = λ v. ap (λ z. found z (image w)) resized ∙ spoiled_now (image w) (image_chosen w);
      };
      covers = record { sectors = resized; origin = up.covers.origin; shared = λ v. absurd (true≢false v); valid = λ v. absurd (true≢false v); spoiled = λ v. spoiled_now };
      stands = λ v. absurd (true≢false v);
    }

  -- BROKEN OFF

  module _ (w : Disk) (t : Told Refusal (Unit {0})) (run : Runs one (spoiling (sectors p.chunk)) d.cow t w) (e : Disks) (cut : CutBoth (with_side cow d w) e) where
    keeps : DataKept (sectors p.chunk) d.cow w
    keeps = quiet_keeps (sectors p.chunk) _ t d.cow w (spoiling_quiet (sectors p.chunk) (sectors_within p.chunk).0) run

    cut_sizes : sizes e ≡ p.size
    cut_sizes = (λ i. record { origin = cut.origin.same_count i; cow = (cut.cow.same_count ∙ count_stays run) i }) ∙ up.agrees.sectors

    cut_origin : (u : ℕ) (b : Bytes) → u < p.size.origin → Has (possibilities (e.origin.cells u)) b → Has (possibilities (p.origin u)) b
    cut_origin u b l has = up.covers.origin u b l ((cut_fewer cut.origin).possible u b has)

    still_valid : Lies p.size p.chunk (table_of p) (image e.cow) → Covers p e
    still_valid lies = record {
      sectors = cut_sizes;
      origin = cut_origin;
      shared = up.covers.shared;
      valid = λ v. record {
        listed = stand.listed;
        lists = λ m ch. subst (Lies p.size p.chunk (table_of p)) (sym (single_choice e.cow cut.cow.single m ch)) lies;
        copies = λ u x b l is has.
            let data_sector = in_copy_data p.chunk x u (listed_lookup p.size p.chunk (table_of p) stand.listed (chunk_of p u) x is).1 in
            (up.covers.valid valid).copies u x b l is (keeps.possible _ b data_sector ((cut_fewer cut.cow).possible _ b has));
      };
      spoiled = λ v. absurd (true≢false (sym v ∙ valid));
    }

    void_now : found p.size (image e.cow) ≡ refused (because 6 0 0) → Covers (voided p) e
    void_now is = record {
      sectors = cut_sizes;
      origin = cut_origin;
      shared = λ v. absurd (true≢false v);
      valid = λ v. absurd (true≢false v);
      spoiled = λ v m ch. ap (found p.size) (single_choice e.cow cut.cow.single m ch) ∙ is;
    }

    spoils_survive : Covers p e ⊎ Covers (voided p) e
    spoils_survive = ⊎_elim (λ lies. inl (still_valid lies)) (λ is. inr (void_now is)) (spoiling_leaves standing_lies p.size p.chunk (table_of p) d.cow w e.cow t stand run cut.cow)

  -- the view is void; or a device went, and then it is or is not
  pub spoils : {t : Told Fault (Unit {0})} {e : Disks} → Runs both (at_side cow (spoiling (sectors p.chunk))) d t e → Turned p (voided p) invalid tt t e
  spoils {t} {e} r = by (fares (spoiling_fair d.cow.count p.chunk up.whole.cow.some) ((alive p d _ up).long cow) ((alive p d _ up).on cow) a.ran)
    where
      a : At Refusal (Unit {0}) cow (spoiling (sectors p.chunk)) (passed_up cow) d t e
      a = at_one cow (spoiling (sectors p.chunk)) r

      by : Fared a.answer a.disk → Turned p (voided p) invalid tt t e
      by (fine tt is on long) =
          turned (a.told ∙ ap (raised (passed_up cow)) is)
          (subst (Up (voided p) invalid) (sym a.left) (void_up a.disk (subst (λ u. Runs one (spoiling (sectors p.chunk)) d.cow u a.disk) is a.ran) on (subst Wholes a.left (wholes_stay r up.whole))))
      by (lost q is off) = turned_off (went_off cow d a.disk q a.told a.left is off) (λ x cut. spoils_survive a.disk a.answer a.ran x (subst (λ y. CutBoth y x) a.left cut))
