-- A snapshot just made.
use Rattle.std.proofs.Common.{◌≡◌, ℕ, ◌/◌, ◌≤◌, true, [], ◌∷◌, Some, None, Option, sym, refl, ap, ◌∙◌, subst, inl}
use Rattle.std.specs.List.{ContainsAt as Has}
use Rattle.std.proofs.ByRecursion.{has_push}
use Rattle.std.proofs.lemmas.Bool.{and_from, and_parts, true≢false, leb-true, not-false}
use Rattle.device.specs.Disk.{Bytes, Disk, flushes, settled, Told, good, refused, Whole}
use Rattle.device.specs.Plans.{Plan, done, raised, Side, origin, cow, Disks, pair, Runs, one, both, then}
use Rattle.device.proofs.Possible.{last_has}
use Rattle.device.proofs.Uses.{Went, went_on, left_in, was_refused, went, over as run_over, not_good}
use Rattle.layout.specs.declared.chunk.ChunkSize.{ChunkSize}
use Rattle.layout.specs.Chunks.{sectors, chunk_size}
use Rattle.store.specs.Image.{well_shaped}
use Rattle.store.specs.Steps.{only_call, making}
use Rattle.recovery.specs.Readings.{image}
use Rattle.recovery.specs.Standing.{Stands}
use Rattle.recovery.proofs.Makes.{making_stands}
use Rattle.history.specs.Faults.{Fault, passed_up, flush, Moves, at_side}
use Rattle.history.specs.Steps.{Memory, plain, closed, serving, ground, sizes, both_on, Outcome, still_closed, guarded, shape, after, giving, make_sized, make_tests}
use Rattle.history.specs.History.{Situation, Made}
use Rattle.history.specs.Machine.{initial, made, Agrees}
use Rattle.history.proofs.Fair.{Fared, fine, lost, fares}
use Rattle.history.proofs.Fairs.{making_fair}
use Rattle.history.proofs.Invariant.{Covers, Wholes, On, single_is, image_chosen}
use Rattle.history.proofs.Refuses.{first_passed}
use Rattle.history.proofs.Refusing.{test_passed}
use Rattle.history.proofs.Splits.{After, Then, after_parts, then_parts, at_one}
use Rattle.history.proofs.Standings.{stands_lists}
use Rattle.history.proofs.Wholes.{wholes_stay, sizes_stay}

-- THE MACHINE

-- a pair on an origin that lasts, and an empty store
module _ (size : ChunkSize) (start : Situation) (whole : Wholes start.disks) (on : both_on start.disks ≡ true) (single : (s : ℕ) → (start.disks.origin.cells s).older ≡ []) (st : Stands (sizes start.disks) size [] start.disks.cow) where
  agrees : Agrees (initial size start.disks) start.disks
  agrees = record {
    on = on;
    sectors = refl;
    origin = λ s l. refl;
    opens = λ _. (stands_lists _ _ _ _ st (image start.disks.cow) (image_chosen start.disks.cow)).finds;
    view = λ _ s l. refl;
    spoiled = λ y. absurd (true≢false (sym y));
  }

  covers : Covers (initial size start.disks) start.disks
  covers = record {
    sectors = refl;
    origin = λ s b l has. subst (Has (image start.disks.origin s ∷ [])) (single_is (single s) has) (has_push [] _);
    shared = λ _ s l div. refl;
    valid = λ _. record {
      listed = st.listed;
      lists = stands_lists _ _ _ _ st;
      copies = λ s k b l is has. cc;
    };
    spoiled = λ y. absurd (true≢false (sym y));
  }

  starts_on : start.mode ≡ plain → start.memory ≡ serving size [] → On (made size start.disks) start
  starts_on mode memory = record {
    idle = refl;
    mode = mode;
    memory = memory;
    whole = whole;
    agrees = agrees;
    covers = covers;
    ready = λ _. inl st;
  }

-- THE RUN

-- a good run was refused by no test
passed : {A : Type 0} (m : Memory) (t : Option Fault) (p : Plan Side (Outcome A)) {d e : Disks} {a : A} {n : Memory} → Runs both (guarded m t p) d (record { answer = good a; memory = n }) e → (t ≡ None) × Runs both p d (record { answer = good a; memory = n }) e
passed m None p r = (refl, r)
passed {A} m (Some f) p {a = a} r = cc (ap (λ y. y.answer) (run_over r).0)

-- a good answer of steps at one device is good there
good_there : {F A : Type 0} (up : F → Fault) (t : Told F A) {a : A} → good a ≡ raised up t → t ≡ good a
good_there up (good b) h = let same : b ≡ _ = cc in ap good same
good_there up (refused f) h = cc

-- a good flush leaves one possibility a sector
flushed : {d e : Disk} {b : Bytes} → Runs one (only_call flushes) d (good b) e → e ≡ settled d
flushed {d} {e} {b} r = by (went r)
  where
    by : Went {B = Bytes} one tt flushes (λ b. done (good b)) d (good b) e → e ≡ settled d
    by (went_on f is q) = (run_over q).1
    by (left_in f is a y) = not_good a
    by (was_refused f n p is a y) = not_good a

-- what a good making did
record Did (size : ChunkSize) (d : Disks) (m : Memory) (e : Disks) : Type 0 where
  shaped : well_shaped (sizes d) (sectors size) ≡ true
  memory : m ≡ serving size []
  disk : Disk
  ran : Runs one (making (sectors size)) d.cow (good tt) disk
  left : e ≡ pair (settled d.origin) disk

-- a good answer, and what is remembered
abbrev well : Memory → Outcome (Unit {0})
well m = record { answer = good tt; memory = m }

-- the origin is flushed, then the store is made
abbrev pub steps : ChunkSize → Moves (Unit {0})
steps size = then (flush origin) (λ _. at_side cow (making (sectors size)))

-- and then the empty list is remembered
abbrev stepping : ChunkSize → Plan Side (Outcome (Unit {0}))
stepping size = after closed (steps size) (λ _. giving (serving size []) tt)

module _ (size : ChunkSize) (d : Disks) where
  -- the steps by the devices
  both_did : {a : Unit {0}} {e : Disks} → Runs both (steps size) d (good a) e → (w : Disk) × Runs one (making (sectors size)) d.cow (good tt) w × (e ≡ pair (settled d.origin) w)
  both_did {a} {e} r = by (then_parts (flush origin) (λ _. at_side cow (making (sectors size))) r)
    where
      by : Then (flush origin) (λ _. at_side cow (making (sectors size))) d (good a) e → (w : Disk) × Runs one (making (sectors size)) d.cow (good tt) w × (e ≡ pair (settled d.origin) w)
      by (Then.stopped f run is) = cc
      by (Then.went_on b mid run rest) =
          let x = at_one origin (only_call flushes) run in
          let y = at_one cow (making (sectors size)) rest in
          let settles = flushed (subst (λ t. Runs one (only_call flushes) d.origin t x.disk) (good_there (passed_up origin) x.answer x.told) x.ran) in
          let now : mid ≡ pair (settled d.origin) d.cow = x.left ∙ ap (λ o. pair o d.cow) settles in (
            y.disk,
            subst (λ o. Runs one (making (sectors size)) o.cow (good tt) y.disk) now (subst (λ t. Runs one (making (sectors size)) mid.cow t y.disk) (good_there (passed_up cow) y.answer y.told) y.ran),
            y.left ∙ ap (λ o. pair o.origin y.disk) now,
          )

  -- the call by its steps
  after_did : {m : Memory} {e : Disks} → Runs both (stepping size) d (well m) e → (m ≡ serving size []) × ((a : Unit {0}) × Runs both (steps size) d (good a) e)
  after_did {m} {e} r = by (after_parts closed (steps size) (λ _. giving (serving size []) tt) r)
    where
      by : After closed (steps size) (λ _. giving (serving size []) tt) d (well m) e → (m ≡ serving size []) × ((a : Unit {0}) × Runs both (steps size) d (good a) e)
      by (After.stopped f run is) = cc (ap (λ y. y.answer) is)
      by (After.went_on a mid run rest) =
          let o = run_over rest in
          (ap (λ y. y.memory) o.0, (a, subst (Runs both (steps size) d (good a)) (sym o.1) run))

  shape_did : {m : Memory} {e : Disks} → Runs both (make_sized (ground d) closed (Some size)) d (well m) e → Did size d m e
  shape_did r =
      let g = passed closed (shape (ground d) (sectors size)) (stepping size) r in
      let x = after_did g.1 in
      let y = both_did x.1.1 in
      record { shaped = not-false _ (test_passed _ _ g.0); memory = x.0; disk = y.0; ran = y.1; left = y.2 }

sized_did : (o : Option ChunkSize) (d : Disks) {m : Memory} {e : Disks} → Runs both (make_sized (ground d) closed o) d (well m) e → (size : ChunkSize) × (o ≡ Some size) × Did size d m e
sized_did None d r = cc (ap (λ y. y.answer) (run_over r).0)
sized_did (Some size) d r = (size, refl, shape_did size d r)

-- an empty store was made on a device that stays on
made_on : (size : ChunkSize) (d : Disk) (w : Disk) → Whole d → d.on ≡ true → 3 ≤ d.count / sectors size → Runs one (making (sectors size)) d (good tt) w → w.on ≡ true
made_on size d w whole on room r = by (fares (making_fair d.count size room) (λ s l. whole.long s _ l (last_has (d.cells s))) on r)
  where
    by : Fared {A = Unit {0}} (good tt) w → w.on ≡ true
    by (fine a is up long) = up
    by (lost p is off) = not_good is

pub starts : (c : ℕ) (d : Disks) (start : Situation) → Whole d.origin → Whole d.cow → Made c d start → (size : ChunkSize) × (chunk_size c ≡ Some size) × On (made size start.disks) start × ((s : ℕ) → image start.disks.origin s ≡ image d.origin s)
starts c d start wo wc m =
    let g = passed closed (make_tests (ground d) closed) (make_sized (ground d) closed (chunk_size c)) m.ran in
    let were = and_parts d.origin.on d.cow.on (not-false _ (first_passed _ _ (still_closed closed ∷ []) g.0)) in
    let x = sized_did (chunk_size c) d g.1 in
    let size = x.0 in
    let y = x.2 in
    let room = leb-true 3 _ (and_parts _ _ y.shaped).1 in
    let on = made_on size d.cow y.disk wc were.1 room y.ran in
    let same = sizes_stay m.ran in
    let st = making_stands (sizes d) size d.cow y.disk y.shaped y.ran in (
      size,
      x.1,
      starts_on size start
          (wholes_stay m.ran (record { origin = wo; cow = wc }))
          (subst (λ e. both_on e ≡ true) (sym y.left) (and_from d.origin.on y.disk.on were.0 on))
          (subst (λ e. (s : ℕ) → (e.origin.cells s).older ≡ []) (sym y.left) (λ s. refl))
          (subst (λ e. Stands (sizes e) size [] e.cow) (sym y.left) (subst (λ z. Stands z size [] y.disk) (sym same ∙ ap sizes y.left) st))
          m.pair y.memory,
      λ s. ap (λ e. image e.origin s) y.left,
    )
