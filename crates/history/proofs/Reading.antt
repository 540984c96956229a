-- Reads and flushes of an open pair.
use Rattle.std.proofs.Common.{◌≡◌, ℕ, ◌/◌, ◌<◌, false, [], ◌∷◌, Some, None, Option, sym, refl, ap, ◌∙◌, subst, mod-lt, arith}
use Rattle.std.specs.List.{ContainsAt as Has}
use Rattle.std.proofs.ByRecursion.{has_push}
use Rattle.device.specs.Disk.{Bytes, reads, settled, Told, good, refused}
use Rattle.device.specs.Plans.{Runs, both, Side, origin, cow, Disks, side, then}
use Rattle.device.specs.Sectors.{only as only_one}
use Rattle.device.proofs.Uses.{over as run_over}
use Rattle.layout.specs.declared.chunk.ChunkSize.{ChunkSize}
use Rattle.layout.specs.Chunks.{sectors, in_copy}
use Rattle.exceptions.specs.Table.{lookup}
use Rattle.recovery.specs.Readings.{image}
use Rattle.recovery.specs.Standing.{Stands}
use Rattle.recovery.proofs.Finds.{sectors_within}
use Rattle.history.specs.Faults.{Fault, Moves, read, flush}
use Rattle.history.specs.Steps.{sizes, both_on, Memory, serving, ground, Outcome, giving, after, spot, view_steps, view_reading}
use Rattle.history.specs.History.{Call, read_origin, read_view, flush_all, Reply, nothing, contents, replied}
use Rattle.history.specs.Machine.{Plain, table_of, chunk_of, performed, flushed, broken_off}
use Rattle.history.proofs.Ends.{Up, Down, Ends, good_end, off_end, down_by}
use Rattle.history.proofs.Fairs.{chunk_on}
use Rattle.history.proofs.Invariant.{Copies, Covers, Wholes, covers_fewer, fewer_chosen}
use Rattle.history.proofs.Sides.{Live, live, FewerBoth, AskedBoth, both_good, both_off, reads_side, rested, settled_fewer, flushes_both}
use Rattle.history.proofs.Splits.{After, stopped, went_on, after_parts}
use Rattle.history.proofs.Spots.{reads_origin, reads_copy}
use Rattle.history.proofs.Tables.{listed_lookup}
use Rattle.history.proofs.Through.{at_copy}
use Rattle.store.specs.Steps.{only_call}
use Rattle.history.proofs.Wholes.{wholes_stay, sizes_stay}

-- a sector of a chunk that is on a device
pub in_copy_on : (size : ChunkSize) (n k s : ℕ) → k < n / sectors size → in_copy (sectors size) k s < n
in_copy_on size n k s h =
    let low = mod-lt s (sectors_within size).0 in
    let whole = chunk_on size n k h in
    omega arith

module _ (p : Plain) (d : Disks) (m : Memory) (up : Up p m d) where
  pub alive : Live d
  alive = live up.agrees.on up.whole

  -- a device went inside a call that wrote nothing
  pub lost_nothing : {c : Call} {e : Disks} → Has (broken_off p c) p → Wholes e → sizes e ≡ sizes d → both_on e ≡ false → FewerBoth d e → Down p c e
  lost_nothing among whole same off few = down_by p whole (same ∙ up.agrees.sectors) off among (covers_fewer up.covers few.origin few.cow)

  -- a call of steps that write nothing
  module _ {A : Type 0} (f : A → Reply) (give : Bytes → A) (c : Call) (among : Has (broken_off p c) p) (steps : Moves Bytes) (want : Bytes) (n : Disks) (asks : (u : Told Fault Bytes) (y : Disks) → Runs both steps d u y → AskedBoth d want n u y) (up_then : Wholes n → Up (performed p c) m n) (o : Outcome A) (e : Disks) (r : Runs both (after m steps (λ b. giving m (give b))) d o e) where
    asked_ends : Ends p c (good (f (give want))) (replied f o.answer) o.memory e
    asked_ends = by (after_parts m steps (λ b. giving m (give b)) r)
      where
        off_by : (g : Fault) → o ≡ record { answer = refused g; memory = m } → AskedBoth d want n (refused g) e → Ends p c (good (f (give want))) (replied f o.answer) o.memory e
        off_by g is (both_good t y) = cc
        off_by g is (both_off w few) =
            let same : g ≡ w.fault = let h = w.told in cc in
            off_end g (ap (λ y. replied f y.answer) is) (ap (λ y. y.number) same ∙ w.number) (lost_nothing among (wholes_stay r up.whole) (sizes_stay r) w.gone few)

        good_by : (b : Bytes) (mid : Disks) → Runs both (giving m (give b)) mid o e → AskedBoth d want n (good b) mid → Ends p c (good (f (give want))) (replied f o.answer) o.memory e
        good_by b mid rest (both_good t y) =
            let q = run_over rest in
            let bytes : b ≡ want = cc in
            let told : replied f o.answer ≡ good (f (give want)) = ap (λ y. replied f y.answer) q.0 ∙ ap (λ z. good (f (give z))) bytes in
            let end : e ≡ n = q.1 ∙ y in
            good_end _ told told (subst (λ z. Up (performed p c) z e) (sym (ap (λ y. y.memory) q.0)) (subst (Up (performed p c) m) (sym end) (up_then (subst Wholes end (wholes_stay r up.whole)))))
        good_by b mid rest (both_off w few) = cc

        by : After m steps (λ b. giving m (give b)) d o e → Ends p c (good (f (give want))) (replied f o.answer) o.memory e
        by (stopped g run is) = off_by g is (asks _ _ run)
        by (went_on b mid run rest) = good_by b mid rest (asks _ _ run)

  -- a read of one sector, and its bytes as the answer
  read_ends : (x : Side) (s : ℕ) (c : Call) → Has (broken_off p c) p → performed p c ≡ p → s < (side x d).count → (o : Outcome Bytes) (e : Disks) → Runs both (after m (read x s) (λ b. giving m b)) d o e → Ends p c (good (contents (image (side x d) s))) (replied contents o.answer) o.memory e
  read_ends x s c among same here o e r = asked_ends contents (λ b. b) c among (read x s) (image (side x d) s) d (λ u y z. reads_side x s alive here z) (λ _. subst (λ z. Up z m d) (sym same) up) o e r

pub core_read_origin : (p : Plain) (d : Disks) (m : Memory) (s n : ℕ) → Up p m d → s < p.size.origin → (o : Outcome Bytes) (e : Disks) → Runs both (after m (read origin s) (λ b. giving m b)) d o e → Ends p (read_origin s n) (good (contents (p.origin s).latest)) (replied contents o.answer) o.memory e
core_read_origin p d m s n up here o e r =
    subst (λ b. Ends p (read_origin s n) (good (contents b)) (replied contents o.answer) o.memory e) (up.agrees.origin s here)
    (read_ends p d m up origin s (read_origin s n) (has_push [] p) refl (subst (λ z. s < z.origin) (sym up.agrees.sectors) here) o e r)

pub core_read_view : (p : Plain) (d : Disks) (s n : ℕ) → p.void ≡ false → Up p (serving p.chunk (table_of p)) d → s < p.size.origin → (o : Outcome Bytes) (e : Disks) → Runs both (view_reading (ground d) (serving p.chunk (table_of p)) s) d o e → Ends p (read_view s n) (good (contents (p.view s).latest)) (replied contents o.answer) o.memory e
core_read_view p d s n valid up here o e r = by (lookup (table_of p) (chunk_of p s)) refl
  where
    mem : Memory
    mem = serving p.chunk (table_of p)

    listed : Copies p d.cow
    listed = up.covers.valid valid

    at_spot : (k : Option ℕ) → lookup (table_of p) (chunk_of p s) ≡ k → Runs both (after mem (view_steps (ground d) p.chunk s k) (λ b. giving mem b)) d o e
    at_spot k is = subst (λ k. Runs both (after mem (view_steps (ground d) p.chunk s k) (λ b. giving mem b)) d o e) is r

    by : (k : Option ℕ) → lookup (table_of p) (chunk_of p s) ≡ k → Ends p (read_view s n) (good (contents (p.view s).latest)) (replied contents o.answer) o.memory e
    by None is =
        subst (λ b. Ends p (read_view s n) (good (contents b)) (replied contents o.answer) o.memory e) (sym (reads_origin p s d is) ∙ up.agrees.view valid s here)
        (read_ends p d mem up origin s (read_view s n) (has_push [] p) refl (subst (λ z. s < z.origin) (sym up.agrees.sectors) here) o e
        (at_spot None is))
    by (Some k) is =
        let on : k < p.size.cow / sectors p.chunk = (listed_lookup p.size p.chunk (table_of p) listed.listed (chunk_of p s) k is).2 in
        let inside : in_copy (sectors p.chunk) k s < d.cow.count = subst (λ z. in_copy (sectors p.chunk) k s < z.cow) (sym up.agrees.sectors) (in_copy_on p.chunk p.size.cow k s on) in
        subst (λ b. Ends p (read_view s n) (good (contents b)) (replied contents o.answer) o.memory e) (sym (reads_copy p s d k is) ∙ up.agrees.view valid s here)
        (read_ends p d mem up cow (in_copy (sectors p.chunk) k s) (read_view s n) (has_push [] p) refl inside o e
        (subst (λ q. Runs both (after mem q (λ b. giving mem b)) d o e) (at_copy p.size p.chunk (table_of p) listed.listed d up.agrees.sectors (chunk_of p s) k is (only_call (reads 512 (in_copy (sectors p.chunk) k s)))) (at_spot (Some k) is)))

-- FLUSHES

rested_image : (d : Disks) (x : Side) (s : ℕ) → image (side x (rested d)) s ≡ image (side x d) s
rested_image d origin s = refl
rested_image d cow s = refl

module _ (p : Plain) (d : Disks) (m : Memory) (up : Up p m d) where
  flushed_covers : Covers (flushed p) (rested d)
  flushed_covers = record {
    sectors = up.covers.sectors;
    origin = λ s b l has. subst (Has ((p.origin s).latest ∷ [])) (sym (up.agrees.origin s l) ∙ only_one has) (has_push [] _);
    shared = λ v s l div. ap (λ k. record { older = []; latest = k.latest }) (up.covers.shared v s l div);
    valid = λ v.
        let k = up.covers.valid v in
        record {
          listed = k.listed;
          lists = λ i ch. k.lists i (fewer_chosen i (settled_fewer d.cow) ch);
          copies = λ s x b l is has. subst (Has ((p.view s).latest ∷ [])) (sym (up.agrees.view v s l) ∙ reads_copy p s d x is ∙ only_one has) (has_push [] _);
        };
    spoiled = λ v i ch. up.covers.spoiled v i (fewer_chosen i (settled_fewer d.cow) ch);
  }

  flushed_stands : p.void ≡ false → Stands p.size p.chunk (table_of p) (settled d.cow)
  flushed_stands v =
      let st = up.stands v in
      record { listed = st.listed; sectors = λ s b has. st.sectors s b ((settled_fewer d.cow).possible s b has); single = λ b has. only_one has }

  pub flushed_up : Wholes (rested d) → Up (flushed p) m (rested d)
  flushed_up whole = record {
    memory = up.memory;
    whole = whole;
    agrees = record { on = up.agrees.on; sectors = up.agrees.sectors; origin = up.agrees.origin; opens = up.agrees.opens; view = λ v s l. rested_image d (spot p.chunk (table_of p) s).side _ ∙ up.agrees.view v s l; spoiled = up.agrees.spoiled };
    covers = flushed_covers;
    stands = flushed_stands;
  }

pub core_flush : (p : Plain) (d : Disks) (m : Memory) → Up p m d → (o : Outcome (Unit {0})) (e : Disks) → Runs both (after m (then (flush origin) (λ _. flush cow)) (λ _. giving m tt)) d o e → Ends p flush_all (good nothing) (replied (λ _. nothing) o.answer) o.memory e
core_flush p d m up o e r =
    asked_ends p d m up (λ _. nothing) (λ _. tt {0}) flush_all (has_push [] p) (then (flush origin) (λ _. flush cow)) [] (rested d) (λ u y z. flushes_both (alive p d m up) z) (flushed_up p d m up) o e r
