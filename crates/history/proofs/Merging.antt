-- What a merge step leaves.
use Rattle.std.proofs.Common.{◌≡◌, ℕ, zero, suc, ◌-◌, ◌<◌, ◌≤◌, true, false, List, [], ◌∷◌, ◌++◌, map, length, take, drop, Some, None, Option, sym, refl, ap, ◌∙◌, subst, inl, inr, ⊎_elim, arith}
use lib.ListN.{length-map}
use Rattle.std.specs.List.{ContainsAt as Has}
use Rattle.std.proofs.ByRecursion.{has_push, has_append_left}
use Rattle.std.proofs.lemmas.List.{drop_all, take_all, get_or-map, length-take-le}
use Rattle.std.proofs.lemmas.Bool.{both_ways, cases_Bool, cases_lt, and_from}
use Rattle.device.specs.Disk.{Bytes, Disk, possibilities, settled, flushes, Told, good, refused, Refusal, Cut}
use Rattle.device.specs.Plans.{Plan, done, Runs, one, both, Side, origin, Disks, pair, with_side, then}
use Rattle.device.proofs.Possible.{last_has}
use Rattle.device.specs.Sectors.{only}
use Rattle.device.proofs.Uses.{Went, went_on as passed, left_in, was_refused, went, over as run_over}
use Rattle.layout.specs.declared.chunk.ChunkSize.{ChunkSize}
use Rattle.layout.specs.declared.exception.Exception.{Exception}
use Rattle.layout.specs.Chunks.{sectors, in_copy}
use Rattle.exceptions.specs.Table.{lookup, the_run, without_run}
use Rattle.store.specs.Refusals.{StoreSteps}
use Rattle.store.specs.Steps.{drop_run}
use Rattle.recovery.specs.Data.{IsData, DataKept}
use Rattle.recovery.specs.Readings.{image}
use Rattle.recovery.specs.Standing.{Stands, Lies}
use Rattle.store.specs.Steps.{only_call}
use Rattle.history.specs.Faults.{Fault, passed_up, Moves, flush, in_store}
use Rattle.history.specs.Steps.{sizes, both_on, Memory, closed, serving, invalid, Outcome, giving, guarded, copying_back, Merged, merged_by, run_merging, step_merging, merging_step, step_tests, merge_step, ground}
use Rattle.history.specs.History.{Situation, step_merge, merged, replied, told_merged, Happens}
use Rattle.history.specs.Machine.{Plain, has_chunk, chunk_of, table_of, run_length, merged_partly, up_to, broken_off}
use Rattle.history.proofs.Backs.{Copied, May, Copying, copied_all, copied_off, run_back}
use Rattle.history.proofs.Droppings.{Dropped, drops_good, drops_off, drops}
use Rattle.history.proofs.Ends.{Up, Down, Ends, good_end, off_end, down_by}
use Rattle.history.proofs.Invariant.{Wholes, Fewer, fewer_chosen, cut_fewer}
use Rattle.history.proofs.Partly.{table_length, run_few, among_last, none_last, Back, left_in_run, CopiesKept, partly_covers, WholeRun, partly_up}
use Rattle.history.proofs.Sides.{WentOff, live_origin, flushes_side, asked_then, off_as}
use Rattle.history.proofs.Splits.{Then, stopped, went_on, After, then_parts, after_parts, At, at_one, at_store, called_parts}
use Rattle.history.proofs.Standings.{stands_lists, in_copy_data, single_choice}
use Rattle.history.proofs.Tables.{listed_lookup}
use Rattle.history.proofs.Wholes.{wholes_stay, sizes_stay}

-- WHERE IT MAY BREAK OFF

has_map : {X Y : Type 0} (f : X → Y) (xs : List X) (x : X) → Has xs x → Has (map f xs) (f x)
has_map f xs x h = (h.0, subst (λ n. h.0 < n) (sym (length-map xs f)) h.1, λ y. get_or-map f xs h.0 x y h.1 ∙ ap f (h.2 x))

has_up_to : (n j : ℕ) → j ≤ n → Has (up_to n) j
has_up_to zero j h = subst (Has (0 ∷ [])) (let z : 0 ≡ j = omega arith in z) (has_push [] 0)
has_up_to (suc n) j h =
    ⊎_elim
    (λ l. has_append_left (up_to n) (suc n ∷ []) j (has_up_to n j (omega arith)))
    (λ g. subst (Has (up_to n ++ (suc n ∷ []))) (let z : suc n ≡ j = omega arith in z) (has_push (up_to n) (suc n)))
    (cases_lt j (suc n))

-- each number of chunks of the run may have left
left_among : (p : Plain) (k j : ℕ) → j ≤ run_length p → Has (broken_off p (step_merge k)) (merged_partly (run_length p) j p)
left_among p k j h = has_map (λ i. merged_partly (run_length p) i p) (up_to (run_length p)) j (has_up_to (run_length p) j h)

module _ (p : Plain) (d : Disks) (k : ℕ) (v : p.void ≡ false) (up : Up p (serving p.chunk (table_of p)) d) where
  abbrev c : ℕ
  c = sectors p.chunk

  abbrev r : ℕ
  r = run_length p

  abbrev left : ℕ
  left = length p.diverged - r

  -- the exceptions that stay
  abbrev kept : List Exception
  kept = take left (table_of p)

  kept_is : without_run c (table_of p) ≡ kept
  kept_is = ap (λ n. take (n - r) (table_of p)) (table_length p)

  -- a device went while chunks were copied back, or in the flush after
  off_early : {e : Disks} → Wholes e → sizes e ≡ p.size → both_on e ≡ false → Fewer d.cow e.cow → May p (drop left p.diverged) e.origin → Down p (step_merge k) e
  off_early {e} whole size gone few may = down_by (merged_partly r 0 p) whole size gone (left_among p k 0 (omega arith)) (partly_covers p r 0 d e (omega arith) (run_few p) v up.covers (record {
    sectors = size;
    origin = λ s b l has. ⊎_elim (λ h. inl (none_last p s, h)) inr (may s b l has);
    copies = λ s q b is has. few.possible _ b has;
    lists = λ m ch.
        let all : take (length p.diverged - 0) (table_of p) ≡ table_of p = take_all (length p.diverged - 0) (table_of p) (let same = table_length p in omega arith) in
        subst (λ es. Lies p.size p.chunk es m) (sym all) ((up.covers.valid v).lists m (fewer_chosen m few ch));
  }))

  -- THE RUN LEAVES

  -- all chunks of the run are copied back, and the origin is flushed
  module _ {m : Disks} (before : Copied p (drop left p.diverged) d m) (w : Disk) (keeps : DataKept c m.cow w) where
    abbrev end : Disks
    end = pair (settled m.origin) w

    origin_back : (j : ℕ) → j ≤ r → (s : ℕ) (b : Bytes) → s < p.size.origin → Has (possibilities (end.origin.cells s)) b → Back p r j s b
    origin_back j part s b l has =
        let is = only has in
        ⊎_elim
        (λ g. inr (g, sym (before.back s l g) ∙ is))
        (λ g. inl (left_in_run p r j part (run_few p) s g, subst (Has (possibilities (p.origin s))) (sym (before.same s l g) ∙ is) (last_has (p.origin s))))
        (cases_Bool (among_last p r s))

    data_at : (s q : ℕ) → lookup (table_of p) (chunk_of p s) ≡ Some q → IsData c (in_copy c q s)
    data_at s q is = in_copy_data p.chunk q s (listed_lookup p.size p.chunk (table_of p) (up.covers.valid v).listed (chunk_of p s) q is).1

    copies_kept : CopiesKept p d.cow w
    copies_kept s q b is has = subst (λ y. Has (possibilities (y.cells (in_copy c q s))) b) before.cow (keeps.possible (in_copy c q s) b (data_at s q is) has)

    -- the drop was good
    ran_all : sizes end ≡ p.size → w.on ≡ true → Stands p.size p.chunk kept w → WholeRun p r d end
    ran_all size on stands = record {
      far = record { sectors = size; origin = origin_back r (omega arith); copies = copies_kept; lists = λ m ch. stands_lists p.size p.chunk kept w stands m ch };
      on = and_from _ _ (before.live.on origin) on;
      back = before.back;
      same = before.same;
      reads = λ s q is. keeps.reads (in_copy c q s) (data_at s q is) on ∙ ap (λ y. image y (in_copy c q s)) before.cow;
      stands = stands;
    }

    -- a device went in it
    off_late : Wholes end → sizes end ≡ p.size → both_on end ≡ false → ((after : Disk) → Cut w after → (i : ℕ) × (length (table_of p) - r ≤ i) × (i ≤ length (table_of p)) × Lies p.size p.chunk (take i (table_of p)) (image after)) → Down p (step_merge k) end
    off_late whole size gone breaks = record {
      whole = whole;
      sectors = size;
      gone = gone;
      survives = λ e cut.
          let x = breaks e.cow cut.cow in
          let i = x.0 in
          let long = table_length p in
          let n = length p.diverged in
          let part : n - i ≤ r = omega (arith, x.1) in
          let back : n - (n - i) ≡ i = omega (arith, x.2) in (
            merged_partly r (n - i) p,
            left_among p k (n - i) part,
            partly_covers p r (n - i) d e part (run_few p) v up.covers (record {
              sectors = (λ j. record { origin = cut.origin.same_count j; cow = cut.cow.same_count j }) ∙ size;
              origin = λ s b l has. origin_back (n - i) part s b l ((cut_fewer cut.origin).possible s b has);
              copies = λ s q b is has. copies_kept s q b is ((cut_fewer cut.cow).possible _ b has);
              lists = λ m ch. subst (λ j. Lies p.size p.chunk (take j (table_of p)) m) (sym back) (subst (Lies p.size p.chunk (take i (table_of p))) (sym (single_choice e.cow cut.cow.single m ch)) x.3);
            }),
          );
    }

  -- THE STEPS

  -- what the steps come to: the run is merged, or a device went
  data Came (t : Told Fault (List Exception)) (e : Disks) : Type 0 where
    came_all : t ≡ good kept → WholeRun p r d e → Came t e
    came_off : WentOff t e → Down p (step_merge k) e → Came t e

  module _ (some : 0 < length (table_of p)) {t : Told Fault (List Exception)} {e : Disks} (whole : Wholes e) (size : sizes e ≡ p.size) where
    -- the run leaves the list
    drop_comes : {m : Disks} → Copied p (drop left p.diverged) d m → Runs both (in_store (drop_run c (table_of p))) (with_side origin m (settled m.origin)) t e → Came t e
    drop_comes {m} before q = by (drops p.size p.chunk (table_of p) some (sym (ap (λ z. z.cow) before.size)) (live_origin (settled m.origin) before.live (before.live.on origin) (before.live.long origin)) (subst (Stands p.size p.chunk (table_of p)) (sym before.cow) (up.stands v)) q)
      where
        flushed : Disks
        flushed = with_side origin m (settled m.origin)

        by : Dropped p.size p.chunk (table_of p) flushed t e → Came t e
        by (drops_good w is same on stands keeps) =
            came_all (is ∙ ap good kept_is) (subst (WholeRun p r d) (sym same) (ran_all before w keeps (subst (λ y. sizes y ≡ p.size) same size) on (subst (λ es. Stands p.size p.chunk es w) kept_is stands)))
        by (drops_off w off same keeps breaks) =
            came_off off (subst (Down p (step_merge k)) (sym same) (off_late before w keeps (subst Wholes same whole) (subst (λ y. sizes y ≡ p.size) same size) (subst (λ y. both_on y ≡ false) same off.gone) breaks))

    -- before that the origin is flushed
    flush_comes : {m : Disks} → Copied p (drop left p.diverged) d m → Runs both (then (flush origin) (λ _. in_store (drop_run c (table_of p)))) m t e → Came t e
    flush_comes before q =
        ⊎_elim
        (λ x. came_off x.0 (off_early whole size x.0.gone (subst (λ y. Fewer y e.cow) before.cow x.1.cow) (λ s b l has. before.possible s b l (x.1.origin.possible s b has))))
        (drop_comes before)
        (asked_then (flush origin) (λ _. in_store (drop_run c (table_of p))) (λ u y z. flushes_side origin before.live z) q)

    -- and before that the run is copied back
    steps_come : Runs both (then (copying_back (ground d) p.chunk (the_run c (table_of p))) (λ _. then (flush origin) (λ _. in_store (drop_run c (table_of p))))) d t e → Came t e
    steps_come q = by (then_parts (copying_back (ground d) p.chunk (the_run c (table_of p))) (λ _. then (flush origin) (λ _. in_store (drop_run c (table_of p)))) q)
      where
        ended : (f : Fault) → t ≡ refused f → Copying p (drop left p.diverged) d (refused f) e → Came t e
        ended f is (copied_all wrong x) = cc
        ended f is (copied_off off few may) = came_off (off_as is off) (off_early whole size off.gone few may)

        goes : (mid : Disks) → Runs both (then (flush origin) (λ _. in_store (drop_run c (table_of p)))) mid t e → Copying p (drop left p.diverged) d (good tt) mid → Came t e
        goes mid rest (copied_all is x) = flush_comes x rest
        goes mid rest (copied_off off few may) = cc

        by : Then (copying_back (ground d) p.chunk (the_run c (table_of p))) (λ _. then (flush origin) (λ _. in_store (drop_run c (table_of p)))) d t e → Came t e
        by (stopped f z is) = ended f is (run_back p d v up z)
        by (went_on (tt) mid z rest) = goes mid rest (run_back p d v up z)

  -- no chunk has diverged: nothing is merged
  kept_all : table_of p ≡ [] → kept ≡ table_of p
  kept_all is = take_all left (table_of p) (omega (arith, ap length is))

  nothing_left : table_of p ≡ [] → WholeRun p r d d
  nothing_left is =
      let none : length p.diverged ≡ 0 = sym (table_length p) ∙ ap length is in
      let out : (s : ℕ) → among_last p r s ≡ false = λ s. ap (λ l. has_chunk l (chunk_of p s)) (drop_all left p.diverged (omega arith)) in
      let stands : Stands p.size p.chunk kept d.cow = subst (λ es. Stands p.size p.chunk es d.cow) (sym (kept_all is)) (up.stands v) in
      record {
        far = record { sectors = up.agrees.sectors; origin = λ s b l has. inl (out s, up.covers.origin s b l has); copies = λ s q b is has. has; lists = stands_lists p.size p.chunk kept d.cow stands };
        on = up.agrees.on;
        back = λ s l g. absurd (both_ways _ (out s) g);
        same = λ s l g. up.agrees.origin s l;
        reads = λ s q is. refl;
        stands = stands;
      }

  -- THE CALL

  -- what a good step answers
  told_is : replied told_merged (good (merged_by p.chunk (table_of p))) ≡ good (merged r left)
  told_is = ap (λ n. good (merged r n)) (ap length kept_is ∙ length-take-le left (table_of p) (let same = table_length p in omega arith))

  good_step : {o : Outcome Merged} {e : Disks} → o ≡ record { answer = good (merged_by p.chunk (table_of p)); memory = serving p.chunk kept } → Wholes e → WholeRun p r d e → Ends p (step_merge k) (good (merged r left)) (replied told_merged o.answer) o.memory e
  good_step {o} {e} is whole x =
      let answer = ap (λ y. replied told_merged y.answer) is ∙ told_is in
      good_end (merged r left) answer answer (partly_up p r d e (run_few p) v up.agrees up.covers x o.memory whole (ap (λ y. y.memory) is))

  merge_ends : (o : Outcome Merged) (e : Disks) (es : List Exception) → table_of p ≡ es → Runs both (step_merging (ground d) p.chunk es) d o e → Ends p (step_merge k) (good (merged r left)) (replied told_merged o.answer) o.memory e
  merge_ends o e [] is q =
      let y = run_over q in
      let same : serving p.chunk [] ≡ serving p.chunk kept = ap (serving p.chunk) (sym is ∙ sym (kept_all is)) in
      good_step (y.0 ∙ (λ i. record { answer = good (merged_by p.chunk (sym is i)); memory = same i })) (wholes_stay q up.whole) (subst (WholeRun p r d) (sym y.1) (nothing_left is))
  merge_ends o e (x ∷ xs) is q = by (after_parts (serving p.chunk (table_of p)) steps gives (subst (λ l. Runs both (run_merging (ground d) p.chunk l) d o e) (sym is) q))
    where
      steps : Moves (List Exception)
      steps = then (copying_back (ground d) p.chunk (the_run c (table_of p))) (λ _. then (flush origin) (λ _. in_store (drop_run c (table_of p))))

      gives : List Exception → Plan Side (Outcome Merged)
      gives l = giving (serving p.chunk l) (merged_by p.chunk (table_of p))

      some : 0 < length (table_of p)
      some = subst (λ l. 0 < length l) (sym is) (omega arith)

      comes : {t : Told Fault (List Exception)} {y : Disks} → Runs both steps d t y → Came t y
      comes z = steps_come some (wholes_stay z up.whole) (sizes_stay z ∙ up.agrees.sectors) z

      ended : (f : Fault) → o ≡ record { answer = refused f; memory = serving p.chunk (table_of p) } → Came (refused f) e → Ends p (step_merge k) (good (merged r left)) (replied told_merged o.answer) o.memory e
      ended f o_is (came_all wrong x) = cc
      ended f o_is (came_off off down) =
          let h = off.told in
          let same : f ≡ off.fault = cc in
          off_end f (ap (λ y. replied told_merged y.answer) o_is) (ap (λ y. y.number) same ∙ off.number) down

      goes : (l : List Exception) (mid : Disks) → Runs both (gives l) mid o e → Came (good l) mid → Wholes mid → Ends p (step_merge k) (good (merged r left)) (replied told_merged o.answer) o.memory e
      goes l mid rest (came_all same x) whole =
          let y = run_over rest in
          let list : l ≡ kept = cc in
          good_step (y.0 ∙ ap (λ es. record { answer = good (merged_by p.chunk (table_of p)); memory = serving p.chunk es }) list) (subst Wholes (sym y.1) whole) (subst (WholeRun p r d) (sym y.1) x)
      goes l mid rest (came_off off down) whole = cc

      by : After (serving p.chunk (table_of p)) steps gives d o e → Ends p (step_merge k) (good (merged r left)) (replied told_merged o.answer) o.memory e
      by (stopped f z o_is) = ended f o_is (comes z)
      by (went_on l mid z rest) = goes l mid rest (comes z) (wholes_stay z up.whole)

-- a merge step that no test refused
pub core_step_merge : (p : Plain) (d : Disks) (k : ℕ) → p.void ≡ false → Up p (serving p.chunk (table_of p)) d → (o : Outcome Merged) (e : Disks) → Runs both (step_merging (ground d) p.chunk (table_of p)) d o e → Ends p (step_merge k) (good (merged (run_length p) (length p.diverged - run_length p))) (replied told_merged o.answer) o.memory e
core_step_merge p d k v up o e q = merge_ends p d k v up o e (table_of p) refl q

-- GOOD STEPS FLUSH

-- each sector has one possibility
abbrev Single : Disk → Type 0
Single o = (s : ℕ) → (o.cells s).older ≡ []

-- a good flush, then steps on the COW device
flush_single : {A : Type 0} (q : StoreSteps A) {d e : Disks} {x : A} → Runs both (then (flush origin) (λ _. in_store q)) d (good x) e → Single e.origin
flush_single {A} q {d} {e} {x} z = by (then_parts (flush origin) (λ _. in_store q) z)
  where
    settles : {b : Bytes} {mid : Disks} (a : At Refusal Bytes origin (only_call flushes) (passed_up origin) d (good b) mid) → Went {B = Bytes} one tt flushes (λ b. done (good b)) d.origin a.answer a.disk → Single mid.origin
    settles a (passed f is y) s = ap (λ u. (u.origin.cells s).older) a.left ∙ ap (λ u. (u.cells s).older) (run_over y).1
    settles a (left_in f is y u) s = cc a.told
    settles a (was_refused f m n is y u) s = cc a.told

    by : Then (flush origin) (λ _. in_store q) d (good x) e → Single e.origin
    by (stopped f y is) = cc
    by (went_on b mid y rest) =
        let a = at_one origin (only_call flushes) y in
        λ s. ap (λ u. (u.origin.cells s).older) (at_store q rest).left ∙ settles a (went a.ran) s

module _ (o : Outcome Merged) (d e : Disks) (r : ℕ) (some : 0 < r) (is : good (merged r 0) ≡ replied told_merged o.answer) where
  wrong : {X : Type 0} {f : Fault} {m : Memory} → o ≡ record { answer = refused f; memory = m } → X
  wrong o_is = cc (ap (λ y. replied told_merged y.answer) o_is)

  steps_flush : (size : ChunkSize) (es : List Exception) → Runs both (run_merging (ground d) size es) d o e → Single e.origin
  steps_flush size es q = by (after_parts (serving size es) steps gives q)
    where
      c : ℕ
      c = sectors size

      rest : Moves (List Exception)
      rest = then (flush origin) (λ _. in_store (drop_run c es))

      steps : Moves (List Exception)
      steps = then (copying_back (ground d) size (the_run c es)) (λ _. rest)

      gives : List Exception → Plan Side (Outcome Merged)
      gives l = giving (serving size l) (merged_by size es)

      good_steps : {l : List Exception} {mid : Disks} → Then (copying_back (ground d) size (the_run c es)) (λ _. rest) d (good l) mid → Single mid.origin
      good_steps (stopped f z is) = cc
      good_steps (went_on u mid z y) = flush_single (drop_run c es) y

      by : After (serving size es) steps gives d o e → Single e.origin
      by (stopped f z o_is) = wrong o_is
      by (went_on l mid z y) = subst (λ u. Single u.origin) (sym (run_over y).1) (good_steps (then_parts (copying_back (ground d) size (the_run c es)) (λ _. rest) z))

  memory_flushes : (m : Memory) → Runs both (merging_step (ground d) m) d o e → Single e.origin
  memory_flushes closed q = wrong (run_over q).0
  memory_flushes invalid q = wrong (run_over q).0
  memory_flushes (serving size []) q = absurd (let h = is ∙ ap (λ y. replied told_merged y.answer) (run_over q).0 in let z : r ≡ 0 = cc in omega arith)
  memory_flushes (serving size (x ∷ xs)) q = steps_flush size (x ∷ xs) q

  tested_flushes : (m : Memory) (t : Option Fault) → Runs both (guarded m t (merging_step (ground d) m)) d o e → Single e.origin
  tested_flushes m None q = memory_flushes m q
  tested_flushes m (Some f) q = wrong (run_over q).0

-- a good merge step that merged something has flushed the origin
pub merge_flushes : (w after : Situation) (k r : ℕ) → Happens w (step_merge k) (good (merged r 0)) after → 0 < r → (s : ℕ) → (after.disks.origin.cells s).older ≡ []
merge_flushes w after k r h some =
    let x = called_parts told_merged w.mode (merge_step (ground w.disks) w.memory k) h.ran in
    tested_flushes x.outcome w.disks after.disks r some (ap (λ y. y.answer) x.result) w.memory (step_tests (ground w.disks) w.memory k) x.ran
