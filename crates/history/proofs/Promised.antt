-- The promise, from what single steps do.
use Rattle.std.proofs.Common.{◌≡◌, ℕ, ◌-◌, ◌<◌, false, T, ◌⊎◌, [], ◌∷◌, length, take, is_some, Some, None, Option, sym, refl, ap, ◌∙◌, subst, inl, inr, ⊎_elim}
use Rattle.std.proofs.lemmas.Bool.{cases_Bool, both_ways, not-false, ltb-true, cond-false, cond_both}
use Rattle.device.specs.Disk.{Bytes, good}
use Rattle.recovery.specs.Readings.{image}
use Rattle.history.specs.Faults.{pair_fault}
use Rattle.history.specs.Steps.{both_on, work_bytes, closed, test, first, work_length, still_closed}
use Rattle.history.specs.History.{Situation, Call, read_view, step_merge, reopen, contents, merged, Answer, Happens, joined, PowerCut, refusal, under_way, ending, History}
use Rattle.history.specs.Machine.{Plain, Machine, only, has_chunk, chunk_of, diverged_at, run_length, settled_cell, performed, next, memory_of, ground_of, reply, unless_refused, Follows, went, told}
use Rattle.history.specs.Promise.{Owed, ViewKeeps, MergeCompletes, Reopens, OpensExactly, kind, found_full, full_by_machine, FullByMachine, StaysInvalid, Protected}
use Rattle.history.proofs.Invariant.{On, Inv, single_is}
use Rattle.history.proofs.Refusing.{test_passed, Reached, away, quiet, inside, reached}
use Rattle.history.proofs.Voids.{T_is, served, tests, valid_by, void_unserved, full_alike, not_full}
use Rattle.history.proofs.Histories.{idle_has, while_idle, still_same, Along, CallSteps, CutSteps, AgainSteps, MakingSteps, all_along}

-- GOOD ANSWERS

-- nothing is under way where the tests pass
idle_of : (o : Option Call) → is_some o ≡ false → o ≡ None
idle_of None is = refl
idle_of (Some c) is = absurd (both_ways _ is refl)

-- a read of the view that was answered
pub record Seen (m : Machine) (s : ℕ) (b : Bytes) : Type 0 where
  pub idle : m.pending ≡ None
  pub valid : m.plain.void ≡ false
  pub within : s < m.plain.size.origin
  pub is : (m.plain.view s).latest ≡ b

seen_by : (m : Machine) (s n : ℕ) (b : Bytes) → Follows m (read_view s n) (good (contents b)) → Seen m s b
seen_by m s n b follows =
    let x = served m (read_view s n) (contents b) follows in
    let ts = tests m (read_view s n) (contents b) x in
    let says = x.says in
    record {
      idle = idle_of m.pending (test_passed _ _ ts.1.0);
      valid = valid_by m ts.1.1.0 ts.1.1.1.0;
      within = ltb-true _ _ (not-false _ (test_passed _ _ ts.1.1.1.1.0));
      is = cc;
    }

-- a merge step that leaves nothing leaves no diverged chunk
merged_all : (m : Machine) (k r : ℕ) → Follows m (step_merge k) (good (merged r 0)) → (performed m.plain (step_merge k)).diverged ≡ []
merged_all m k r follows =
    let x = served m (step_merge k) (merged r 0) follows in
    let says = x.says in
    let none : 0 ≡ length m.plain.diverged - run_length m.plain = cc in
    ap (λ n. take n m.plain.diverged) (sym none)

-- a merge step leaves what the view reads
merge_reads : (m : Machine) (k s : ℕ) → ((performed m.plain (step_merge k)).view s).latest ≡ (m.plain.view s).latest
merge_reads m k s = cond_both _ (settled_cell (m.plain.view s)) (m.plain.view s) (λ x. x.latest ≡ (m.plain.view s).latest) (λ _. refl) (λ _. refl)

-- a fresh pair passes the tests of opening
opens : (m : Machine) → m.pending ≡ None → memory_of m ≡ closed → refusal (ground_of m) (memory_of m) m.mode (reopen work_bytes) ≡ None
opens m idle shut =
    ap (λ o. first (work_length work_bytes ∷ test (is_some o) (pair_fault 5) ∷ still_closed (memory_of m) ∷ [])) idle
    ∙ ap (λ k. first (still_closed k ∷ [])) shut

module _ (m₀ : Machine) (start : Situation) (step : CallSteps) (cut_step : CutSteps) (again : AgainSteps) (unmade : MakingSteps)
    (merge_flushes : (w after : Situation) (k r : ℕ) → Happens w (step_merge k) (good (merged r 0)) after → 0 < r → (s : ℕ) → (after.disks.origin.cells s).older ≡ [])
    (begins_on : On m₀ start) (begins_valid : m₀.plain.void ≡ false) (begins_as : (s : ℕ) → m₀.plain.view s ≡ only (image start.disks.origin s))
  where
    at_end : {w : Situation} (h : History start w) → Along m₀ h
    at_end h = all_along m₀ start step cut_step again unmade begins_on begins_valid begins_as h

    -- what a read of the view saw
    seen : {w after : Situation} (h : History start w) (s n : ℕ) (b : Bytes) → Happens w (read_view s n) (good (contents b)) after → Seen (at_end h).machine s b
    seen {w} {after} h s n b x = seen_by (at_end h).machine s n b (step (at_end h).machine w after _ _ (at_end h).inv x).0

    view_keeps : ViewKeeps start
    view_keeps w after h s n b x =
        let r = at_end h in
        let y = seen h s n b x in
        subst (Owed h s) y.is (r.kept.owed y.valid s y.within)

    merge_completes : MergeCompletes start
    merge_completes = record { reads = reads; lasts = lasts }
      where
        reads : (w after seeing : Situation) (h : History start w) (k r s : ℕ) (b : Bytes) → Happens w (step_merge k) (good (merged r 0)) after → Happens w (read_view s 512) (good (contents b)) seeing → image after.disks.origin s ≡ b
        reads w after seeing h k r s b x q =
            let m = (at_end h).machine in
            let y = seen h s 512 b q in
            let went = step m w after (step_merge k) (good (merged r 0)) (at_end h).inv x in
            let on = while_idle y.idle went.1 in
            let p = performed m.plain (step_merge k) in
            let apart : diverged_at p s ≡ false = ap (λ l. has_chunk l (chunk_of p s)) (merged_all m k r went.0) in
            on.agrees.origin s y.within ∙ ap (λ c. c.latest) (sym (on.covers.shared y.valid s y.within apart)) ∙ merge_reads m k s ∙ y.is

        lasts : (w after seeing later : Situation) (h : History start w) (k r s : ℕ) (b : Bytes) → Happens w (step_merge k) (good (merged r 0)) after → Happens w (read_view s 512) (good (contents b)) seeing → 0 < r → PowerCut after later → image later.disks.origin s ≡ b
        lasts w after seeing later h k r s b x q some cuts =
            sym (single_is (merge_flushes w after k r x some s) (cuts.origin.one_of s)) ∙ reads w after seeing h k r s b x q

    -- an opening of a fresh pair: a device goes inside it, or it answers what the machine says
    module _ (w after : Situation) (h : History start w) (a : Answer) (as_new : w ≡ joined w.disks) (runs : T (both_on w.disks)) (x : Happens w (reopen work_bytes) a after) where
      still_runs : On (at_end h).machine w
      still_runs = ⊎_elim (λ y. y) (λ y. absurd (both_ways _ y.gone (T_is _ runs))) (at_end h).inv

      opened_so : ((both_on after.disks ≡ false) × (ending a ≡ under_way)) ⊎ (a ≡ reply (at_end h).machine (reopen work_bytes))
      opened_so = go q.0 q.1
        where
          m : Machine
          m = (at_end h).machine

          q : Follows m (reopen work_bytes) a × Inv (next m (reopen work_bytes) (ending a)) after
          q = step m w after (reopen work_bytes) a (at_end h).inv x

          go : Follows m (reopen work_bytes) a → Inv (next m (reopen work_bytes) (ending a)) after → ((both_on after.disks ≡ false) × (ending a ≡ under_way)) ⊎ (a ≡ reply m (reopen work_bytes))
          go (told e) y = inr (e ∙ ap (λ o. unless_refused o (reply m (reopen work_bytes))) (opens m still_runs.idle (sym still_runs.memory ∙ ap (λ z. z.memory) as_new)))
          go (went e) (inr off) = inl (off.gone, e)
          go (went e) (inl on) =
              let idle = on.idle in
              let busy : (next m (reopen work_bytes) (ending a)).pending ≡ Some (reopen work_bytes) = ap (λ y. (next m (reopen work_bytes) y).pending) e in
              cc

    exactly : OpensExactly m₀ start
    exactly w after h a as_new runs x stay =
        ((at_end h).machine, (at_end h).simulates, ⊎_elim (λ y. absurd (both_ways _ y.0 (T_is _ stay))) (λ y. y) (opened_so w after h a as_new runs x))

    full : FullByMachine m₀ start
    full w after h c a x = ((at_end h).machine, (at_end h).simulates, go (reached x))
      where
        p : Plain
        p = (at_end h).machine.plain

        go : Reached w c a → found_full w (kind c) (ending a) ≡ full_by_machine p (kind c) (ending a)
        go (away is) = subst (λ e. found_full w (kind c) e ≡ full_by_machine p (kind c) e) (sym is) (not_full p w (kind c))
        go (quiet none is) = subst (λ k. found_full w k (ending a) ≡ full_by_machine p k (ending a)) (sym (still_same c none).0) refl
        go (inside passes runs) = full_alike (at_end h).machine w c (ending a) (⊎_elim (λ y. y) (λ y. absurd (both_ways _ y.gone runs)) (at_end h).inv) passes

    reopening : Reopens start
    reopening w after h a as_new runs x =
        let m = (at_end h).machine in
        let on = still_runs w after h a as_new runs x in
        let says = (at_end h).kept.says m.plain (idle_has m on) in
        ⊎_elim inl
        (λ is. inr (⊎_elim (λ void. inr (says.full void)) (λ valid. inl (is ∙ cond-false _ _ _ valid)) (cases_Bool m.plain.void)))
        (opened_so w after h a as_new runs x)

    stays_invalid : StaysInvalid start
    stays_invalid w after h c r invalid x =
        let m = (at_end h).machine in
        void_unserved m c r ((at_end h).kept.invalid invalid) (served m c r (step m w after c (good r) (at_end h).inv x).0)

    -- the promise
    pub protected : Protected m₀ start
    protected = record {
      view = view_keeps;
      merge = merge_completes;
      reopens = reopening;
      exactly = exactly;
      full = full;
      invalid_for_good = stays_invalid;
      along = λ h. ((at_end h).machine, (at_end h).simulates);
    }
