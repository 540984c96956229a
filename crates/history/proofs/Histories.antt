-- What is true along every history, by induction over it.
use Rattle.std.proofs.Common.{◌≡◌, ℕ, ◌<◌, Bool, true, false, ◌&&◌, T, List, [], ◌∷◌, Some, None, sym, refl, ap, ◌∙◌, subst, inl, inr, ⊎_elim}
use Rattle.std.specs.List.{ContainsAt as Has}
use Rattle.std.proofs.ByRecursion.{all-has, has_push}
use Rattle.std.proofs.lemmas.Bool.{cases_Bool, both_ways, and_parts, and_right}
use Rattle.device.specs.Disk.{Bytes, possibilities}
use Rattle.device.specs.Plans.{Disks}
use Rattle.recovery.specs.Readings.{image}
use Rattle.history.specs.Faults.{Fault}
use Rattle.history.specs.Steps.{both_on, ground}
use Rattle.history.specs.History.{Situation, Call, ask_status, begin_merge, leave_merge, Answer, Happens, refusal, PowerCut, Rejoined, RefusedMaking, End, completed, under_way, not_done, ending, History, begun, next_call, cut, rejoin, making_refused}
use Rattle.history.specs.Machine.{Plain, Machine, only, diverged_at, performed, next, fresh, broken_off, cut_short, Cuts, Follows, Agrees, Simulates, making_expected}
use Rattle.history.specs.Promise.{shown, shown_by, apart, kind, is_flush, completes, begins, Last, Candidate, Owed, found_full, FoundFull, RefusedInvalid}
use Rattle.history.proofs.Invariant.{On, Inv, single_is, Shares}
use Rattle.history.proofs.Refusing.{still, Reached, away, quiet, inside, reached}
use Rattle.history.proofs.Owes.{when_true, when_false, Spoils, Comes, comes_performed, comes_broken, perhaps_old, perhaps_from, last_old, last_performed, flush_settles}
use Rattle.history.proofs.Voids.{refused_void, spoils_full}

-- WHAT A HISTORY SAYS OF THE MACHINE

-- devices that agree show the view
pub shows : {p : Plain} {d : Disks} → Agrees p d → p.void ≡ false → (s : ℕ) → s < p.size.origin → shown d s ≡ Some (p.view s).latest
shows {p} {d} x valid s l = ap (λ t. shown_by d t s) (x.opens valid) ∙ ap Some (x.view valid s l)

-- what a history says of two disks that the machine may have come to: void only by a full store, else the view has candidates alone
pub record Says {start w : Situation} (h : History start w) (p : Plain) : Type 0 where
  pub full : p.void ≡ true → FoundFull h
  pub candidate : p.void ≡ false → (s : ℕ) (b : Bytes) → s < p.size.origin → Has (possibilities (p.view s)) b → Candidate h s b

-- what it says of the machine's two disks, and of all that a call under way may have come to
pub record Kept {start w : Situation} (h : History start w) (p : Plain) (cames : List Plain) : Type 0 where
  pub says : (came : Plain) → Has cames came → Says h came
  pub stays : (came : Plain) → Has cames came → p.void ≡ true → came.void ≡ true
  pub owed : p.void ≡ false → (s : ℕ) → s < p.size.origin → Owed h s (p.view s).latest
  pub invalid : RefusedInvalid h → p.void ≡ true

-- with nothing under way
kept_one : {start w : Situation} {h : History start w} {p : Plain} → Says h p → (p.void ≡ false → (s : ℕ) → s < p.size.origin → Owed h s (p.view s).latest) → (RefusedInvalid h → p.void ≡ true) → Kept h p (p ∷ [])
kept_one {h = h} {p = p} says owed invalid = record {
  says = λ came has. all-has (Says h) (p ∷ []) came (says, tt) has;
  stays = λ came has. all-has (λ q. p.void ≡ true → q.void ≡ true) (p ∷ []) came (λ v. v, tt) has;
  owed = owed;
  invalid = invalid;
}

-- CALLS

module _ {start w : Situation} (h : History start w) (c : Call) (a : Answer) (after : Situation) (x : Happens w c a after) where
  -- a completed flush
  abbrev Flushed : Bool
  Flushed = is_flush (kind c) && completes (ending a)

  candidate_old : (s : ℕ) (b : Bytes) → Flushed ≡ false → Candidate h s b → Candidate (next_call h c a after x) s b
  candidate_old s b unflushed q = when_false _ _ _ unflushed (perhaps_old (kind c) (ending a) s (λ y. b ≡ y) _ q)

  -- a call that leaves the machine's disks
  kept_same : {p : Plain} {cames : List Plain} → Flushed ≡ false → ((s : ℕ) (b : Bytes) → Owed h s b → Owed (next_call h c a after x) s b) → (RefusedInvalid (next_call h c a after x) → p.void ≡ true) → Kept h p cames → Kept (next_call h c a after x) p cames
  kept_same unflushed owing invalid k = record {
    says = λ came has. record { full = λ v. inr ((k.says came has).full v); candidate = λ v s b l y. candidate_old s b unflushed ((k.says came has).candidate v s b l y) };
    stays = k.stays;
    owed = λ v s l. owing s _ (k.owed v s l);
    invalid = invalid;
  }

  -- what a call comes to
  says_next : {p came : Plain} → Flushed ≡ false → begins (ending a) ≡ true → (Spoils p (kind c) → T (found_full w (kind c) (ending a))) → Says h p → Comes p (kind c) came → Says (next_call h c a after x) came
  says_next {p} {came} unflushed began spoils says comes = record {
    full = λ v. ⊎_elim (λ u. inr (says.full u)) (λ u. inl (spoils u)) (comes.voids v);
    candidate = λ v s b l has.
        let valid = ⊎_elim (λ u. absurd (both_ways _ v (comes.stays u))) (λ u. u) (cases_Bool p.void) in
        let within = subst (λ z. s < z.origin) comes.same_size l in
        when_false _ _ _ unflushed (perhaps_from (kind c) (ending a) s b _ began (⊎_elim (λ y. inl (says.candidate valid s b within y)) inr (comes.within s b has)));
  }

  -- a completed flush shows the view
  says_flushed : {p : Plain} → Flushed ≡ true → (Spoils p (kind c) → T (found_full w (kind c) (ending a))) → Says h p → Agrees (performed p c) after.disks → Says (next_call h c a after x) (performed p c)
  says_flushed {p} flushed spoils says agrees = record {
    full = λ v. ⊎_elim (λ u. inr (says.full u)) (λ u. inl (spoils u)) ((comes_performed p c).voids v);
    candidate = λ v s b l has.
        when_true _ _ _ flushed (shows agrees v s l ∙ ap Some (single_is (flush_settles p c (and_parts (is_flush (kind c)) _ flushed).0 s) has));
  }

  module _ (p : Plain) (says : Says h p) (spoils : Spoils p (kind c) → T (found_full w (kind c) (ending a))) (owed : p.void ≡ false → (s : ℕ) → s < p.size.origin → Owed h s (p.view s).latest) (invalid : RefusedInvalid (next_call h c a after x) → p.void ≡ true) where
    -- after a completed call
    kept_completed : ending a ≡ completed → Agrees (performed p c) after.disks → Kept (next_call h c a after x) (performed p c) (performed p c ∷ [])
    kept_completed is agrees =
        let comes = comes_performed p c in
        kept_one
        (⊎_elim (λ f. says_flushed f spoils says agrees) (λ f. says_next f (ap begins is) spoils says comes) (cases_Bool Flushed))
        (λ v s l.
        let valid = ⊎_elim (λ u. absurd (both_ways _ v (comes.stays u))) (λ u. u) (cases_Bool p.void) in
        subst (λ e. Last (kind c) e s (λ y. ((performed p c).view s).latest ≡ y) (Owed h s ((performed p c).view s).latest)) (sym is)
        (last_performed (Owed h s) s p c (owed valid s (subst (λ z. s < z.origin) comes.same_size l))))
        (λ r. comes.stays (invalid r))

    -- after a call that stays under way
    kept_under_way : ending a ≡ under_way → Kept (next_call h c a after x) p (broken_off p c)
    kept_under_way is = record {
      says = λ came has. says_next (and_right _ _ (ap completes is)) (ap begins is) spoils says (comes_broken p c came has);
      stays = λ came has. (comes_broken p c came has).stays;
      owed = λ v s l. last_old (kind c) (ending a) s _ _ (ap completes is) (owed v s l);
      invalid = invalid;
    }

-- the machine's disks, and what they may have come to
abbrev pub KeptBy : {start w : Situation} → History start w → Machine → Type 0
KeptBy h m = Kept h m.plain (cut_short m.plain m.pending)

-- a machine with nothing under way has both devices on
pub while_idle : {m : Machine} {w : Situation} → m.pending ≡ None → Inv m w → On m w
while_idle idle (inl on) = on
while_idle idle (inr off) = cc

-- a machine whose devices are both on has nothing under way
while_on : {m : Machine} {w : Situation} → Inv m w → both_on w.disks ≡ true → m.pending ≡ None
while_on (inl on) runs = on.idle
while_on (inr off) runs = absurd (both_ways _ off.gone runs)

pub idle_has : {w : Situation} (m : Machine) → On m w → Has (cut_short m.plain m.pending) m.plain
idle_has m on = subst (λ o. Has (cut_short m.plain o) m.plain) (sym on.idle) (has_push [] m.plain)

-- a still call leaves all
pub still_same : (c : Call) → still c ≡ true → (kind c ≡ apart) × ((p : Plain) → performed p c ≡ p)
still_same ask_status is = (refl, λ p. refl)
still_same begin_merge is = (refl, λ p. refl)
still_same leave_merge is = (refl, λ p. refl)
still_same c is = absurd (both_ways _ refl is)

module _ {start w : Situation} (h : History start w) (c : Call) (a : Answer) (after : Situation) (x : Happens w c a after) (m : Machine) (kept : KeptBy h m) (follows : Follows m c a) where
  void_by : RefusedInvalid (next_call h c a after x) → m.plain.void ≡ true
  void_by (inl six) = refused_void m c a follows six
  void_by (inr r) = kept.invalid r

  kept_away : ending a ≡ not_done → KeptBy (next_call h c a after x) m
  kept_away is = kept_same h c a after x (and_right _ _ (ap completes is)) (λ s b o. last_old (kind c) (ending a) s _ _ (ap completes is) o) void_by kept

  kept_quiet : still c ≡ true → KeptBy (next_call h c a after x) (next m c completed)
  kept_quiet is =
      let same = still_same c is in
      subst (λ q. Kept (next_call h c a after x) q (cut_short q m.pending)) (sym (same.1 m.plain))
      (kept_same h c a after x (ap (λ k. is_flush k && completes (ending a)) same.0) (λ s b o. subst (λ k. Last k (ending a) s (λ y. b ≡ y) (Owed h s b)) (sym same.0) o) void_by kept)

  -- a call that passed the tests while both devices are on
  kept_inside : On m w → refusal (ground w.disks) w.memory w.mode c ≡ None → (e : End) → ending a ≡ e → Inv (next m c e) after → KeptBy (next_call h c a after x) (next m c e)
  kept_inside on passes not_done is inv = kept_away is
  kept_inside on passes under_way is inv = kept_under_way h c a after x m.plain (kept.says m.plain (idle_has m on)) (spoils_full m w c (ending a) on passes (ap begins is)) kept.owed void_by is
  kept_inside on passes completed is inv =
      subst (λ o. Kept (next_call h c a after x) (performed m.plain c) (cut_short (performed m.plain c) o)) (sym on.idle)
      (kept_completed h c a after x m.plain (kept.says m.plain (idle_has m on)) (spoils_full m w c (ending a) on passes (ap begins is)) kept.owed void_by is (while_idle on.idle inv).agrees)

  -- a call leaves what is kept
  kept_call : Inv m w → Inv (next m c (ending a)) after → KeptBy (next_call h c a after x) (next m c (ending a))
  kept_call inv later = go (reached x)
    where
      go : Reached w c a → KeptBy (next_call h c a after x) (next m c (ending a))
      go (away is) = subst (λ e. KeptBy (next_call h c a after x) (next m c e)) (sym is) (kept_away is)
      go (quiet none is) = subst (λ e. KeptBy (next_call h c a after x) (next m c e)) (sym is) (kept_quiet none)
      go (inside passes runs) = ⊎_elim (λ on. kept_inside on passes (ending a) refl later) (λ off. absurd (both_ways _ off.gone runs)) inv

-- POWER CUTS

module _ {start w : Situation} (h : History start w) (after : Situation) (x : PowerCut w after) (m e : Machine) (kept : KeptBy h m) (cuts : Cuts m e) (on : On e after) (shares : Shares cuts.came) where
  -- what a cut left was a candidate
  left_candidate : e.plain.void ≡ false → (s : ℕ) → s < e.plain.size.origin → Candidate h s (e.plain.view s).latest
  left_candidate v s l =
      let came = cuts.came in
      let pinned = cuts.pinned in
      let valid : came.void ≡ false = sym pinned.same_void ∙ v in
      let within : s < came.size.origin = subst (λ z. s < z.origin) pinned.same_size l in
      (kept.says came cuts.among).candidate valid s _ within
      (⊎_elim
      (λ own. pinned.view_diverged s within own)
      (λ same. subst (λ k. Has (possibilities (came.view s)) k.latest) (sym (pinned.view_shared s within same)) (subst (λ k. Has (possibilities k) (e.plain.origin s).latest) (sym (shares s valid within same)) (pinned.origin_one_of s within)))
      (cases_Bool (diverged_at came s)))

  -- a power cut leaves what is kept
  kept_cut : KeptBy (cut h after x) e
  kept_cut =
      let pinned = cuts.pinned in
      subst (λ o. Kept (cut h after x) e.plain (cut_short e.plain o)) (sym on.idle)
      (kept_one
      (record { full = λ v. (kept.says cuts.came cuts.among).full (sym pinned.same_void ∙ v); candidate = λ v s b l has. shows on.agrees v s l ∙ ap Some (single_is (pinned.view_single s) has) })
      (λ v s l. (shows on.agrees v s l, left_candidate v s l))
      (λ r. pinned.same_void ∙ kept.stays cuts.came cuts.among (kept.invalid r)))

-- THE BEGINNING

kept_begun : (m₀ : Machine) (start : Situation) → On m₀ start → m₀.plain.void ≡ false → ((s : ℕ) → m₀.plain.view s ≡ only (image start.disks.origin s)) → KeptBy {start = start} {w = start} begun m₀
kept_begun m₀ start on valid same =
    subst (λ o. Kept {start = start} {w = start} begun m₀.plain (cut_short m₀.plain o)) (sym on.idle)
    (kept_one
    (record { full = λ v. absurd (both_ways _ valid v); candidate = λ v s b l has. shows on.agrees v s l ∙ ap Some (single_is (ap (λ k. k.older) (same s)) has) })
    (λ v s l. sym (ap (λ k. k.latest) (same s)))
    (λ r. absurd r))

-- THE INDUCTION

-- along a history the machine goes to another, which stands with the devices, and of which the history says what is kept
pub record Along (m₀ : Machine) {start w : Situation} (h : History start w) : Type 0 where
  pub machine : Machine
  pub simulates : Simulates m₀ h machine
  pub inv : Inv machine w
  pub kept : KeptBy h machine

-- a call answers as expected, and devices and machine go on together
abbrev pub CallSteps : Type 0
CallSteps = (m : Machine) (w after : Situation) (c : Call) (a : Answer) → Inv m w → Happens w c a after → Follows m c a × Inv (next m c (ending a)) after

-- so they do over a power cut
abbrev pub CutSteps : Type 0
CutSteps = (m : Machine) (w after : Situation) → Inv m w → PowerCut w after → (e : Machine) × (x : Cuts m e) × On e after × Shares x.came

-- and as a pair is put together anew
abbrev pub AgainSteps : Type 0
AgainSteps = (m : Machine) (w after : Situation) → Inv m w → Rejoined w after → Inv (fresh m) after

-- a making that is refused is refused as expected, and changes nothing
abbrev pub MakingSteps : Type 0
MakingSteps = (m : Machine) (w after : Situation) (c : ℕ) (f : Fault) → Inv m w → RefusedMaking w c f after → (making_expected m c ≡ Some f) × (after ≡ w)

module _ (m₀ : Machine) (start : Situation) (step : CallSteps) (cut_step : CutSteps) (again : AgainSteps) (unmade : MakingSteps) (begins_on : On m₀ start) (begins_valid : m₀.plain.void ≡ false) (begins_as : (s : ℕ) → m₀.plain.view s ≡ only (image start.disks.origin s)) where
  along_call : {w : Situation} (h : History start w) (c : Call) (a : Answer) (after : Situation) (x : Happens w c a after) → Along m₀ h → Along m₀ (next_call h c a after x)
  along_call {w} h c a after x r =
      let m = r.machine in
      let went = step m w after c a r.inv x in
      record {
        machine = next m c (ending a);
        simulates = (m, r.simulates, went.0, refl, λ idle. (while_idle idle went.1).agrees, while_on went.1);
        inv = went.1;
        kept = kept_call h c a after x m r.kept went.0 r.inv went.1;
      }

  along_cut : {w : Situation} (h : History start w) (after : Situation) (x : PowerCut w after) → Along m₀ h → Along m₀ (cut h after x)
  along_cut {w} h after x r =
      let m = r.machine in
      let left = cut_step m w after r.inv x in
      record {
        machine = left.0;
        simulates = (m, r.simulates, left.1, left.2.agrees);
        inv = inl left.2;
        kept = kept_cut h after x m left.0 r.kept left.1 left.2 left.3;
      }

  along_rejoin : {w : Situation} (h : History start w) (after : Situation) (x : Rejoined w after) → Along m₀ h → Along m₀ (rejoin h after x)
  along_rejoin {w} h after x r =
      let k = r.kept in
      record {
        machine = fresh r.machine;
        simulates = (r.machine, r.simulates, refl);
        inv = again r.machine w after r.inv x;
        kept = record { says = λ came has. record { full = (k.says came has).full; candidate = (k.says came has).candidate }; stays = k.stays; owed = k.owed; invalid = k.invalid };
      }

  along_making : {w : Situation} (h : History start w) (c : ℕ) (f : Fault) (after : Situation) (x : RefusedMaking w c f after) → Along m₀ h → Along m₀ (making_refused h c f after x)
  along_making {w} h c f after x r =
      let k = r.kept in
      let y = unmade r.machine w after c f r.inv x in
      record {
        machine = r.machine;
        simulates = (r.simulates, y.0, y.1);
        inv = subst (Inv r.machine) (sym y.1) r.inv;
        kept = record { says = λ came has. record { full = (k.says came has).full; candidate = (k.says came has).candidate }; stays = k.stays; owed = k.owed; invalid = k.invalid };
      }

  -- every history
  pub all_along : {w : Situation} (h : History start w) → Along m₀ h
  all_along begun = record { machine = m₀; simulates = refl; inv = inl begins_on; kept = kept_begun m₀ start begins_on begins_valid begins_as }
  all_along (next_call h c a after x) = along_call h c a after x (all_along h)
  all_along (cut h after x) = along_cut h after x (all_along h)
  all_along (rejoin h after x) = along_rejoin h after x (all_along h)
  all_along (making_refused h c f after x) = along_making h c f after x (all_along h)
