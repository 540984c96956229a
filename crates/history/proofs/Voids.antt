-- When a view is void: what the answers say of it, and what an origin write that finds the store full does.
use Rattle.std.proofs.Common.{◌≡◌, ℕ, ◌/◌, Bool, true, false, cond, not, ◌&&◌, ◌||◌, T, eqb, is_some, Some, None, Option, sym, refl, ap, ◌∙◌, subst, ap₂, ⊎_elim, arith}
use Rattle.std.specs.List.{AllByRecursion}
use Rattle.std.proofs.lemmas.Bool.{cases_Bool, both_ways, and_from, eqb-true, ne_eqb, cond-true, cond-false}
use Rattle.device.specs.Disk.{good, refused}
use Rattle.layout.specs.Chunks.{sectors}
use Rattle.exceptions.specs.Table.{entries_at_most, room}
use Rattle.history.specs.Faults.{Fault, store_fault}
use Rattle.history.specs.Steps.{closed, serving, invalid, is_closed, is_invalid, ground, not_invalid, opened, next_free}
use Rattle.history.specs.History.{Situation, Call, ask_status, ask_merge, read_origin, read_view, write_origin, write_snapshot, write_merging, flush_all, begin_merge, step_merge, leave_merge, reopen, nothing, Reply, Answer, refusal, End, under_way, not_done}
use Rattle.history.specs.Machine.{Plain, Machine, diverged_at, can_diverge, finds_full, table_of, chunk_of, ground_of, memory_of, reply, unless_refused, Follows, went, told}
use Rattle.history.specs.Promise.{Kind, writes_view, writes_origin, flushes, uses_snapshot, apart, kind, of_snapshot, begins, no_place, found_full, full_by_machine, is_invalid_refusal}
use Rattle.history.proofs.Invariant.{On}
use Rattle.history.proofs.Placing.{has_chunk_lookup, room_placed}
use Rattle.history.proofs.Refusing.{tests_of, each_passed, test_passed, refusal_tells}
use Rattle.history.proofs.Owes.{Spoils}

pub T_is : (b : Bool) → T b → b ≡ true
T_is true t = refl
T_is false t = absurd t

-- WHAT IS REMEMBERED

-- invalid is remembered of a void view
remembers_void : (m : Machine) → is_invalid (memory_of m) ≡ true → m.plain.void ≡ true
remembers_void m = go m.opened m.plain.void
  where
    go : (o v : Bool) → is_invalid (cond o (cond v invalid (serving m.plain.chunk (table_of m.plain))) closed) ≡ true → v ≡ true
    go true true h = refl
    go true false h = h
    go false v h = absurd (both_ways _ refl h)

-- a pair that is open remembers so
pub remembers_open : (m : Machine) → is_closed (memory_of m) ≡ false → m.opened ≡ true
remembers_open m = go m.opened
  where
    go : (o : Bool) → is_closed (cond o (cond m.plain.void invalid (serving m.plain.chunk (table_of m.plain))) closed) ≡ false → o ≡ true
    go true h = refl
    go false h = sym h

-- a pair that is open, and not invalid, has a view
pub remembers_valid : (m : Machine) → is_closed (memory_of m) ≡ false → is_invalid (memory_of m) ≡ false → m.plain.void ≡ false
remembers_valid m = go m.opened m.plain.void
  where
    go : (o v : Bool) → let k = cond o (cond v invalid (serving m.plain.chunk (table_of m.plain))) closed in is_closed k ≡ false → is_invalid k ≡ false → v ≡ false
    go true true c h = h
    go true false c h = refl
    go false true c h = c
    go false false c h = refl

-- ANSWERS

-- a good answer was expected, and no test refused
pub record Served (m : Machine) (c : Call) (r : Reply) : Type 0 where
  pub passes : refusal (ground_of m) (memory_of m) m.mode c ≡ None
  pub says : good r ≡ reply m c

pub served : (m : Machine) (c : Call) (r : Reply) → Follows m c (good r) → Served m c r
served m c r (went e) = cc
served m c r (told e) = go (refusal (ground_of m) (memory_of m) m.mode c) refl e
  where
    go : (o : Option Fault) → refusal (ground_of m) (memory_of m) m.mode c ≡ o → good r ≡ unless_refused o (reply m c) → Served m c r
    go None is e = record { passes = is; says = e }
    go (Some f) is e = cc

pub tests : (m : Machine) (c : Call) (r : Reply) → Served m c r → AllByRecursion (λ t. t ≡ None) (tests_of (ground_of m) (memory_of m) m.mode c)
tests m c r x = each_passed (ground_of m) (memory_of m) m.mode c x.passes

seven_void : (m : Machine) (f : Fault) (k : ℕ) → ◌≡◌ {A = Answer} (refused (store_fault 7 k 0)) (refused f) → eqb f.number 6 ≡ true → m.plain.void ≡ true
seven_void m f k is six = let same : store_fault 7 k 0 ≡ f = cc in absurd (both_ways _ (ap (λ y. eqb y.number 6) (sym same)) six)

-- a reply is refused as invalid where the view is void
reply_void : (m : Machine) (c : Call) (f : Fault) → reply m c ≡ refused f → eqb f.number 6 ≡ true → m.plain.void ≡ true
reply_void m (write_snapshot s b w) f is six =
    ⊎_elim
    (λ e. let h : ◌≡◌ {A = Answer} (good nothing) (refused f) = sym (cond-true _ _ _ e) ∙ is in cc)
    (λ e. seven_void m f (chunk_of m.plain s) (sym (cond-false _ _ _ e) ∙ is) six)
    (cases_Bool (diverged_at m.plain s || can_diverge m.plain))
reply_void m (reopen w) f is six = ⊎_elim (λ e. e) (λ e. let h : ◌≡◌ {A = Answer} (good nothing) (refused f) = sym (cond-false _ _ _ e) ∙ is in cc) (cases_Bool m.plain.void)
reply_void m c f is six = cc

-- a call is refused as invalid only where the view is void
pub refused_void : (m : Machine) (c : Call) (a : Answer) → Follows m c a → T (is_invalid_refusal a) → m.plain.void ≡ true
refused_void m c (good r) follows six = absurd six
refused_void m c (refused f) (went e) six =
    let is = eqb-true f.number 6 (T_is _ six) in
    let over : not_done ≡ under_way = sym (cond-false (eqb f.number 3) under_way not_done (ne_eqb _ _ (λ z. omega arith))) ∙ e in
    cc
refused_void m c (refused f) (told e) six = go (refusal (ground_of m) (memory_of m) m.mode c) refl e
  where
    go : (o : Option Fault) → refusal (ground_of m) (memory_of m) m.mode c ≡ o → refused f ≡ unless_refused o (reply m c) → m.plain.void ≡ true
    go None is e = reply_void m c f (sym e) (T_is _ six)
    go (Some x) is e = let same : x ≡ f = cc in remembers_void m ((refusal_tells (ground_of m) (memory_of m) m.mode c f (is ∙ ap Some same)).1 (T_is _ six))

-- the tests of the snapshot's calls
pub valid_by : (m : Machine) → opened (memory_of m) ≡ None → not_invalid (memory_of m) ≡ None → m.plain.void ≡ false
valid_by m a b = remembers_valid m (test_passed _ _ a) (test_passed _ _ b)

-- a void view is not served
pub void_unserved : (m : Machine) (c : Call) (r : Reply) → m.plain.void ≡ true → Served m c r → T (not (of_snapshot (kind c)))
void_unserved m (read_view s n) r void x = let ts = tests m (read_view s n) r x in absurd (both_ways _ (valid_by m ts.1.1.0 ts.1.1.1.0) void)
void_unserved m (write_snapshot s b w) r void x = let ts = tests m (write_snapshot s b w) r x in absurd (both_ways _ (valid_by m ts.1.1.1.0 ts.1.1.1.1.0) void)
void_unserved m (write_merging s b) r void x = let ts = tests m (write_merging s b) r x in absurd (both_ways _ (valid_by m ts.1.1.0 ts.1.1.1.0) void)
void_unserved m (step_merge w) r void x = let ts = tests m (step_merge w) r x in absurd (both_ways _ (valid_by m ts.1.1.0 ts.1.1.1.0) void)
void_unserved m (reopen w) r void x = let h : ◌≡◌ {A = Answer} (good r) (refused (store_fault 6 0 0)) = x.says ∙ cond-true _ _ _ void in cc
void_unserved m c r void x = tt

-- FULL STORES

module _ (m : Machine) (w : Situation) (s : ℕ) (on : On m w) where
  some_cond : (b : Bool) (k : ℕ) → is_some (cond b (Some k) None) ≡ b
  some_cond true k = refl
  some_cond false k = refl

  -- there is a place where one more chunk may diverge
  room_is : is_some (next_free (ground w.disks) m.plain.chunk (table_of m.plain)) ≡ can_diverge m.plain
  room_is =
      let p = m.plain in
      let c = sectors p.chunk in
      ap (λ z. is_some (room entries_at_most c (z.cow / c) (table_of p))) on.agrees.sectors
      ∙ ap is_some (room_placed p.chunk entries_at_most (p.size.cow / c) p.diverged)
      ∙ some_cond (can_diverge p) _

  place_is : m.opened ≡ true → no_place w s w.memory ≡ finds_full m.plain s
  place_is is_open =
      let p = m.plain in
      let rest : Bool → Bool = λ v. not v && (not (diverged_at p s) && not (can_diverge p)) in
      ap (no_place w s) (on.memory ∙ cond-true _ _ _ is_open)
      ∙ ⊎_elim
      (λ void. ap (no_place w s) (cond-true _ _ _ void) ∙ sym (ap rest void))
      (λ valid.
      ap (no_place w s) (cond-false _ _ _ valid)
      ∙ ap₂ (λ x y. not x && not y) (sym (has_chunk_lookup _ 0 p.diverged (chunk_of p s))) room_is
      ∙ sym (ap rest valid))
      (cases_Bool p.void)

-- a call that passed the tests finds the store full where the machine says so
pub full_alike : (m : Machine) (w : Situation) (c : Call) (e : End) → On m w → refusal (ground w.disks) w.memory w.mode c ≡ None → found_full w (kind c) e ≡ full_by_machine m.plain (kind c) e
full_alike m w ask_status e on pass = refl
full_alike m w ask_merge e on pass = refl
full_alike m w (read_origin s n) e on pass = refl
full_alike m w (read_view s n) e on pass = refl
full_alike m w (write_origin s b k) e on pass =
    let shut = test_passed _ _ (each_passed (ground w.disks) w.memory w.mode (write_origin s b k) pass).1.1.1.0 in
    ap (λ x. begins e && x) (place_is m w s on (remembers_open m (sym (ap is_closed on.memory) ∙ shut)))
full_alike m w (write_snapshot s b k) e on pass = refl
full_alike m w (write_merging s b) e on pass = refl
full_alike m w flush_all e on pass = refl
full_alike m w begin_merge e on pass = refl
full_alike m w (step_merge k) e on pass = refl
full_alike m w leave_merge e on pass = refl
full_alike m w (reopen k) e on pass = refl

-- one that is not done does not
pub not_full : (p : Plain) (w : Situation) (k : Kind) → found_full w k not_done ≡ full_by_machine p k not_done
not_full p w (writes_view s b) = refl
not_full p w (writes_origin s) = refl
not_full p w flushes = refl
not_full p w uses_snapshot = refl
not_full p w apart = refl

spoils_is : (p : Plain) (k : Kind) (e : End) → begins e ≡ true → Spoils p k → full_by_machine p k e ≡ true
spoils_is p (writes_view s b) e began full = absurd full
spoils_is p (writes_origin s) e began full = and_from _ _ began full
spoils_is p flushes e began full = absurd full
spoils_is p uses_snapshot e began full = absurd full
spoils_is p apart e began full = absurd full

-- an origin write that finds the store full, on an open pair, finds no place
pub spoils_full : (m : Machine) (w : Situation) (c : Call) (e : End) → On m w → refusal (ground w.disks) w.memory w.mode c ≡ None → begins e ≡ true → Spoils m.plain (kind c) → T (found_full w (kind c) e)
spoils_full m w c e on pass began full = subst T (sym (full_alike m w c e on pass ∙ spoils_is m.plain (kind c) e began full)) tt
