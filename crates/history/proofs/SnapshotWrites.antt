-- Snapshot writes of an open pair, and writes of a merging snapshot.
use Rattle.std.proofs.Common.{◌≡◌, ℕ, ◌/◌, ◌<◌, true, false, cond, ◌||◌, [], ◌∷◌, length, Some, None, Option, sym, refl, ap, ◌∙◌, subst}
use Rattle.std.specs.List.{ContainsAt as Has}
use Rattle.std.proofs.ByRecursion.{has_push}
use Rattle.std.proofs.lemmas.Bool.{or_from, or_left, or_right, cond-true, cond-false}
use Rattle.device.specs.Disk.{Bytes, writes, good, refused}
use Rattle.device.specs.Plans.{Runs, both, Disks}
use Rattle.device.proofs.Uses.{over as run_over}
use Rattle.layout.specs.Chunks.{sectors, in_copy}
use Rattle.exceptions.specs.Table.{entries_at_most, lookup, room}
use Rattle.history.specs.Faults.{store_fault}
use Rattle.history.specs.Steps.{Memory, serving, ground, Outcome, giving, after, copying, copy_put, snapshot_diverging, snapshot_served, snapshot_writing, merging_put, merging_writing}
use Rattle.history.specs.History.{write_snapshot, write_merging, nothing, replied}
use Rattle.history.specs.Machine.{Plain, added, perhaps, chunk_of, diverged_at, table_of, can_diverge, diverge, on_origin, on_view, broken_off}
use Rattle.history.proofs.Copying.{parted, diverge_is, parted_here}
use Rattle.history.proofs.Ends.{Up, Ends, kept_end}
use Rattle.history.proofs.OriginWrites.{place_can, no_place_cannot, first_of, second_of, wider_view, ends_by, turn_ends, free_by}
use Rattle.history.proofs.Parting.{parts}
use Rattle.history.proofs.Putting.{shared_puts, copy_puts}
use Rattle.history.proofs.Spots.{uncopied, copy_diverged}
use Rattle.history.proofs.Through.{at_copy}
use Rattle.store.specs.Steps.{only_call}
use Rattle.history.proofs.Wholes.{wholes_stay, sizes_stay}

-- SNAPSHOT WRITES

module _ (p : Plain) (d : Disks) (s : ℕ) (b : Bytes) (k : ℕ) (valid : p.void ≡ false) (up : Up p (serving p.chunk (table_of p)) d) (here : s < p.size.origin) (long : length b ≡ 512) (o : Outcome (Unit {0})) (e : Disks) where
  Wanted : Type 0
  Wanted = Ends p (write_snapshot s b k) (cond (diverged_at p s || can_diverge p) (good nothing) (refused (store_fault 7 (chunk_of p s) 0))) (replied (λ _. nothing) o.answer) o.memory e

  abbrev Good : Type 0
  Good = Ends p (write_snapshot s b k) (good nothing) (replied (λ _. nothing) o.answer) o.memory e

  -- a good answer is wanted
  wanted : (diverged_at p s || can_diverge p) ≡ true → Good → Wanted
  unfolding Wanted
  wanted is h = subst (λ a. Ends p (write_snapshot s b k) a (replied (λ _. nothing) o.answer) o.memory e) (sym (cond-true (diverged_at p s || can_diverge p) _ _ is)) h

  -- to a copy that is there
  to_copy : (x : ℕ) → lookup (table_of p) (chunk_of p s) ≡ Some x → Runs both (copy_put (ground d) p.chunk (table_of p) s b x) d o e → Wanted
  to_copy x is r =
      let div = copy_diverged p s x is in
      wanted (or_left (diverged_at p s) _ div)
      (ends_by p d up e (λ _. nothing) o (wholes_stay r up.whole) (sizes_stay r) (write_snapshot s b k) tt (serving p.chunk (table_of p)) (on_view (added b) s p) (on_view (perhaps b) s p)
      (ap (on_view (added b) s) (cond-true (diverged_at p s) _ _ div))
      (subst (λ l. Has l (on_view (perhaps b) s p)) (sym (cond-true (diverged_at p s) _ _ div)) (has_push [] _))
      (copy_puts tt p valid d (serving p.chunk (table_of p)) up s x b long is o e (subst (λ q. Runs both (after (serving p.chunk (table_of p)) q (λ _. giving (serving p.chunk (table_of p)) tt)) d o e) (at_copy p.size p.chunk (table_of p) (up.stands valid).listed d up.agrees.sectors (chunk_of p s) x is (only_call (writes (in_copy (sectors p.chunk) x s) b))) r)))

  module _ (out : diverged_at p s ≡ false) where
    two_ways : can_diverge p ≡ true → broken_off p (write_snapshot s b k) ≡ p ∷ on_view (perhaps b) s (diverge p s) ∷ []
    two_ways can = cond-false (diverged_at p s) _ _ out ∙ cond-true (can_diverge p) _ _ can

    -- the chunk is copied first
    with_room : (place : ℕ) → room entries_at_most (sectors p.chunk) (p.size.cow / sectors p.chunk) (table_of p) ≡ Some place → Runs both (after (serving p.chunk (table_of p)) (copying (ground d) p.chunk (table_of p) (chunk_of p s) place) (λ more. copy_put (ground d) p.chunk more s b place)) d o e → Wanted
    with_room place free r =
        let can = place_can p place free in
        let same = diverge_is p s place out free in
        let there : lookup (table_of (parted p s)) (chunk_of p s) ≡ Some place = parted_here p s place out free s refl in
        let one : Has (broken_off p (write_snapshot s b k)) p = subst (λ l. Has l p) (sym (two_ways can)) (first_of p _) in
        let two : Has (broken_off p (write_snapshot s b k)) (on_view (perhaps b) s (parted p s)) = subst (λ l. Has l (on_view (perhaps b) s (parted p s))) (sym (two_ways can)) (subst (λ y. Has (p ∷ on_view (perhaps b) s y ∷ []) (on_view (perhaps b) s (parted p s))) (sym same) (second_of p _)) in
        let mem = serving p.chunk (table_of (parted p s)) in
        wanted (or_right (diverged_at p s) _ can)
        (turn_ends p d up e (λ _. nothing) o (wholes_stay r up.whole) (sizes_stay r) (write_snapshot s b k) tt (serving p.chunk (table_of p)) mem (parted p s) (on_view (added b) s (parted p s)) (on_view (perhaps b) s (parted p s))
        (table_of (parted p s)) (copying (ground d) p.chunk (table_of p) (chunk_of p s) place) (λ more. copy_put (ground d) p.chunk more s b place)
        (ap (on_view (added b) s) same) one two
        (λ t u run. parts p valid d up s here out place free run)
        (λ x c. wider_view (parted p s) x s b (copy_diverged (parted p s) s place there) c)
        (λ mid u rest. copy_puts tt (parted p s) valid mid mem u s place b long there o e
        (subst (λ q. Runs both (after mem q (λ _. giving mem tt)) mid o e) (at_copy p.size p.chunk (table_of (parted p s)) (u.stands valid).listed d up.agrees.sectors (chunk_of p s) place there (only_call (writes (in_copy (sectors p.chunk) place s) b))) rest))
        r)

    -- there is no place: 7, and nothing changes
    without_room : room entries_at_most (sectors p.chunk) (p.size.cow / sectors p.chunk) (table_of p) ≡ None → Runs both (snapshot_diverging (ground d) p.chunk (table_of p) s b None) d o e → Wanted
    unfolding Wanted
    without_room none r =
        let q = run_over r in
        let full = store_fault 7 (chunk_of p s) 0 in
        let told : replied (λ _. nothing) o.answer ≡ refused full = ap (λ y. replied (λ _. nothing) y.answer) q.0 in
        let due : cond (diverged_at p s || can_diverge p) (good nothing) (refused full) ≡ refused full = cond-false (diverged_at p s || can_diverge p) _ _ (or_from _ _ out (no_place_cannot p none)) in
        kept_end full told refl (told ∙ sym due) (subst (λ z. Up p z e) (sym (ap (λ y. y.memory) q.0)) (subst (Up p (serving p.chunk (table_of p))) (sym q.1) up))

    by_room : (place : Option ℕ) → room entries_at_most (sectors p.chunk) (p.size.cow / sectors p.chunk) (table_of p) ≡ place → Runs both (snapshot_diverging (ground d) p.chunk (table_of p) s b place) d o e → Wanted
    by_room None is r = without_room is r
    by_room (Some place) is r = with_room place is r

pub core_write_snapshot : (p : Plain) (d : Disks) (s : ℕ) (b : Bytes) (k : ℕ) → p.void ≡ false → Up p (serving p.chunk (table_of p)) d → s < p.size.origin → length b ≡ 512 → (o : Outcome (Unit {0})) (e : Disks) → Runs both (snapshot_writing (ground d) (serving p.chunk (table_of p)) s b) d o e → Ends p (write_snapshot s b k) (cond (diverged_at p s || can_diverge p) (good nothing) (refused (store_fault 7 (chunk_of p s) 0))) (replied (λ _. nothing) o.answer) o.memory e
unfolding Wanted
core_write_snapshot p d s b k valid up here long o e r = by (lookup (table_of p) (chunk_of p s)) refl
  where
    by : (x : Option ℕ) → lookup (table_of p) (chunk_of p s) ≡ x → Ends p (write_snapshot s b k) (cond (diverged_at p s || can_diverge p) (good nothing) (refused (store_fault 7 (chunk_of p s) 0))) (replied (λ _. nothing) o.answer) o.memory e
    by (Some x) is = to_copy p d s b k valid up here long o e x is (subst (λ y. Runs both (snapshot_served (ground d) p.chunk (table_of p) s b y) d o e) is r)
    by None is =
        by_room p d s b k valid up here long o e (uncopied p s is) (room entries_at_most (sectors p.chunk) (p.size.cow / sectors p.chunk) (table_of p)) refl
        (subst (λ y. Runs both (snapshot_diverging (ground d) p.chunk (table_of p) s b y) d o e) (free_by p d up) (subst (λ y. Runs both (snapshot_served (ground d) p.chunk (table_of p) s b y) d o e) is r))

-- MERGING WRITES

pub core_write_merging : (p : Plain) (d : Disks) (s : ℕ) (b : Bytes) → p.void ≡ false → Up p (serving p.chunk (table_of p)) d → s < p.size.origin → length b ≡ 512 → (o : Outcome (Unit {0})) (e : Disks) → Runs both (merging_writing (ground d) (serving p.chunk (table_of p)) s b) d o e → Ends p (write_merging s b) (good nothing) (replied (λ _. nothing) o.answer) o.memory e
core_write_merging p d s b valid up here long o e r = by (lookup (table_of p) (chunk_of p s)) refl
  where
    mem : Memory
    mem = serving p.chunk (table_of p)

    at_spot : (x : Option ℕ) → lookup (table_of p) (chunk_of p s) ≡ x → Runs both (merging_put (ground d) p.chunk (table_of p) s b x) d o e
    at_spot x is = subst (λ y. Runs both (merging_put (ground d) p.chunk (table_of p) s b y) d o e) is r

    by : (x : Option ℕ) → lookup (table_of p) (chunk_of p s) ≡ x → Ends p (write_merging s b) (good nothing) (replied (λ _. nothing) o.answer) o.memory e
    by (Some x) is =
        let div = copy_diverged p s x is in
        ends_by p d up e (λ _. nothing) o (wholes_stay r up.whole) (sizes_stay r) (write_merging s b) tt mem (on_view (added b) s p) (on_view (perhaps b) s p)
        (cond-true (diverged_at p s) _ _ div) (subst (λ q. Has (q ∷ []) (on_view (perhaps b) s p)) (sym (cond-true (diverged_at p s) _ _ div)) (has_push [] _))
        (copy_puts tt p valid d mem up s x b long is o e (subst (λ q. Runs both (after mem q (λ _. giving mem tt)) d o e) (at_copy p.size p.chunk (table_of p) (up.stands valid).listed d up.agrees.sectors (chunk_of p s) x is (only_call (writes (in_copy (sectors p.chunk) x s) b))) (at_spot (Some x) is)))
    by None is =
        let out = uncopied p s is in
        ends_by p d up e (λ _. nothing) o (wholes_stay r up.whole) (sizes_stay r) (write_merging s b) tt mem (on_origin (added b) s (on_view (added b) s p)) (on_origin (perhaps b) s (on_view (perhaps b) s p))
        (cond-false (diverged_at p s) _ _ out) (subst (λ q. Has (q ∷ []) (on_origin (perhaps b) s (on_view (perhaps b) s p))) (sym (cond-false (diverged_at p s) _ _ out)) (has_push [] _))
        (shared_puts tt p d mem up s b here long is o e (at_spot None is))
