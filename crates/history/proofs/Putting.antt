-- One sector written, as the last step of a call.
use Rattle.std.proofs.Common.{◌≡◌, ℕ, ◌/◌, ◌<◌, true, false, length, Some, None, sym, ap, ◌∙◌, subst}
use Rattle.std.proofs.lemmas.Bool.{and_parts}
use Rattle.device.specs.Disk.{Bytes, Disk, good, refused}
use Rattle.device.specs.Plans.{Runs, both, Side, origin, cow, Disks, side, with_side}
use Rattle.device.proofs.Uses.{over as run_over}
use Rattle.layout.specs.Chunks.{sectors, in_copy}
use Rattle.exceptions.specs.Table.{lookup}
use Rattle.recovery.specs.Standing.{Within}
use Rattle.history.specs.Faults.{Fault, write}
use Rattle.history.specs.Steps.{both_on, Memory, Outcome, giving, after}
use Rattle.history.specs.Machine.{Plain, added, perhaps, chunk_of, diverged_at, table_of, on_origin, on_view}
use Rattle.history.proofs.Changes.{added_widens, perhaps_widens, origin_covers, origin_agrees, shared_covers, shared_agrees}
use Rattle.history.proofs.CopyWrites.{copy_stands, copy_covers, copy_agrees}
use Rattle.history.proofs.Ends.{Up}
use Rattle.history.proofs.Invariant.{Covers, Wholes}
use Rattle.history.proofs.Moves.{GainsOne, PutOne}
use Rattle.history.proofs.Reading.{in_copy_on, alive}
use Rattle.history.proofs.Sides.{PutBoth, side_good, side_off, puts_side}
use Rattle.history.proofs.Splits.{After, after_parts}
use Rattle.history.proofs.Tables.{listed_lookup}
use Rattle.history.proofs.Wholes.{wholes_stay}

-- how the last step ends: the machine's disks are q; or a device went, and they may be r
pub data Puts {A : Type 0} (a : A) (m : Memory) (q r : Plain) (o : Outcome A) (e : Disks) : Type 0 where
  wrote : o ≡ record { answer = good a; memory = m } → Up q m e → Puts a m q r o e
  fell : (f : Fault) → o ≡ record { answer = refused f; memory = m } → f.number ≡ 3 → both_on e ≡ false → Covers r e → Puts a m q r o e

module _ {A : Type 0} (a : A) (p : Plain) (d : Disks) (m : Memory) (up : Up p m d) (x : Side) (t : ℕ) (b : Bytes) (here : t < (side x d).count) (long : length b ≡ 512) (o : Outcome A) (e : Disks) (r : Runs both (after m (write x t b) (λ _. giving m a)) d o e) where
  -- what is to be shown of the device that was written
  abbrev GoodThen : Plain → Type 0
  GoodThen q = (w : Disk) → w.count ≡ (side x d).count → PutOne (side x d) t b w → Wholes (with_side x d w) → Up q m (with_side x d w)

  abbrev GoneThen : Plain → Type 0
  GoneThen q = (w : Disk) → w.count ≡ (side x d).count → Within (GainsOne (side x d) t b) w → Covers q (with_side x d w)

  put_ends : (q r : Plain) → GoodThen q → GoneThen r → Puts a m q r o e
  put_ends q g good_then gone_then = by (after_parts m (write x t b) (λ _. giving m a) r)
    where
      off_by : (f : Fault) → o ≡ record { answer = refused f; memory = m } → PutBoth x d t b (refused f) e → Puts a m q g o e
      off_by f is (side_good w same told left g) = cc
      off_by f is (side_off w same off left gains) =
          let fault : f ≡ off.fault = let h = off.told in cc in
          fell f is (ap (λ y. y.number) fault ∙ off.number) off.gone (subst (Covers g) (sym left) (gone_then w same gains))

      good_by : (y : Bytes) (mid : Disks) → Runs both (giving m a) mid o e → PutBoth x d t b (good y) mid → Puts a m q g o e
      good_by y mid rest (side_good w same told left now) =
          let h = run_over rest in
          let end : e ≡ with_side x d w = h.1 ∙ left in
          wrote h.0 (subst (Up q m) (sym end) (good_then w same now (subst Wholes end (wholes_stay r up.whole))))
      good_by y mid rest (side_off w same off left gains) = cc

      by : After m (write x t b) (λ _. giving m a) d o e → Puts a m q g o e
      by (After.stopped f run is) = off_by f is (puts_side x t b (alive p d m up) here long run)
      by (After.went_on y mid run rest) = good_by y mid rest (puts_side x t b (alive p d m up) here long run)

-- to the origin, where the chunk has a copy or the view is void
pub origin_puts : {A : Type 0} (a : A) (p : Plain) (d : Disks) (m : Memory) → Up p m d → (s : ℕ) (b : Bytes) → s < p.size.origin → length b ≡ 512 → (p.void ≡ false → diverged_at p s ≡ true) → (o : Outcome A) (e : Disks) → Runs both (after m (write origin s b) (λ _. giving m a)) d o e → Puts a m (on_origin (added b) s p) (on_origin (perhaps b) s p) o e
origin_puts a p d m up s b here long div o e r =
    put_ends a p d m up origin s b (subst (λ z. s < z.origin) (sym up.agrees.sectors) here) long o e r (on_origin (added b) s p) (on_origin (perhaps b) s p)
    (λ w same now whole. record {
      memory = up.memory;
      whole = whole;
      agrees = origin_agrees p d w s b same now.gains now.here now.else now.on (and_parts d.origin.on d.cow.on up.agrees.on).1 up.agrees div;
      covers = origin_covers p d w s b same now.gains (added b) (added_widens b) div up.covers;
      stands = up.stands;
    })
    (λ w same gains. origin_covers p d w s b same gains (perhaps b) (perhaps_widens b) div up.covers)

-- through the view to the origin, where the chunk has no copy
pub shared_puts : {A : Type 0} (a : A) (p : Plain) (d : Disks) (m : Memory) → Up p m d → (s : ℕ) (b : Bytes) → s < p.size.origin → length b ≡ 512 → lookup (table_of p) (chunk_of p s) ≡ None → (o : Outcome A) (e : Disks) → Runs both (after m (write origin s b) (λ _. giving m a)) d o e → Puts a m (on_origin (added b) s (on_view (added b) s p)) (on_origin (perhaps b) s (on_view (perhaps b) s p)) o e
shared_puts a p d m up s b here long none o e r =
    put_ends a p d m up origin s b (subst (λ z. s < z.origin) (sym up.agrees.sectors) here) long o e r (on_origin (added b) s (on_view (added b) s p)) (on_origin (perhaps b) s (on_view (perhaps b) s p))
    (λ w same now whole. record {
      memory = up.memory;
      whole = whole;
      agrees = shared_agrees p d w s b same now.gains now.here now.else now.on (and_parts d.origin.on d.cow.on up.agrees.on).1 up.agrees none;
      covers = shared_covers p d w s b same now.gains (added b) (added_widens b) up.covers;
      stands = up.stands;
    })
    (λ w same gains. shared_covers p d w s b same gains (perhaps b) (perhaps_widens b) up.covers)

-- to the copy
pub copy_puts : {A : Type 0} (a : A) (p : Plain) (valid : p.void ≡ false) (d : Disks) (m : Memory) → Up p m d → (s k : ℕ) (b : Bytes) → length b ≡ 512 → lookup (table_of p) (chunk_of p s) ≡ Some k → (o : Outcome A) (e : Disks) → Runs both (after m (write cow (in_copy (sectors p.chunk) k s) b) (λ _. giving m a)) d o e → Puts a m (on_view (added b) s p) (on_view (perhaps b) s p) o e
copy_puts a p valid d m up s k b long is o e r =
    let st = up.stands valid in
    let on_cow : k < p.size.cow / sectors p.chunk = (listed_lookup p.size p.chunk (table_of p) st.listed (chunk_of p s) k is).2 in
    let inside : in_copy (sectors p.chunk) k s < d.cow.count = subst (λ z. in_copy (sectors p.chunk) k s < z.cow) (sym up.agrees.sectors) (in_copy_on p.chunk p.size.cow k s on_cow) in
    put_ends a p d m up cow (in_copy (sectors p.chunk) k s) b inside long o e r (on_view (added b) s p) (on_view (perhaps b) s p)
    (λ w same now whole. record {
      memory = up.memory;
      whole = whole;
      agrees = copy_agrees p valid d w s k b is same now.gains st now.here now.else now.on (and_parts d.origin.on d.cow.on up.agrees.on).0 up.agrees;
      covers = copy_covers p valid d w s k b is same now.gains st (added b) (added_widens b) up.covers;
      stands = λ v. copy_stands p valid d w s k b is same now.gains st;
    })
    (λ w same gains. copy_covers p valid d w s k b is same gains st (perhaps b) (perhaps_widens b) up.covers)
