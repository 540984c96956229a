-- What steps at one of the two devices leave of both.
use Rattle.std.proofs.Common.{◌≡◌, ℕ, ◌+◌, ◌*◌, ◌<◌, ◌≤◌, true, false, ◌⊎◌, [], length, sym, refl, ap, ◌∙◌, subst, subst₂, inl, inr, ⊎_elim}
use Rattle.std.specs.List.{ContainsAt as Has}
use Rattle.std.proofs.lemmas.Bool.{and_parts, and_left, and_right}
use Rattle.device.specs.Disk.{Bytes, Disk, reads, writes, flushes, possibilities, settled, Told, good, refused, Refusal, refusal}
use Rattle.device.specs.Plans.{Plan, Runs, both, Side, origin, cow, Disks, pair, then, side, with_side, with_same, raised, gathering, spreading}
use Rattle.device.proofs.Possible.{last_has}
use Rattle.device.proofs.Uses.{count_stays}
use Rattle.device.specs.Sectors.{only}
use Rattle.recovery.specs.Readings.{image, gathered}
use Rattle.recovery.specs.Standing.{Within}
use Rattle.history.specs.Faults.{Fault, Moves, passed_up, at_side, read, write, flush}
use Rattle.store.specs.Steps.{only_call}
use Rattle.history.specs.Steps.{both_on}
use Rattle.history.proofs.Invariant.{Wholes, Fewer, fewer_refl, fewer_trans}
use Rattle.history.proofs.Fair.{Readable}
use Rattle.history.proofs.Moves.{OnOne, one_good, one_off, Asked, Gains, GainsOne, Spread, PutOne, reads_one, reads_range, writes_range, writes_one, flushes_one}
use Rattle.history.proofs.Splits.{At, at_one, Then, stopped, went_on, then_parts}

-- both devices are on, and whole
pub record Live (d : Disks) : Type 0 where
  pub on : (x : Side) → (side x d).on ≡ true
  pub long : (x : Side) → Readable (side x d)

-- no possibility that was not there
pub record FewerBoth (d e : Disks) : Type 0 where
  pub origin : Fewer d.origin e.origin
  pub cow : Fewer d.cow e.cow

-- a device went inside some steps
pub record WentOff {A : Type 0} (t : Told Fault A) (e : Disks) : Type 0 where
  pub fault : Fault
  pub told : t ≡ refused fault
  pub number : fault.number ≡ 3
  pub gone : both_on e ≡ false

pub live : {d : Disks} → both_on d ≡ true → Wholes d → Live d
live {d} on w = record { on = λ x. is_on x; long = λ x. is_long x }
  where
    is_on : (x : Side) → (side x d).on ≡ true
    is_on origin = (and_parts d.origin.on d.cow.on on).0
    is_on cow = (and_parts d.origin.on d.cow.on on).1

    is_long : (x : Side) → Readable (side x d)
    is_long origin = λ s l. w.origin.long s _ l (last_has (d.origin.cells s))
    is_long cow = λ s l. w.cow.long s _ l (last_has (d.cow.cells s))

-- another origin that is on, and whole
pub live_origin : {m : Disks} (o : Disk) → Live m → o.on ≡ true → Readable o → Live (with_side origin m o)
live_origin {m} o l on long = record { on = λ x. is_on x; long = λ x. is_long x }
  where
    is_on : (x : Side) → (side x (with_side origin m o)).on ≡ true
    is_on origin = on
    is_on cow = l.on cow

    is_long : (x : Side) → Readable (side x (with_side origin m o))
    is_long origin = long
    is_long cow = l.long cow

-- one device gone, and one with fewer possibilities
pub off_side : (x : Side) (d : Disks) (w : Disk) → w.on ≡ false → both_on (with_side x d w) ≡ false
off_side origin d w h = and_left w.on d.cow.on h
off_side cow d w h = and_right d.origin.on w.on h

pub fewer_side : (x : Side) (d : Disks) (w : Disk) → Fewer (side x d) w → FewerBoth d (with_side x d w)
fewer_side origin d w h = record { origin = h; cow = fewer_refl }
fewer_side cow d w h = record { origin = fewer_refl; cow = h }

-- a device's 3 passes up as 3
pub three : (x : Side) (q : ℕ) → (passed_up x (refusal 3 q)).number ≡ 3
three origin q = refl
three cow q = refl

-- steps at one device were refused by what passes up as a 3, and the device is off
pub passed_off : {F A : Type 0} (x : Side) (up : F → Fault) (f : F) (d : Disks) (w : Disk) {t : Told Fault A} {e : Disks} {u : Told F A} → (up f).number ≡ 3 → t ≡ raised up u → e ≡ with_side x d w → u ≡ refused f → w.on ≡ false → WentOff t e
passed_off x up f d w number told left is off = record { fault = up f; told = told ∙ ap (raised up) is; number = number; gone = subst (λ y. both_on y ≡ false) (sym left) (off_side x d w off) }

pub went_off : {A : Type 0} (x : Side) (d : Disks) (w : Disk) (q : ℕ) {t : Told Fault A} {e : Disks} {u : Told Refusal A} → t ≡ raised (passed_up x) u → e ≡ with_side x d w → u ≡ refused (refusal 3 q) → w.on ≡ false → WentOff t e
went_off x d w q told left is off = passed_off x (passed_up x) (refusal 3 q) d w (three x q) told left is off

-- a device went inside the first steps, and so inside all
pub off_as : {A B : Type 0} {t : Told Fault B} {f : Fault} {e : Disks} → t ≡ refused f → WentOff {A = A} (refused f) e → WentOff t e
off_as {A} {B} {t} {f} is off =
    let h = off.told in
    let same : f ≡ off.fault = cc in
    record { fault = off.fault; told = is ∙ ap refused same; number = off.number; gone = off.gone }

-- READS AND FLUSHES

-- what steps that write nothing come to: the bytes that are wanted, and devices n; or a device went
pub data AskedBoth (d : Disks) (want : Bytes) (n : Disks) (t : Told Fault Bytes) (e : Disks) : Type 0 where
  both_good : t ≡ good want → e ≡ n → AskedBoth d want n t e
  both_off : WentOff t e → FewerBoth d e → AskedBoth d want n t e

from_one : (x : Side) {d n e : Disks} {t : Told Fault Bytes} {want : Bytes} {m : Disk} {p : Plan (Unit {0}) (Told Refusal Bytes)} → with_side x d m ≡ n → (a : At Refusal Bytes x p (passed_up x) d t e) → Asked (side x d) want m a.answer a.disk → AskedBoth d want n t e
from_one x {d} there a (one_good is same) = both_good (a.told ∙ ap (raised (passed_up x)) is) (a.left ∙ ap (with_side x d) same ∙ there)
from_one x {d} there a (one_off q is off few) = both_off (went_off x d a.disk q a.told a.left is off) (subst (FewerBoth d) (sym a.left) (fewer_side x d a.disk few))

pub reads_side : (x : Side) (s : ℕ) {d e : Disks} {t : Told Fault Bytes} → Live d → s < (side x d).count → Runs both (read x s) d t e → AskedBoth d (image (side x d) s) d t e
reads_side x s {d} l here r = let a = at_one x (only_call (reads 512 s)) r in from_one x (with_same x d) a (reads_one s here (l.long x) (l.on x) a.ran)

pub reads_chunk : (x : Side) (n s : ℕ) {d e : Disks} {t : Told Fault Bytes} → Live d → s + n ≤ (side x d).count → Runs both (at_side x (gathering s n [])) d t e → AskedBoth d (gathered (image (side x d)) s n []) d t e
reads_chunk x n s {d} l inside r = let a = at_one x (gathering s n []) r in from_one x (with_same x d) a (reads_range n s inside (l.long x) (l.on x) a.ran)

pub flushes_side : (x : Side) {d e : Disks} {t : Told Fault Bytes} → Live d → Runs both (flush x) d t e → AskedBoth d [] (with_side x d (settled (side x d))) t e
flushes_side x l r = let a = at_one x (only_call flushes) r in from_one x refl a (flushes_one (l.long x) (l.on x) a.ran)

-- such steps and then the rest; or a device went
pub asked_then : {B : Type 0} (p : Moves Bytes) (k : Bytes → Moves B) {d n e : Disks} {want : Bytes} {t : Told Fault B} → ((u : Told Fault Bytes) (y : Disks) → Runs both p d u y → AskedBoth d want n u y) → Runs both (then p k) d t e → (WentOff t e × FewerBoth d e) ⊎ Runs both (k want) n t e
asked_then {B} p k {d} {n} {e} {want} {t} asks r = by (then_parts p k r)
  where
    ended : (f : Fault) → t ≡ refused f → AskedBoth d want n (refused f) e → (WentOff t e × FewerBoth d e) ⊎ Runs both (k want) n t e
    ended f is (both_good wrong same) = cc
    ended f is (both_off off few) = inl (off_as is off, few)

    goes : (a : Bytes) (mid : Disks) → Runs both (k a) mid t e → AskedBoth d want n (good a) mid → (WentOff t e × FewerBoth d e) ⊎ Runs both (k want) n t e
    goes a mid q (both_good is same) = let bytes : a ≡ want = cc in inr (subst₂ (λ b y. Runs both (k b) y t e) bytes same q)
    goes a mid q (both_off off few) = cc

    by : Then p k d t e → (WentOff t e × FewerBoth d e) ⊎ Runs both (k want) n t e
    by (stopped f q is) = ended f is (asks _ _ q)
    by (went_on a mid q rest) = goes a mid rest (asks _ _ q)

-- both devices flushed
abbrev pub rested : Disks → Disks
rested d = pair (settled d.origin) (settled d.cow)

pub settled_fewer : (d : Disk) → Fewer d (settled d)
settled_fewer d = record { count = refl; possible = λ s b has. subst (Has (possibilities (d.cells s))) (only has) (last_has (d.cells s)) }

pub flushes_both : {d e : Disks} {t : Told Fault Bytes} → Live d → Runs both (then (flush origin) (λ _. flush cow)) d t e → AskedBoth d [] (rested d) t e
flushes_both {d} {e} {t} l r =
    ⊎_elim
    (λ x. both_off x.0 x.1)
    (λ q. second (flushes_side cow (live_origin (settled d.origin) l (l.on origin) (l.long origin)) q))
    (asked_then (flush origin) (λ _. flush cow) (λ u y z. flushes_side origin l z) r)
  where
    second : AskedBoth (with_side origin d (settled d.origin)) [] (rested d) t e → AskedBoth d [] (rested d) t e
    second (both_good is same) = both_good is same
    second (both_off off few) = both_off off (record { origin = fewer_trans (settled_fewer d.origin) few.origin; cow = few.cow })

-- WRITES

-- how steps at one device end: good, with answer a and G of what they leave there; or a device went, and O of what is left
pub data OnSide {A : Type 0} (x : Side) (d : Disks) (G O : Disk → Type 0) (a : A) (t : Told Fault A) (e : Disks) : Type 0 where
  side_good : (w : Disk) → w.count ≡ (side x d).count → t ≡ good a → e ≡ with_side x d w → G w → OnSide x d G O a t e
  side_off : (w : Disk) → w.count ≡ (side x d).count → WentOff t e → e ≡ with_side x d w → O w → OnSide x d G O a t e

on_side : {A : Type 0} (x : Side) {d e : Disks} {t : Told Fault A} {p : Plan (Unit {0}) (Told Refusal A)} {G O : Disk → Type 0} {a : A} → (s : At Refusal A x p (passed_up x) d t e) → OnOne G O a s.answer s.disk → OnSide x d G O a t e
on_side x s (one_good is g) = side_good s.disk (count_stays s.ran) (s.told ∙ ap (raised (passed_up x)) is) s.left g
on_side x {d} s (one_off q is off o) = side_off s.disk (count_stays s.ran) (went_off x d s.disk q s.told s.left is off) s.left o

-- one sector of one device written, or a device went
abbrev pub PutBoth : Side → Disks → ℕ → Bytes → Told Fault Bytes → Disks → Type 0
PutBoth x d s bytes = OnSide x d (PutOne (side x d) s bytes) (Within (GainsOne (side x d) s bytes)) []

pub puts_side : (x : Side) (s : ℕ) (bytes : Bytes) {d e : Disks} {t : Told Fault Bytes} → Live d → s < (side x d).count → length bytes ≡ 512 → Runs both (write x s bytes) d t e → PutBoth x d s bytes t e
puts_side x s bytes l here size r = let a = at_one x (only_call (writes s bytes)) r in on_side x a (writes_one s bytes here size (l.long x) (l.on x) a.ran)

-- n sectors of one device written, or a device went
abbrev pub SpreadBoth : Side → Disks → ℕ → ℕ → Bytes → Told Fault (Unit {0}) → Disks → Type 0
SpreadBoth x d s n bytes = OnSide x d (Spread (side x d) s n bytes) (Within (Gains (side x d) s n bytes)) (tt {0})

pub spreads_side : (x : Side) (n s : ℕ) (bytes : Bytes) {d e : Disks} {t : Told Fault (Unit {0})} → Live d → s + n ≤ (side x d).count → length bytes ≡ 512 * n → Runs both (at_side x (spreading s n bytes)) d t e → SpreadBoth x d s n bytes t e
spreads_side x n s bytes l inside size r = let a = at_one x (spreading s n bytes) r in on_side x a (writes_range n s bytes inside size (l.long x) (l.on x) a.ran)

-- such a spreading and then the rest: a device went in it, or it is done and the rest ran
pub data Spreads {B : Type 0} (x : Side) (d : Disks) (s n : ℕ) (bytes : Bytes) (more : Moves B) (t : Told Fault B) (e : Disks) : Type 0 where
  spread_off : (w : Disk) → w.count ≡ (side x d).count → WentOff t e → e ≡ with_side x d w → Within (Gains (side x d) s n bytes) w → Spreads x d s n bytes more t e
  spread_on : (w : Disk) → w.count ≡ (side x d).count → Spread (side x d) s n bytes w → Runs both (at_side x (spreading s n bytes)) d (good tt) (with_side x d w) → Runs both more (with_side x d w) t e → Spreads x d s n bytes more t e

pub spreads_then : {B : Type 0} (x : Side) (n s : ℕ) (bytes : Bytes) (more : Moves B) {d e : Disks} {t : Told Fault B} → Live d → s + n ≤ (side x d).count → length bytes ≡ 512 * n → Runs both (then (at_side x (spreading s n bytes)) (λ _. more)) d t e → Spreads x d s n bytes more t e
spreads_then {B} x n s bytes more {d} {e} {t} l inside size r = by (then_parts (at_side x (spreading s n bytes)) (λ _. more) r)
  where
    ended : (f : Fault) → t ≡ refused f → SpreadBoth x d s n bytes (refused f) e → Spreads x d s n bytes more t e
    ended f is (side_good w same wrong left g) = cc
    ended f is (side_off w same off left gains) = spread_off w same (off_as is off) left gains

    goes : (mid : Disks) → Runs both (at_side x (spreading s n bytes)) d (good tt) mid → Runs both more mid t e → SpreadBoth x d s n bytes (good tt) mid → Spreads x d s n bytes more t e
    goes mid q rest (side_good w same is left g) = spread_on w same g (subst (λ y. Runs both (at_side x (spreading s n bytes)) d (good tt) y) left q) (subst (λ y. Runs both more y t e) left rest)
    goes mid q rest (side_off w same off left gains) = cc

    by : Then (at_side x (spreading s n bytes)) (λ _. more) d t e → Spreads x d s n bytes more t e
    by (stopped f q is) = ended f is (spreads_side x n s bytes l inside size q)
    by (went_on (tt) mid q rest) = goes mid q rest (spreads_side x n s bytes l inside size q)
