-- Origin writes of an open pair.
use Rattle.std.proofs.Common.{◌≡◌, ℕ, ◌/◌, ◌<◌, Bool, true, false, cond, not, ◌&&◌, ◌||◌, ◌⊎◌, [], ◌∷◌, length, Some, None, Option, sym, refl, ap, ◌∙◌, subst, inl, inr, ⊎_elim}
use Rattle.std.specs.List.{ContainsAt as Has}
use Rattle.std.proofs.ByRecursion.{has_push, has_append_left}
use Rattle.std.proofs.lemmas.Bool.{cases_Bool, or_from, or_left, or_right, cond-true, cond-false, true≢false}
use Rattle.device.specs.Disk.{Bytes, Told, good, refused}
use Rattle.device.specs.Plans.{Plan, Runs, both, Side, cow, Disks}
use Rattle.layout.specs.Chunks.{sectors}
use Rattle.exceptions.specs.Table.{entries_at_most, lookup, room}
use Rattle.store.specs.Steps.{spoiling}
use Rattle.history.specs.Faults.{Fault, Moves, at_side}
use Rattle.history.specs.Steps.{sizes, Memory, serving, invalid, ground, Outcome, after, next_free, copying, origin_put, origin_diverging, origin_served, origin_writing}
use Rattle.history.specs.History.{Call, write_origin, Reply, became_invalid, Answer, replied}
use Rattle.history.specs.Machine.{Plain, added, perhaps, chunk_of, diverged_at, table_of, can_diverge, finds_full, voided, diverge, on_origin, on_view, ready, performed, broken_off}
use Rattle.history.proofs.Changes.{perhaps_widens, origin_covers, changed_else, changed_grows, apart}
use Rattle.history.proofs.Copying.{parted, diverge_is, parted_here}
use Rattle.history.proofs.Ends.{open_memory, Up, Turned, turned, turned_off, Ends, good_end, off_end, down_by}
use Rattle.history.proofs.Invariant.{Covers, Wholes, CutBoth}
use Rattle.history.proofs.Parting.{parts}
use Rattle.history.proofs.Placing.{room_placed}
use Rattle.history.proofs.Putting.{Puts, wrote, fell, origin_puts}
use Rattle.history.proofs.Sides.{WentOff}
use Rattle.history.proofs.Splits.{After, after_parts}
use Rattle.history.proofs.Spoiling.{spoils}
use Rattle.history.proofs.Spots.{uncopied, copy_diverged}
use Rattle.history.proofs.Wholes.{wholes_stay, sizes_stay}

-- ROOM

-- there is a place exactly if one more chunk may diverge
pub place_can : (p : Plain) (k : ℕ) → room entries_at_most (sectors p.chunk) (p.size.cow / sectors p.chunk) (table_of p) ≡ Some k → can_diverge p ≡ true
place_can p k is =
    let by_count = sym (room_placed p.chunk entries_at_most (p.size.cow / sectors p.chunk) p.diverged) ∙ is in
    ⊎_elim (λ can. can) (λ cannot. let none : ◌≡◌ {A = Option ℕ} None (Some k) = sym (cond-false (can_diverge p) _ _ cannot) ∙ by_count in cc) (cases_Bool (can_diverge p))

pub no_place_cannot : (p : Plain) → room entries_at_most (sectors p.chunk) (p.size.cow / sectors p.chunk) (table_of p) ≡ None → can_diverge p ≡ false
no_place_cannot p is =
    let by_count = sym (room_placed p.chunk entries_at_most (p.size.cow / sectors p.chunk) p.diverged) ∙ is in
    ⊎_elim (λ can. let some : ◌≡◌ {A = Option ℕ} None (Some _) = sym by_count ∙ cond-true (can_diverge p) _ _ can in cc) (λ cannot. cannot) (cases_Bool (can_diverge p))

-- the first and the second of two
pub first_of : {X : Type 0} (x y : X) → Has (x ∷ y ∷ []) x
first_of x y = has_append_left (x ∷ []) (y ∷ []) x (has_push [] x)

pub second_of : {X : Type 0} (x y : X) → Has (x ∷ y ∷ []) y
second_of x y = has_push (x ∷ []) y

-- what may be written besides
wider_origin : (q : Plain) (e : Disks) (s : ℕ) (b : Bytes) → (q.void ≡ false → diverged_at q s ≡ true) → Covers q e → Covers (on_origin (perhaps b) s q) e
wider_origin q e s b div c = origin_covers q e e.origin s b refl (λ t y has. inl has) (perhaps b) (perhaps_widens b) div c

pub wider_view : (q : Plain) (e : Disks) (s : ℕ) (b : Bytes) → diverged_at q s ≡ true → Covers q e → Covers (on_view (perhaps b) s q) e
wider_view q e s b div c = record {
  sectors = c.sectors;
  origin = c.origin;
  shared = λ v t l out. changed_else (perhaps b) s q.view t (apart q s t div out) ∙ c.shared v t l out;
  valid = λ v. let k = c.valid v in record { listed = k.listed; lists = k.lists; copies = λ t x y l is has. changed_grows (perhaps b) s q.view b (perhaps_widens b) t y (k.copies t x y l is has) };
  spoiled = c.spoiled;
}

-- FROM STEPS TO ENDS

module _ (p : Plain) (d : Disks) {m₀ : Memory} (up : Up p m₀ d) (e : Disks) {A : Type 0} (f : A → Reply) (o : Outcome A) (whole : Wholes e) (sized : sizes e ≡ sizes d) where
  -- a call whose last step was carried out or broken off
  pub ends_by : (c : Call) (a : A) (m : Memory) (q r : Plain) → performed p c ≡ q → Has (broken_off p c) r → Puts a m q r o e → Ends p c (good (f a)) (replied f o.answer) o.memory e
  ends_by c a m q r same among (wrote is u) =
      let told = ap (λ y. replied f y.answer) is in
      good_end (f a) told told (subst (λ z. Up (performed p c) z e) (sym (ap (λ y. y.memory) is)) (subst (λ z. Up z m e) (sym same) u))
  ends_by c a m q r same among (fell x is n off cover) = off_end x (ap (λ y. replied f y.answer) is) n (down_by r whole (sized ∙ up.agrees.sectors) off among cover)

  -- a call that broke off where it may have come to two things
  pub off_two : (c : Call) (want : Answer) (m : Memory) {B : Type 0} {g : Fault} (q : Plain) → Has (broken_off p c) p → Has (broken_off p c) q → WentOff {A = B} (refused g) e → o ≡ record { answer = refused g; memory = m } → ((x : Disks) → CutBoth e x → Covers p x ⊎ Covers q x) → Ends p c want (replied f o.answer) o.memory e
  off_two c want m {B} {g} q one two off is survives =
      let same : g ≡ off.fault = let h = off.told in cc in
      off_end g (ap (λ y. replied f y.answer) is) (ap (λ y. y.number) same ∙ off.number)
      (record { whole = whole; sectors = sized ∙ up.agrees.sectors; gone = off.gone; survives = λ x cut. ⊎_elim (λ c. (p, one, c)) (λ c. (q, two, c)) (survives x cut) })

  -- a call whose steps turn p into q, and whose last one makes it w: broken off it may have come to r
  pub turn_ends : {B : Type 0} (c : Call) (a : A) (m m' : Memory) (q w r : Plain) (y : B) (steps : Moves B) (k : B → Plan Side (Outcome A)) → performed p c ≡ w → Has (broken_off p c) p → Has (broken_off p c) r → ((t : Told Fault B) (u : Disks) → Runs both steps d t u → Turned p q m' y t u) → ((x : Disks) → Covers q x → Covers r x) → ((mid : Disks) → Up q m' mid → Runs both (k y) mid o e → Puts a m' w r o e) → Runs both (after m steps k) d o e → Ends p c (good (f a)) (replied f o.answer) o.memory e
  turn_ends {B} c a m m' q w r y steps k same one two turns widens puts run = by (after_parts m steps k run)
    where
      Wanted : Type 0
      Wanted = Ends p c (good (f a)) (replied f o.answer) o.memory e

      off_by : (g : Fault) → o ≡ record { answer = refused g; memory = m } → Turned p q m' y (refused g) e → Wanted
      off_by g is (turned told u) = cc
      off_by g is (turned_off off survives) = off_two c (good (f a)) m r one two off is (λ x cut. ⊎_elim inl (λ z. inr (widens x z)) (survives x cut))

      good_by : (b : B) (mid : Disks) → Runs both (k b) mid o e → Turned p q m' y (good b) mid → Wanted
      good_by b mid rest (turned told u) = let is : b ≡ y = cc in ends_by c a m' w r same two (puts mid u (subst (λ b. Runs both (k b) mid o e) is rest))
      good_by b mid rest (turned_off off survives) = cc

      by : After m steps k d o e → Wanted
      by (After.stopped g first is) = off_by g is (turns _ _ first)
      by (After.went_on b mid first rest) = good_by b mid rest (turns _ _ first)

-- ORIGIN WRITES

module _ (p : Plain) (d : Disks) (s : ℕ) (b : Bytes) (k : ℕ) (here : s < p.size.origin) (long : length b ≡ 512) (o : Outcome Bool) (e : Disks) where
  Done : Type 0
  Done = Ends p (write_origin s b k) (good (became_invalid (finds_full p s))) (replied became_invalid o.answer) o.memory e

  -- the answer, by what the machine says
  told_by : (x : Bool) → finds_full p s ≡ x → Ends p (write_origin s b k) (good (became_invalid x)) (replied became_invalid o.answer) o.memory e → Done
  unfolding Done
  told_by x is h = subst (λ y. Ends p (write_origin s b k) (good (became_invalid y)) (replied became_invalid o.answer) o.memory e) (sym is) h

  -- no copy is wanted: the view is void, or the chunk has one
  no_copying : (m : Memory) → Up p m d → (p.void || diverged_at p s) ≡ true → (p.void ≡ false → diverged_at p s ≡ true) → ready p s ≡ p → finds_full p s ≡ false → Runs both (origin_put m s b false) d o e → Done
  no_copying m up either div same full r =
      told_by false full
      (ends_by p d up e became_invalid o (wholes_stay r up.whole) (sizes_stay r) (write_origin s b k) false m (on_origin (added b) s p) (on_origin (perhaps b) s p)
      (ap (on_origin (added b) s) same)
      (subst (λ l. Has l (on_origin (perhaps b) s p)) (sym (cond-true (p.void || diverged_at p s) _ _ either)) (has_push [] _))
      (origin_puts false p d m up s b here long div o e r))

  module _ (valid : p.void ≡ false) (up : Up p (serving p.chunk (table_of p)) d) (out : diverged_at p s ≡ false) where
    two_ways : broken_off p (write_origin s b k) ≡ p ∷ on_origin (perhaps b) s (ready p s) ∷ []
    two_ways = cond-false (p.void || diverged_at p s) _ _ (or_from _ _ valid out)

    readied : (x : Bool) → can_diverge p ≡ x → ready p s ≡ cond x (diverge p s) (voided p)
    readied x is = cond-false p.void _ _ valid ∙ cond-false (diverged_at p s) _ _ out ∙ ap (λ y. cond y (diverge p s) (voided p)) is

    full_by : (x : Bool) → can_diverge p ≡ x → finds_full p s ≡ not x
    full_by x is = ap (λ v. not v && (not (diverged_at p s) && not (can_diverge p))) valid ∙ ap (λ v. not v && not (can_diverge p)) out ∙ ap not is

    -- the member that is written to
    second : (q : Plain) → ready p s ≡ q → Has (broken_off p (write_origin s b k)) (on_origin (perhaps b) s q)
    second q is = subst (λ l. Has l (on_origin (perhaps b) s q)) (sym two_ways) (subst (λ y. Has (p ∷ on_origin (perhaps b) s y ∷ []) (on_origin (perhaps b) s q)) (sym is) (second_of p _))

    first_one : Has (broken_off p (write_origin s b k)) p
    first_one = subst (λ l. Has l p) (sym two_ways) (first_of p _)

    -- the chunk is copied first
    with_room : (place : ℕ) → room entries_at_most (sectors p.chunk) (p.size.cow / sectors p.chunk) (table_of p) ≡ Some place → Runs both (after (serving p.chunk (table_of p)) (copying (ground d) p.chunk (table_of p) (chunk_of p s) place) (λ more. origin_put (serving p.chunk more) s b false)) d o e → Done
    with_room place free r =
        let can = place_can p place free in
        let same = readied true can ∙ diverge_is p s place out free in
        let div : diverged_at (parted p s) s ≡ true = copy_diverged (parted p s) s place (parted_here p s place out free s refl) in
        told_by false (full_by true can)
        (turn_ends p d up e became_invalid o (wholes_stay r up.whole) (sizes_stay r) (write_origin s b k) false (serving p.chunk (table_of p)) (serving p.chunk (table_of (parted p s))) (parted p s) (on_origin (added b) s (parted p s)) (on_origin (perhaps b) s (parted p s))
        (table_of (parted p s)) (copying (ground d) p.chunk (table_of p) (chunk_of p s) place) (λ more. origin_put (serving p.chunk more) s b false)
        (ap (on_origin (added b) s) same) first_one (second (parted p s) same)
        (λ t u run. parts p valid d up s here out place free run)
        (λ x c. wider_origin (parted p s) x s b (λ _. div) c)
        (λ mid u rest. origin_puts false (parted p s) mid _ u s b here long (λ _. div) o e rest)
        r)

    -- there is no place: the store is spoiled first
    without_room : room entries_at_most (sectors p.chunk) (p.size.cow / sectors p.chunk) (table_of p) ≡ None → Runs both (after (serving p.chunk (table_of p)) (at_side cow (spoiling (sectors p.chunk))) (λ _. origin_put invalid s b true)) d o e → Done
    without_room none r =
        let cannot = no_place_cannot p none in
        let same = readied false cannot in
        let div : (voided p).void ≡ false → diverged_at (voided p) s ≡ true = λ v. absurd (true≢false v) in
        told_by true (full_by false cannot)
        (turn_ends p d up e became_invalid o (wholes_stay r up.whole) (sizes_stay r) (write_origin s b k) true (serving p.chunk (table_of p)) invalid (voided p) (on_origin (added b) s (voided p)) (on_origin (perhaps b) s (voided p))
        tt (at_side cow (spoiling (sectors p.chunk))) (λ _. origin_put invalid s b true)
        (ap (on_origin (added b) s) same) first_one (second (voided p) same)
        (λ t u run. spoils p valid d up run)
        (λ x c. wider_origin (voided p) x s b div c)
        (λ mid u rest. origin_puts true (voided p) mid invalid u s b here long div o e rest)
        r)

    by_room : (place : Option ℕ) → room entries_at_most (sectors p.chunk) (p.size.cow / sectors p.chunk) (table_of p) ≡ place → Runs both (origin_diverging (ground d) p.chunk (table_of p) s b place) d o e → Done
    by_room None is r = without_room is r
    by_room (Some place) is r = with_room place is r

-- the place for a copy, by the machine's sizes
pub free_by : (p : Plain) (d : Disks) {m : Memory} → Up p m d → next_free (ground d) p.chunk (table_of p) ≡ room entries_at_most (sectors p.chunk) (p.size.cow / sectors p.chunk) (table_of p)
free_by p d up = ap (λ z. room entries_at_most (sectors p.chunk) (z.cow / sectors p.chunk) (table_of p)) up.agrees.sectors

pub core_write_origin : (p : Plain) (d : Disks) (s : ℕ) (b : Bytes) (k : ℕ) → Up p (open_memory p) d → s < p.size.origin → length b ≡ 512 → (o : Outcome Bool) (e : Disks) → Runs both (origin_writing (ground d) (open_memory p) s b) d o e → Ends p (write_origin s b k) (good (became_invalid (finds_full p s))) (replied became_invalid o.answer) o.memory e
unfolding Done
core_write_origin p d s b k up here long o e r = ⊎_elim void valid (cases_Bool p.void)
  where
    Wanted : Type 0
    Wanted = Ends p (write_origin s b k) (good (became_invalid (finds_full p s))) (replied became_invalid o.answer) o.memory e

    void : p.void ≡ true → Wanted
    void v =
        let is : open_memory p ≡ invalid = cond-true p.void _ _ v in
        no_copying p d s b k here long o e invalid (subst (λ m. Up p m d) is up) (or_left p.void _ v) (λ n. absurd (true≢false (sym v ∙ n))) (cond-true p.void _ _ v) (ap (λ x. not x && (not (diverged_at p s) && not (can_diverge p))) v)
        (subst (λ m. Runs both (origin_writing (ground d) m s b) d o e) is r)

    valid : p.void ≡ false → Wanted
    valid v = by (lookup (table_of p) (chunk_of p s)) refl
      where
        is : open_memory p ≡ serving p.chunk (table_of p)
        is = cond-false p.void _ _ v

        up' : Up p (serving p.chunk (table_of p)) d
        up' = subst (λ m. Up p m d) is up

        r' : Runs both (origin_served (ground d) p.chunk (table_of p) s b (lookup (table_of p) (chunk_of p s))) d o e
        r' = subst (λ m. Runs both (origin_writing (ground d) m s b) d o e) is r

        by : (x : Option ℕ) → lookup (table_of p) (chunk_of p s) ≡ x → Wanted
        by (Some x) found =
            let div = copy_diverged p s x found in
            no_copying p d s b k here long o e (serving p.chunk (table_of p)) up' (or_right p.void _ div) (λ _. div) (cond-false p.void _ _ v ∙ cond-true (diverged_at p s) _ _ div) (ap (λ y. not y && (not (diverged_at p s) && not (can_diverge p))) v ∙ ap (λ y. not y && not (can_diverge p)) div)
            (subst (λ y. Runs both (origin_served (ground d) p.chunk (table_of p) s b y) d o e) found r')
        by None none =
            by_room p d s b k here long o e v up' (uncopied p s none) (room entries_at_most (sectors p.chunk) (p.size.cow / sectors p.chunk) (table_of p)) refl
            (subst (λ y. Runs both (origin_diverging (ground d) p.chunk (table_of p) s b y) d o e) (free_by p d up) (subst (λ y. Runs both (origin_served (ground d) p.chunk (table_of p) s b y) d o e) none r'))
