-- The calls of a store, good or broken off.
use Rattle.std.proofs.Common.{◌≡◌, ℕ, ◌-◌, ◌/◌, ◌<◌, Bool, false, not, ◌||◌, ltb, ◌⊎◌, List, [], ◌∷◌, length, Some, None, Option, sym, refl, ap, ◌∙◌, subst, inl, inr, ⊎_elim, arith}
use Rattle.std.proofs.lemmas.Bool.{cases_Bool, or_parts, not-false, ltb-true, cond-true, cond-false}
use Rattle.device.specs.Disk.{Disk, Told, good, refused, Refusal, Cut, put}
use Rattle.device.specs.Plans.{Plan, done, bind, Runs, one, onward, raised, lifted}
use Rattle.device.proofs.Uses.{over as run_over, halves}
use Rattle.layout.specs.declared.chunk.ChunkSize.{ChunkSize}
use Rattle.layout.specs.declared.exception.Exception.{Exception}
use Rattle.layout.specs.Chunks.{sectors}
use Rattle.layout.specs.Headers.{header}
use Rattle.exceptions.specs.Table.{entries_at_most, has_old, last_run, room, without_run}
use Rattle.store.specs.Image.{Sizes}
use Rattle.store.specs.Refusals.{StoreRefusal, StoreSteps, because, up, doing}
use Rattle.store.specs.Steps.{shape_of, making, spoiling, entering, dropping, enter, entered_at}
use Rattle.recovery.specs.Readings.{image, found}
use Rattle.recovery.specs.Standing.{Standing, Stands, Presence, StandingShows}
use Rattle.recovery.specs.Breaks.{more, MakingLeaves, SpoilingLeaves, DroppingLeaves}
use Rattle.recovery.specs.Calls.{make, spoil, MakeStands, EnterStands, EnterLeaves, DropStands, DropLeaves, SpoilStays}
use Rattle.recovery.proofs.Allowed.{cut_within}
use Rattle.recovery.proofs.Drops.{dropping_stands}
use Rattle.recovery.proofs.Enters.{entering_leaves, entering_stands}
use Rattle.recovery.proofs.Listing.{entering_listed}
use Rattle.recovery.proofs.Makes.{making_leaves, making_stands}
use Rattle.recovery.proofs.Spoils.{invalid_opens, spoiling_leaves}
use Rattle.recovery.proofs.Zeros.{put_here, settled_single, stored_good}

-- steps on the device, and then an answer: they were good and so is it, or the device refused
pub data Did {A : Type 0} (p : Plan (Unit {0}) (Told Refusal (Unit {0}))) (a : A) (t : Told StoreRefusal A) (d e : Disk) : Type 0 where
  went : Runs one p d (good tt) e → t ≡ good a → Did p a t d e
  broke : (f : Refusal) → Runs one p d (refused f) e → t ≡ refused (up f) → Did p a t d e

-- a plan whose answer is a, or the refusal passed up
answered : {A : Type 0} (p : Plan (Unit {0}) (Told Refusal (Unit {0}))) (k : Told Refusal (Unit {0}) → StoreSteps A) (a : A) (t : Told StoreRefusal A) (d e : Disk) → k (good tt) ≡ done (good a) → ((f : Refusal) → k (refused f) ≡ done (refused (up f))) → Runs one (bind p k) d t e → Did p a t d e
answered {A} p k a t d e on_good on_refused r = let h = halves p k r in by h.mid h.between h.first h.rest
  where
    by : (u : Told Refusal (Unit {0})) (mid : Disk) → Runs one p d u mid → Runs one (k u) mid t e → Did p a t d e
    by (good tt) mid first q = let o = run_over (subst (λ p. Runs one p mid t e) on_good q) in went (subst (λ y. Runs one p d (good tt) y) (sym o.1) first) o.0
    by (refused f) mid first q = let o = run_over (subst (λ p. Runs one p mid t e) (on_refused f) q) in broke f (subst (λ y. Runs one p d (refused f) y) (sym o.1) first) o.0

pub did : {A : Type 0} (p : Plan (Unit {0}) (Told Refusal (Unit {0}))) (a : A) (t : Told StoreRefusal A) (d e : Disk) → Runs one (doing p (λ _. done (good a))) d t e → Did p a t d e
did p a t d e r = answered p (λ u. onward (raised up u) (λ _. done (good a))) a t d e refl (λ f. refl) r

pub lifts : (p : Plan (Unit {0}) (Told Refusal (Unit {0}))) (t : Told StoreRefusal (Unit {0})) (d e : Disk) → Runs one (lifted up p) d t e → Did {A = Unit {0}} p tt t d e
lifts p t d e r = answered p (λ u. done (raised up u)) tt t d e refl (λ f. refl) r

pub same_answer : {A : Type 0} {a b : A} → ◌≡◌ {A = Told StoreRefusal A} (good a) (good b) → a ≡ b
same_answer h = cc

-- whatever the answer, the steps ran
pub did_run : {A : Type 0} {p : Plan (Unit {0}) (Told Refusal (Unit {0}))} {a : A} {t : Told StoreRefusal A} {d e : Disk} → Did p a t d e → (u : Told Refusal (Unit {0})) × Runs one p d u e
did_run (went run is) = (good tt, run)
did_run (broke f run is) = (refused f, run)

-- what stands is there after a power cut
stays : {There : Presence} → StandingShows There → (z : Sizes) (size : ChunkSize) (es : List Exception) (e after : Disk) → Stands z size es e → Cut e after → There z size es (image after)
stays shows z size es e after stands cut = shows z size es (image after) stands.listed (cut_within (Standing (shape_of z size) es) stands.sectors cut)

-- ENTERING

-- a call of enter: refused without a device call, or the steps of entering an old chunk at the next place
pub data Entered (z : Sizes) (size : ChunkSize) (es : List Exception) (old : ℕ) (t : Told StoreRefusal (List Exception)) (d e : Disk) : Type 0 where
  declined : (f : StoreRefusal) → t ≡ refused f → e ≡ d → Entered z size es old t d e
  tried : (p : ℕ) → has_old es old ≡ false → old < z.origin / sectors size → room entries_at_most (sectors size) (z.cow / sectors size) es ≡ Some p → Did (entering (sectors size) (more es (record { old = old; new = p })) (length es)) (more es (record { old = old; new = p })) t d e → Entered z size es old t d e

pub entered : (z : Sizes) (size : ChunkSize) (es : List Exception) (old : ℕ) (t : Told StoreRefusal (List Exception)) (d e : Disk) → Runs one (enter (shape_of z size) es old) d t e → Entered z size es old t d e
entered z size es old t d e r =
    ⊎_elim
    (λ bad. let o = run_over (subst (λ p. Runs one p d t e) (cond-true test _ _ bad) r) in declined _ o.0 o.1)
    (λ fine.
    let both = or_parts (has_old es old) (not (ltb old (z.origin / sectors size))) fine in
    by both.0 (ltb-true _ _ (not-false _ both.1)) (room entries_at_most (sectors size) (z.cow / sectors size) es) refl (subst (λ p. Runs one p d t e) (cond-false test _ _ fine) r))
    (cases_Bool test)
  where
    test : Bool
    test = has_old es old || not (ltb old (z.origin / sectors size))

    by : has_old es old ≡ false → old < z.origin / sectors size → (place : Option ℕ) → room entries_at_most (sectors size) (z.cow / sectors size) es ≡ place → Runs one (entered_at (sectors size) es old place) d t e → Entered z size es old t d e
    by free inside None is q = let o = run_over q in declined _ o.0 o.1
    by free inside (Some p) is q = tried p free inside is (did (entering (sectors size) (more es (record { old = old; new = p })) (length es)) (more es (record { old = old; new = p })) t d e q)

pub enter_stands : EnterStands
enter_stands z size es table old d e small few stands r = by (entered z size es old (good table) d e r)
  where
    by : Entered z size es old (good table) d e → Stands z size table e
    by (declined f is same) = cc
    by (tried p free inside is (went run answer)) =
        subst (λ l. Stands z size l e) (sym (same_answer answer)) (entering_stands z size es _ d e stands (entering_listed z size es old p small few stands.listed free inside is) run)
    by (tried p free inside is (broke f run answer)) = cc

pub enter_leaves : {There : Presence} → StandingShows There → EnterLeaves There
enter_leaves {There} shows z size es old d e after t small few stands r cut = by (entered z size es old t d e r)
  where
    by : Entered z size es old t d e → There z size es (image after) ⊎ ((p : ℕ) × (room entries_at_most (sectors size) (z.cow / sectors size) es ≡ Some p) × There z size (more es (record { old = old; new = p })) (image after))
    by (declined f is same) = inl (stays shows z size es e after (subst (λ y. Stands z size es y) (sym same) stands) cut)
    by (tried p free inside is h) =
        let u = did_run h in
        ⊎_elim inl (λ new. inr (p, is, new)) (entering_leaves shows z size es _ d e after u.0 stands (entering_listed z size es old p small few stands.listed free inside is) u.1 cut)

-- DROPPING

pub drop_stands : DropStands
drop_stands z size [] table d e stands r = let o = run_over r in subst (λ l. Stands z size l e) (sym (same_answer o.0)) (subst (λ y. Stands z size [] y) (sym o.1) stands)
drop_stands z size (x ∷ xs) table d e stands r = by (did (dropping (sectors size) (without_run (sectors size) (x ∷ xs)) (length (x ∷ xs))) (without_run (sectors size) (x ∷ xs)) (good table) d e r)
  where
    by : Did (dropping (sectors size) (without_run (sectors size) (x ∷ xs)) (length (x ∷ xs))) (without_run (sectors size) (x ∷ xs)) (good table) d e → Stands z size table e
    by (went run answer) = subst (λ l. Stands z size l e) (sym (same_answer answer)) (dropping_stands z size (x ∷ xs) (length (x ∷ xs) - last_run (sectors size) (x ∷ xs)) d e stands (omega arith) run)
    by (broke f run answer) = cc

pub drop_leaves : {There : Presence} → StandingShows There → DroppingLeaves There → DropLeaves There
drop_leaves shows leaves z size [] d e after t stands r cut = (0, omega arith, omega arith, stays shows z size [] e after (subst (λ y. Stands z size [] y) (sym (run_over r).1) stands) cut)
drop_leaves shows leaves z size (x ∷ xs) d e after t stands r cut =
    let u = did_run (did (dropping (sectors size) (without_run (sectors size) (x ∷ xs)) (length (x ∷ xs))) (without_run (sectors size) (x ∷ xs)) t d e r) in
    leaves z size (x ∷ xs) (length (x ∷ xs) - last_run (sectors size) (x ∷ xs)) d e after u.0 stands (omega arith) u.1 cut

-- SPOILING

pub spoil_stays : SpoilStays
spoil_stays z size d e after shape r cut = by (lifts (spoiling (sectors size)) (good tt) d e r)
  where
    by : Did {A = Unit {0}} (spoiling (sectors size)) tt (good tt) d e → found z (image after) ≡ refused (because 6 0 0)
    by (went run answer) =
        let s = stored_good run in
        let read : image e 0 ≡ header false (sectors size) = ap (λ y. image y 0) s.1 ∙ put_here d 0 (header false (sectors size)) s.0 in
        invalid_opens z size (image after) shape (sym (settled_single (put d 0 (header false (sectors size)) s.0) 0 (image after 0) s.1 (cut.one_of 0)) ∙ read)
    by (broke f run answer) = cc

pub spoil_leaves : {There : Presence} → StandingShows There → SpoilingLeaves spoil There
spoil_leaves shows z size es d e after t stands r cut = let u = did_run (lifts (spoiling (sectors size)) t d e r) in spoiling_leaves shows z size es d e after u.0 stands u.1 cut

-- MAKING

pub make_stands : MakeStands
make_stands z size d e shape r = by (lifts (making (sectors size)) (good tt) d e r)
  where
    by : Did {A = Unit {0}} (making (sectors size)) tt (good tt) d e → Stands z size [] e
    by (went run answer) = making_stands z size d e shape run
    by (broke f run answer) = cc

pub make_leaves : {There : Presence} → StandingShows There → MakingLeaves make There
make_leaves shows z size d e after t shape r cut = let u = did_run (lifts (making (sectors size)) t d e r) in making_leaves shows z size d e after u.0 shape u.1 cut
