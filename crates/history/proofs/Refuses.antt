-- The tests of a call: what a refusal is, and what is known once all have passed.
use Rattle.std.proofs.Common.{◌≡◌, Bool, true, false, List, ◌∷◌, Some, None, Option, refl}
use Rattle.device.specs.Disk.{refused}
use Rattle.device.specs.Plans.{Plan, Runs, both, Side, Disks}
use Rattle.device.proofs.Uses.{over as run_over}
use Rattle.store.specs.Image.{Sizes}
use Rattle.history.specs.Faults.{Fault}
use Rattle.history.specs.Steps.{Memory, Mode, plain, merging, Ground, is_closed, test, first, Outcome, guarded}
use Rattle.history.specs.History.{Call, flush_all, Reply, Result, resulted, as_call, refusal}
use Rattle.history.proofs.Splits.{called_parts}

-- A DEVICE IS GONE

-- the devices of some sectors, one of them gone
abbrev pub stopped_at : Sizes → Ground
stopped_at z = record { size = z; stopped = true }

-- then no refusal goes by what is remembered
pub blind : (z : Sizes) (m m' : Memory) (mode : Mode) (c : Call) → refusal (stopped_at z) m mode c ≡ refusal (stopped_at z) m' mode c
blind z m m' plain flush_all = refl
blind z m m' merging flush_all = refl
blind z m m' mode c = refl

-- TESTS THAT PASSED

pub first_passed : (b : Bool) (f : Fault) (ts : List (Option Fault)) → first (test b f ∷ ts) ≡ None → b ≡ false
first_passed true f ts h = cc
first_passed false f ts h = refl

pub rest_passed : (b : Bool) (f : Fault) (ts : List (Option Fault)) → first (test b f ∷ ts) ≡ None → first ts ≡ None
rest_passed true f ts h = cc
rest_passed false f ts h = h

-- what each of some tests tells once all have passed
pub ruleset passing = (first_passed, rest_passed)

-- those of a flush, in each mode
pub flush_passed : (g : Ground) (m : Memory) (mode : Mode) → refusal g m mode flush_all ≡ None → (g.stopped ≡ false) × (is_closed m ≡ false)
flush_passed g m plain none = (search passing depth 8, search passing depth 8)
flush_passed g m merging none = (search passing depth 8, search passing depth 8)

-- ONE CALL

-- a call with steps: a test refused it, or its steps ran
pub data Tested {A : Type 0} (f : A → Reply) (mode : Mode) (m : Memory) (t : Option Fault) (p : Plan Side (Outcome A)) (s : Disks) (r : Result) (e : Disks) : Type 0 where
  not_begun : (x : Fault) → t ≡ Some x → r ≡ record { answer = refused x; memory = m; mode = mode } → e ≡ s → Tested f mode m t p s r e
  begun : t ≡ None → (o : Outcome A) → Runs both p s o e → r ≡ resulted f mode o → Tested f mode m t p s r e

pub tested : {A : Type 0} (f : A → Reply) (mode : Mode) (m : Memory) (t : Option Fault) (p : Plan Side (Outcome A)) {s : Disks} {r : Result} {e : Disks} → Runs both (as_call f mode (guarded m t p)) s r e → Tested f mode m t p s r e
tested f mode m None p h = let q = called_parts f mode p h in begun refl q.outcome q.ran q.result
tested f mode m (Some x) p h = let q = run_over h in not_begun x refl q.0 q.1
