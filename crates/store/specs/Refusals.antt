-- Why a store refuses, and plans that may be refused so.
use Rattle.std.specs.Prelude.{ℕ}
use Rattle.device.specs.Disk.{Bytes, Op, Told, Refusal}
use Rattle.device.specs.Plans.{Plan, bind, onward, raised, step}

-- a refusal: its number, the place (a sector, a chunk or an area), and the entry within that area
pub record StoreRefusal : Type 0 where
  pub number : ℕ
  pub place : ℕ
  pub entry : ℕ

-- a refusal by its numbers
abbrev pub because : ℕ → ℕ → ℕ → StoreRefusal
because n p e = record { number = n; place = p; entry = e }

-- the device's, as the store passes it up
abbrev pub up : Refusal → StoreRefusal
up r = because r.number r.place 0

-- steps of a store on its device
abbrev pub StoreSteps : Type 0 → Type 0
StoreSteps A = Plan (Unit {0}) (Told StoreRefusal A)

-- a device call, then k
abbrev pub asking : {A : Type 0} → Op → (Bytes → StoreSteps A) → StoreSteps A
asking o k = step up tt o k

-- steps on the device alone, then k
abbrev pub doing : {A B : Type 0} → Plan (Unit {0}) (Told Refusal A) → (A → StoreSteps B) → StoreSteps B
doing {A} {B} p k = bind p (λ t. onward (raised up t) k)
