-- Why a pair refuses, and the steps of its plans on both devices.
use Rattle.std.specs.Prelude.{ℕ, cond, ◌==◌}
use Rattle.device.specs.Disk.{Bytes, reads, writes, flushes, Told, Refusal}
use Rattle.device.specs.Plans.{Side, origin, cow, Plan, lifted, on}
use Rattle.store.specs.Refusals.{StoreRefusal, up, StoreSteps}
use Rattle.store.specs.Steps.{only_call}

-- a refusal: its number; the layer that refuses (1 device, 2 store, 3 pair); the device (0 none, 1 origin, 2 COW);
-- the place (a sector, a chunk or an area) and the entry within that area
pub record Fault : Type 0 where
  pub number : ℕ
  pub layer : ℕ
  pub device : ℕ
  pub place : ℕ
  pub entry : ℕ

-- a refusal by its numbers
abbrev pub fault : ℕ → ℕ → ℕ → ℕ → ℕ → Fault
fault n l d p e = record { number = n; layer = l; device = d; place = p; entry = e }

-- a refusal of a device that is gone
abbrev pub gone_fault : ℕ → ℕ → Fault
gone_fault device place = fault 3 1 device place 0

-- a refusal of the store
abbrev pub store_fault : ℕ → ℕ → ℕ → Fault
store_fault n place entry = fault n 2 2 place entry

-- a refusal of the pair itself
abbrev pub pair_fault : ℕ → Fault
pair_fault n = fault n 3 0 0 0

-- a store's refusal as it passes up: 3 is its device's, and 9 the pair's own
abbrev pub store_up : StoreRefusal → Fault
store_up r =
    cond (r.number == 3) (gone_fault 2 r.place) (cond (r.number == 9) (pair_fault 9) (store_fault r.number r.place r.entry))

-- a device's refusal as it passes up: the origin's at once, the COW device's through the store
abbrev pub passed_up : Side → Refusal → Fault
passed_up origin r = fault r.number 1 1 r.place 0
passed_up cow r = store_up (up r)

-- steps on both devices
abbrev pub Moves : Type 0 → Type 0
Moves A = Plan Side (Told Fault A)

-- steps at one device
abbrev pub at_side : {A : Type 0} → (x : Side) → Plan (Unit {0}) (Told Refusal A) → Moves A
at_side x p = lifted (passed_up x) (on x p)

-- steps of the store
abbrev pub in_store : {A : Type 0} → StoreSteps A → Moves A
in_store p = lifted store_up (on cow p)

-- one read
abbrev pub read : Side → ℕ → Moves Bytes
read x s = at_side x (only_call (reads 512 s))

-- one write
abbrev pub write : Side → ℕ → Bytes → Moves Bytes
write x s bytes = at_side x (only_call (writes s bytes))

-- one flush
abbrev pub flush : Side → Moves Bytes
flush x = at_side x (only_call flushes)
