-- Steps that go through the store are steps at the COW device.
use Rattle.std.proofs.Common.{◌≡◌, ℕ, ◌/◌, ◌<◌, true, List, Some, sym, refl, ap, ◌∙◌, subst}
use Rattle.std.proofs.lemmas.Bool.{and_from, lt-ltb, cond-true}
use Rattle.device.specs.Disk.{Told, good, refused, Refusal}
use Rattle.device.specs.Plans.{Plan, done, call, cow, Disks, lifted}
use Rattle.layout.specs.declared.chunk.ChunkSize.{ChunkSize}
use Rattle.layout.specs.declared.exception.Exception.{Exception}
use Rattle.layout.specs.Chunks.{sectors, is_data}
use Rattle.exceptions.specs.Table.{lookup}
use Rattle.store.specs.Image.{Sizes}
use Rattle.store.specs.Judge.{on_data}
use Rattle.store.specs.Refusals.{up}
use Rattle.store.specs.Steps.{shape_of, at_chunk}
use Rattle.recovery.specs.Standing.{Listed}
use Rattle.history.specs.Faults.{at_side, in_store}
use Rattle.history.specs.Steps.{sizes}
use Rattle.history.proofs.Tables.{listed_lookup}

-- a refusal of the device passes through the store
pub through : {A : Type 0} (p : Plan (Unit {0}) (Told Refusal A)) → in_store (lifted up p) ≡ at_side cow p
through (done (good a)) = refl
through (done (refused r)) = refl
through (call u o k) = λ i. call cow o (λ t. through (k t) i)

-- steps on a data chunk of the device
pub at_data : {A : Type 0} (z : Sizes) (size : ChunkSize) (k : ℕ) (p : Plan (Unit {0}) (Told Refusal A)) → is_data (sectors size) k ≡ true → k < z.cow / sectors size → in_store (at_chunk (shape_of z size) k p) ≡ at_side cow p
at_data z size k p is here = ap in_store (cond-true (on_data (shape_of z size) k) _ _ (and_from (is_data (sectors size) k) _ is (lt-ltb _ _ here))) ∙ through p

-- a copy that a list has
module _ {A : Type 0} (z : Sizes) (size : ChunkSize) (es : List Exception) (listed : Listed z size es) (d : Disks) (same : sizes d ≡ z) (j k : ℕ) (is : lookup es j ≡ Some k) where
  pub at_copy : (p : Plan (Unit {0}) (Told Refusal A)) → in_store (at_chunk (shape_of (sizes d) size) k p) ≡ at_side cow p
  at_copy p =
      let l = listed_lookup z size es listed j k is in
      at_data (sizes d) size k p l.1 (subst (λ y. k < y.cow / sectors size) (sym same) l.2)
