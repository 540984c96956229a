-- The definitions on small closed examples: what is found in some images, and which sectors a list allows.
use Rattle.std.specs.Prelude.{◌≡◌, ℕ, ◌+◌, ◌*◌, true, false, List, [], ◌∷◌, get_or, replicate, refl}
use Rattle.std.proofs.Common.{ap, arith}
use Rattle.device.specs.Disk.{Bytes, good, refused}
use Rattle.layout.specs.declared.chunk.ChunkSize.TheVariants.{One, Two}
use Rattle.layout.specs.declared.exception.Exception.{Exception}
use Rattle.layout.specs.Entries.{entry, padded, pic}
use Rattle.layout.specs.Headers.{header}
use Rattle.store.specs.Image.{Sizes}
use Rattle.store.specs.Refusals.{because}
use Rattle.store.specs.Steps.{shape_of}
use Rattle.recovery.specs.Readings.{Image, scanned, found}
use Rattle.recovery.specs.Standing.{Standing}

-- an exception by its two numbers
abbrev exception : ℕ → ℕ → Exception
exception old new = record { old = old; new = new }

-- devices of so many sectors
abbrev sizes : ℕ → ℕ → Sizes
sizes origin cow = record { origin = origin; cow = cow }

-- an image that reads so from sector 0 on, and zeros after that
abbrev sheet : List Bytes → Image
sheet bs s = get_or bs s (replicate 512 0)

abbrev two : List Exception
two = exception 5 2 ∷ exception 4 3 ∷ []

-- WHAT IS FOUND

pub empty_store : found (sizes 8 3) (sheet (header true 1 ∷ [])) ≡ good (record { size = One; table = [] })
unfolding scanned
empty_store = refl

pub two_exceptions : found (sizes 8 4) (sheet (header true 1 ∷ pic two 0 ∷ [])) ≡ good (record { size = One; table = two })
unfolding scanned
two_exceptions = refl

-- One run of 33 exceptions, from (0, 2) on, in both sectors of an area. Of its dropping the first sector was taken and the second
-- was not: the zeroed sector ends the list.
pub torn_run : found (sizes 128 72) (sheet (header true 2 ∷ [] ∷ replicate 512 0 ∷ padded (entry (exception 32 34)) ∷ [])) ≡ good (record { size = Two; table = [] })
unfolding scanned
torn_run = refl

-- the origin has no chunk 8
pub damaged_entry : found (sizes 8 4) (sheet (header true 1 ∷ pic (exception 5 2 ∷ exception 8 3 ∷ []) 0 ∷ [])) ≡ refused (because 13 0 1)
unfolding scanned
damaged_entry = refl

-- whatever the areas read
pub invalid_store : found (sizes 8 4) (sheet (header false 1 ∷ pic two 0 ∷ [])) ≡ refused (because 6 0 0)
invalid_store = refl

-- the origin is no whole chunks, which is tested before valid
pub misshaped_store : found (sizes 9 8) (sheet (header false 2 ∷ [])) ≡ refused (because 9 0 0)
misshaped_store = refl

-- WHICH SECTORS STAND

-- the area's picture
pub picture_stands : Standing (shape_of (sizes 8 4) One) two 1 (pic two 0)
picture_stands = record { head = λ is. cc; areas = λ a q l le is. ap (pic two) (let place : 0 ≡ 1 * a + q = omega arith in place) }

-- zeros there do not
pub zeros_fall : Standing (shape_of (sizes 8 4) One) two 1 (replicate 512 0) → ⊥
zeros_fall stands = let first : ◌≡◌ {A = ℕ} 0 5 = ap (λ b. get_or b 0 0) (stands.areas 0 0 (omega arith) (omega arith) refl) in omega arith

-- a data sector may hold anything
pub data_stands : (b : Bytes) → Standing (shape_of (sizes 8 4) One) two 2 b
data_stands b = record { head = λ is. cc; areas = λ a q l le is. absurd (omega arith) }
