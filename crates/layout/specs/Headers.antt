-- The first sector of the COW device.
use Rattle.std.specs.Prelude.{◌≡◌, ℕ, Bool, true, false, cond, ◌++◌, take, replicate, Some, None, Ok, Err, codes, Option, Result, ◌==◌, nat_lt}
use Rattle.std.specs.List.{between}
use Rattle.std.specs.Str.{bytes_eq}
use Rattle.device.specs.Disk.{Bytes, Told, good, refused}
use Rattle.layout.specs.declared.chunk.ChunkSize.{ChunkSize}
use Rattle.layout.specs.declared.header.Header.{Header}
use Rattle.layout.specs.declared.header.HeaderFault.{HeaderFault}
use Rattle.layout.specs.declared.header.HeaderFault.TheVariants.{Magic, Version, Field}
use Rattle.layout.specs.Chunks.{sectors, chunk_size}
use Rattle.layout.specs.Numbers.{le, value}

-- the bytes 53 6E 41 70
abbrev pub magic : Bytes
magic = codes "SnAp"

-- the version on disk
abbrev pub version : ℕ
version = 1

-- valid as a number
abbrev pub flag : Bool → ℕ
flag true = 1
flag false = 0

-- four numbers of 32 bits: magic, valid, version and the sectors of a chunk; zeros after them
abbrev pub header : Bool → ℕ → Bytes
header valid c = magic ++ (le 4 (flag valid) ++ (le 4 version ++ (le 4 c ++ replicate 496 0)))

-- what the valid field says
abbrev pub valid_of : Bytes → ℕ
valid_of bytes = value (between 4 8 bytes)

-- what the version field says
abbrev pub version_of : Bytes → ℕ
version_of bytes = value (between 8 12 bytes)

-- what the field for the sectors of a chunk says
abbrev pub chunk_of : Bytes → ℕ
chunk_of bytes = value (between 12 16 bytes)

-- the fields that may not be another number
abbrev pub fields : Option ChunkSize → ℕ → Told ℕ Header
fields None valid = refused 12
fields (Some size) valid = cond (nat_lt 1 valid) (refused 12) (good (record { valid = (valid == 1); size = size }))

-- what a header says, or the number of the first test that fails
abbrev pub header_read : Bytes → Told ℕ Header
header_read h = cond (bytes_eq magic (take 4 h)) (cond (version_of h == version) (fields (chunk_size (chunk_of h)) (valid_of h)) (refused 11)) (refused 10)

-- each refusal's number
abbrev pub number : HeaderFault → ℕ
number Magic = 10
number Version = 11
number Field = 12

-- an answer by its number
abbrev pub told : Result Header HeaderFault → Told ℕ Header
told (Ok h) = good h
told (Err f) = refused (number f)

-- a header that was written says what it was made of
abbrev pub HeaderBack : Type 0
HeaderBack = (valid : Bool) (size : ChunkSize) → header_read (header valid (sectors size)) ≡ good (record { valid = valid; size = size })
