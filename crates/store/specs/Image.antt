-- What the first sector of a COW device says by the sizes of both devices, and an area's bytes once they are cleaned.
use Rattle.std.specs.Prelude.{ℕ, ◌-◌, ◌*◌, ◌/◌, ◌%◌, Bool, cond, ◌&&◌, ◌++◌, length, take, replicate, ◌==◌, nat_le}
use Rattle.std.specs.List.{list_all}
use Rattle.device.specs.Disk.{Bytes, Told, good, refused}
use Rattle.layout.specs.declared.chunk.ChunkSize.{ChunkSize}
use Rattle.layout.specs.declared.header.Header.{Header}
use Rattle.layout.specs.Chunks.{sectors}
use Rattle.layout.specs.Headers.{header_read}
use Rattle.store.specs.Refusals.{StoreRefusal, because}

-- the sectors of both devices
pub record Sizes : Type 0 where
  pub origin : ℕ
  pub cow : ℕ

-- the origin is whole chunks of c sectors, and the COW device has three of them or more
abbrev pub well_shaped : Sizes → ℕ → Bool
well_shaped z c = z.origin % c == 0 && nat_le 3 (z.cow / c)

-- the tests of a header that was read: shape, valid
abbrev pub header_judged : Sizes → Told ℕ Header → Told StoreRefusal ChunkSize
header_judged z (refused n) = refused (because n 0 0)
header_judged z (good h) = cond (well_shaped z (sectors h.size)) (cond h.valid (good h.size) (refused (because 6 0 0))) (refused (because 9 0 0))

-- what the first sector says: the size of chunks, or the first test that fails
abbrev pub header_found : Sizes → Bytes → Told StoreRefusal ChunkSize
header_found z bytes = header_judged z (header_read bytes)

-- all bytes are zero
abbrev pub all_zero : Bytes → Bool
all_zero bytes = list_all (λ b. b == 0) bytes

-- an area's bytes with zeros from entry k on
abbrev pub cleaned : Bytes → ℕ → Bytes
cleaned bytes k = take (16 * k) bytes ++ replicate (length bytes - 16 * k) 0
