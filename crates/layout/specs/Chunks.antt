-- Chunks of c sectors: chunk 0 is the header, some chunks are areas, and the rest hold data.
use Rattle.std.specs.Prelude.{ℕ, ◌+◌, ◌*◌, ◌/◌, ◌%◌, Bool, cond, not, ◌&&◌, Some, None, Option, ◌==◌, nat_le}
use Rattle.layout.specs.declared.chunk.ChunkSize.{ChunkSize}
use Rattle.layout.specs.declared.chunk.ChunkSize.TheVariants.{One, Two, Four, Eight, Sixteen}

-- the sectors of a chunk
abbrev pub sectors : ChunkSize → ℕ
sectors One = 1
sectors Two = 2
sectors Four = 4
sectors Eight = 8
sectors Sixteen = 16

-- a chunk is 1, 2, 4, 8 or 16 sectors
abbrev pub chunk_size : ℕ → Option ChunkSize
chunk_size c = cond (c == 1) (Some One) (cond (c == 2) (Some Two) (cond (c == 4) (Some Four) (cond (c == 8) (Some Eight) (cond (c == 16) (Some Sixteen) None))))

-- below, c is the sectors of a chunk; an area is a chunk with this many entries, 32 to a sector
abbrev pub per_area : ℕ → ℕ
per_area c = 32 * c

-- the chunk that is area a
abbrev pub area_chunk : ℕ → ℕ → ℕ
area_chunk c a = 1 + (per_area c + 1) * a

-- the first sector of area a
abbrev pub area_start : ℕ → ℕ → ℕ
area_start c a = area_chunk c a * c

-- whether chunk k is an area
abbrev pub is_area : ℕ → ℕ → Bool
is_area c k = k % (per_area c + 1) == 1

-- whether chunk k is for data
abbrev pub is_data : ℕ → ℕ → Bool
is_data c k = nat_le 2 k && not (is_area c k)

-- counting the sectors of all areas from 0: where sector j of them stands on the device
abbrev pub area_place : ℕ → ℕ → ℕ
area_place c j = area_start c (j / c) + j % c

-- the sector of a device that sector s of the origin has in a copy at chunk p
abbrev pub in_copy : ℕ → ℕ → ℕ → ℕ
in_copy c p s = p * c + s % c
