-- The definitions on small closed examples.
use Rattle.std.specs.Prelude.{◌≡◌, ℕ, true, false, List, [], ◌∷◌, ◌++◌, take, drop, replicate, Some, None, refl}
use Rattle.device.specs.Disk.{Bytes, good, refused}
use Rattle.layout.specs.declared.chunk.ChunkSize.TheVariants.{Eight, Sixteen}
use Rattle.layout.specs.declared.exception.Exception.{Exception}
use Rattle.layout.specs.Chunks.{chunk_size, per_area, area_chunk, area_start, is_area, is_data, area_place, in_copy}
use Rattle.layout.specs.Numbers.{le, value}
use Rattle.layout.specs.Entries.{entry, nothing, nth_entry, pic}
use Rattle.layout.specs.Headers.{magic, header, header_read}

-- CHUNKS

pub three_sectors : chunk_size 3 ≡ None
three_sectors = refl

pub sixteen_sectors : chunk_size 16 ≡ Some Sixteen
sixteen_sectors = refl

pub entries_of_eight : per_area 8 ≡ 256
entries_of_eight = refl

-- areas of one sector: 32 data chunks stand between two of them
pub first_area : area_chunk 1 0 ≡ 1
first_area = refl

pub second_area : area_chunk 1 1 ≡ 34
second_area = refl

pub third_area : area_chunk 1 2 ≡ 67
third_area = refl

-- chunk 258, of 8 sectors
pub second_start : area_start 8 1 ≡ 2064
second_start = refl

-- the header
pub header_chunk : is_data 1 0 ≡ false
header_chunk = refl

pub area_no_data : is_data 1 1 ≡ false
area_no_data = refl

pub first_data : is_data 1 2 ≡ true
first_data = refl

pub last_before_area : is_data 1 33 ≡ true
last_before_area = refl

pub next_area_no_data : is_data 1 34 ≡ false
next_area_no_data = refl

pub first_after_area : is_data 1 35 ≡ true
first_after_area = refl

-- chunk 0 is no area, and still holds no data
pub header_no_area : is_area 1 0 ≡ false
header_no_area = refl

-- of 8 sectors each: sector 7 of area 0 at the end of chunk 1, the next in area 1
pub last_of_area : area_place 8 7 ≡ 15
last_of_area = refl

pub next_of_areas : area_place 8 8 ≡ 2064
next_of_areas = refl

-- sector 21 of the origin is sector 5 of its chunk
pub copied_sector : in_copy 8 3 21 ≡ 29
copied_sector = refl

-- NUMBERS

pub four_low_first : le 4 258 ≡ 2 ∷ 1 ∷ 0 ∷ 0 ∷ []
four_low_first = refl

pub eight_low_first : le 8 65536 ≡ 0 ∷ 0 ∷ 1 ∷ 0 ∷ 0 ∷ 0 ∷ 0 ∷ 0 ∷ []
eight_low_first = refl

pub value_of_four : value (2 ∷ 1 ∷ 0 ∷ 0 ∷ []) ≡ 258
value_of_four = refl

pub value_of_none : value [] ≡ 0
value_of_none = refl

-- HEADERS

-- 53 6E 41 70, then valid, version and the sectors of a chunk
pub header_begins : take 16 (header true 8) ≡ 83 ∷ 110 ∷ 65 ∷ 112 ∷ 1 ∷ 0 ∷ 0 ∷ 0 ∷ 1 ∷ 0 ∷ 0 ∷ 0 ∷ 8 ∷ 0 ∷ 0 ∷ 0 ∷ []
header_begins = refl

pub header_invalid : take 8 (header false 8) ≡ 83 ∷ 110 ∷ 65 ∷ 112 ∷ 0 ∷ 0 ∷ 0 ∷ 0 ∷ []
header_invalid = refl

pub header_ends : drop 16 (header true 8) ≡ replicate 496 0
header_ends = refl

-- a header by its four numbers
abbrev fields : Bytes → ℕ → ℕ → ℕ → Bytes
fields m valid version c = m ++ (le 4 valid ++ (le 4 version ++ (le 4 c ++ replicate 496 0)))

pub good_valid : header_read (fields magic 1 1 8) ≡ good (record { valid = true; size = Eight })
good_valid = refl

pub good_invalid : header_read (fields magic 0 1 8) ≡ good (record { valid = false; size = Eight })
good_invalid = refl

-- tested first, though the other fields are wrong too
pub wrong_magic : header_read (fields (le 4 0) 2 2 3) ≡ refused 10
wrong_magic = refl

pub wrong_version : header_read (fields magic 2 2 3) ≡ refused 11
wrong_version = refl

pub wrong_chunk : header_read (fields magic 1 1 3) ≡ refused 12
wrong_chunk = refl

pub wrong_valid : header_read (fields magic 2 1 8) ≡ refused 12
wrong_valid = refl

-- ENTRIES

-- an exception by its two numbers
abbrev exception : ℕ → ℕ → Exception
exception old new = record { old = old; new = new }

abbrev two : List Exception
two = exception 5 2 ∷ exception 258 3 ∷ []

pub entry_bytes : entry (exception 258 3) ≡ 2 ∷ 1 ∷ 0 ∷ 0 ∷ 0 ∷ 0 ∷ 0 ∷ 0 ∷ 3 ∷ 0 ∷ 0 ∷ 0 ∷ 0 ∷ 0 ∷ 0 ∷ 0 ∷ []
entry_bytes = refl

pub picture_begins : take 32 (pic two 0) ≡ entry (exception 5 2) ++ entry (exception 258 3)
picture_begins = refl

pub picture_ends : drop 32 (pic two 0) ≡ replicate 480 0
picture_ends = refl

-- the second sector has none of them
pub picture_after : pic two 1 ≡ replicate 512 0
picture_after = refl

pub second_entry : nth_entry (pic two 0) 1 ≡ exception 258 3
second_entry = refl

pub ended_entry : nth_entry (pic two 0) 2 ≡ nothing
ended_entry = refl

-- a sector has 32 entries
pub entry_past_end : nth_entry (pic two 0) 32 ≡ nothing
entry_past_end = refl

-- an entry that the bytes have only in part
pub part_of_entry : nth_entry (replicate 31 1) 1 ≡ nothing
part_of_entry = refl
