-- The definitions on small closed examples.
use Rattle.std.specs.Prelude.{◌≡◌, ℕ, true, false, List, [], ◌∷◌, ◌++◌, replicate, refl}
use Rattle.device.specs.Disk.{Bytes, good, refused}
use Rattle.device.specs.Plans.{then, zeroing, spreading}
use Rattle.layout.specs.declared.chunk.ChunkSize.TheVariants.{One, Eight}
use Rattle.layout.specs.declared.exception.Exception.{Exception}
use Rattle.layout.specs.Numbers.{le}
use Rattle.layout.specs.Headers.{magic}
use Rattle.layout.specs.Entries.{pic}
use Rattle.exceptions.specs.Edges.{exception}
use Rattle.store.specs.declared.shape.Shape.{Shape}
use Rattle.store.specs.Refusals.{because}
use Rattle.store.specs.Judge.{stranded, damaged}
use Rattle.store.specs.Image.{Sizes, header_found}
use Rattle.store.specs.Scanning.{over, many, wrong, full, judged, ending}
use Rattle.store.specs.Steps.{finished, writing, flushing, storing, entering, dropping, cleaning, data_test}
use Rattle.store.specs.Work.{spent}

-- HEADERS

-- a header by its four fields
abbrev head : Bytes → ℕ → ℕ → ℕ → Bytes
head m valid version c = m ++ (le 4 valid ++ (le 4 version ++ (le 4 c ++ replicate 496 0)))

-- devices that fit chunks of 8 sectors, and devices that do not: an origin with a part of a chunk, or two chunks alone
abbrev fitting : Sizes
fitting = record { origin = 800; cow = 24 }

abbrev torn : Sizes
torn = record { origin = 801; cow = 24 }

abbrev short : Sizes
short = record { origin = 800; cow = 23 }

-- each header fails the later tests too
pub magic_first : header_found torn (head (le 4 0) 2 2 3) ≡ refused (because 10 0 0)
magic_first = refl

pub then_version : header_found torn (head magic 2 2 3) ≡ refused (because 11 0 0)
then_version = refl

pub then_chunk : header_found torn (head magic 0 1 3) ≡ refused (because 12 0 0)
then_chunk = refl

pub then_flag : header_found torn (head magic 2 1 8) ≡ refused (because 12 0 0)
then_flag = refl

pub then_shape : header_found torn (head magic 0 1 8) ≡ refused (because 9 0 0)
then_shape = refl

pub two_chunks : header_found short (head magic 0 1 8) ≡ refused (because 9 0 0)
two_chunks = refl

pub then_valid : header_found fitting (head magic 0 1 8) ≡ refused (because 6 0 0)
then_valid = refl

pub all_passed : header_found fitting (head magic 1 1 8) ≡ good Eight
all_passed = refl

-- ENTRIES

-- chunks of one sector: 100 on the origin, and so many on the COW device
abbrev on : ℕ → Shape
on chunks = record { size = One; olds = 100; chunks = chunks }

abbrev one_before : List Exception
one_before = exception 5 2 ∷ []

pub undamaged : damaged (on 60) 0 1 one_before (exception 99 59) ≡ false
undamaged = refl

pub old_off_origin : damaged (on 60) 0 1 one_before (exception 100 3) ≡ true
old_off_origin = refl

pub new_in_area : damaged (on 60) 0 1 one_before (exception 6 34) ≡ true
new_in_area = refl

pub new_off_device : damaged (on 60) 0 1 one_before (exception 6 60) ≡ true
new_off_device = refl

pub old_twice : damaged (on 60) 0 1 one_before (exception 5 3) ≡ true
old_twice = refl

pub new_twice : damaged (on 60) 0 1 one_before (exception 6 2) ≡ true
new_twice = refl

-- entry 31 fills area 0, and area 1 is chunk 34
pub fills_stranded : damaged (on 34) 0 31 one_before (exception 6 3) ≡ true
fills_stranded = refl

pub next_area_there : stranded (on 35) 0 31 ≡ false
next_area_there = refl

pub fills_nothing : stranded (on 34) 0 30 ≡ false
fills_nothing = refl

-- a damaged entry, by its place in the area
pub damaged_at : judged (on 60) 1 3 one_before (exception 5 3) (full []) ≡ wrong 3
damaged_at = refl

-- one too many, before it is judged; an end entry is none
pub many_first : judged (on 60) 64 0 (replicate 2048 (exception 5 2)) (exception 100 1) (full []) ≡ many
many_first = refl

pub end_first : judged (on 60) 64 0 (replicate 2048 (exception 5 2)) (exception 100 0) (full []) ≡ over (replicate 2048 (exception 5 2)) 0
end_first = refl

-- STEPS

-- exception 31 fills area 0: first zeros over area 1, which is chunk 34
pub enter_fills : entering 1 (replicate 32 (exception 5 2)) 31 ≡ then (zeroing 34 1) (λ _. flushing (storing 1 (pic (replicate 32 (exception 5 2)) 0)))
enter_fills = refl

pub enter_within : entering 1 (replicate 31 (exception 5 2)) 30 ≡ flushing (storing 1 (pic (replicate 31 (exception 5 2)) 0))
enter_within = refl

-- of 34 exceptions 31 stay: the second sector of area 0 first, of which nothing is left
pub drop_highest_first : dropping 2 (replicate 31 (exception 5 2)) 34 ≡ then (writing 3 (replicate 512 0) (writing 2 (pic (replicate 31 (exception 5 2)) 0) finished)) (λ _. flushing finished)
drop_highest_first = refl

pub clean_end : cleaning 2 (ending [] 0 33 (replicate 528 7 ++ replicate 496 0)) ≡ finished
clean_end = refl

-- from the sector of the end entry on, with what stands before it
pub dirty_end : cleaning 2 (ending [] 0 33 (replicate 1024 7)) ≡ then (spreading 3 1 (replicate 16 7 ++ replicate 496 0)) (λ _. flushing finished)
dirty_end = refl

pub dirty_area : cleaning 2 (ending [] 0 1 (replicate 1024 7)) ≡ then (spreading 2 2 (replicate 16 7 ++ replicate 1008 0)) (λ _. flushing finished)
dirty_area = refl

-- DATA

-- the length is tested first
pub length_first : data_test (on 60) 1 511 ≡ refused (because 1 0 0)
length_first = refl

pub then_sector : data_test (on 60) 1 512 ≡ refused (because 2 1 0)
then_sector = refl

pub data_passed : data_test (on 60) 2 512 ≡ good tt
data_passed = refl

-- WORK BUFFER

pub work_spent : spent (replicate 8192 7) ≡ replicate 8192 0
work_spent = refl

pub work_untouched : spent (7 ∷ 7 ∷ []) ≡ 7 ∷ 7 ∷ []
work_untouched = refl
