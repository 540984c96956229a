-- The list of exceptions of a store, in the order in which they were entered. Below, c is the sectors of a chunk.
use Rattle.std.specs.Prelude.{ℕ, zero, suc, ◌+◌, ◌-◌, ◌*◌, ◌/◌, ◌%◌, ◌^◌, ◌<◌, max, Bool, cond, not, ◌&&◌, List, [], ◌∷◌, length, get_or, take, drop, is_some, Some, None, Option, Ok, Err, Result, if◌then◌else◌, ◌==◌, nat_lt, nat_le, slice_index_or}
use Rattle.layout.specs.declared.exception.Exception.{Exception}
use Rattle.layout.specs.Chunks.{per_area, area_chunk, is_area}
use Rattle.layout.specs.Entries.{nothing}
use Rattle.exceptions.specs.declared.fault.TableFault.{TableFault}
use Rattle.exceptions.specs.declared.fault.TableFault.TheVariants.{Full, TooWide}
use Rattle.exceptions.specs.Search.{first}

-- how many exceptions a store holds at most
abbrev pub entries_at_most : ℕ
entries_at_most = 2048

-- the two numbers of an exception
abbrev pub olds : Exception → ℕ
olds x = x.old

abbrev pub news : Exception → ℕ
news x = x.new

-- a number of each exception has 32 bits, as all chunk numbers on a device have
abbrev pub Below : (Exception → ℕ) → List Exception → Type 0
Below number table = (i : ℕ) → number (slice_index_or table i nothing) < 2 ^ 32

-- PUSH

-- what a table answers to one more exception: refused where it is full, and then where a number has more than 32 bits
abbrev pub push_test : List Exception → Exception → Result (Unit {0}) TableFault
push_test table x =
    if nat_le entries_at_most (length table) then Err Full
    else (if nat_lt x.old (2 ^ 32) && nat_lt x.new (2 ^ 32) then Ok tt else Err TooWide)

-- LOOKUP

-- the new chunk of the exception at a place
abbrev pub new_at : List Exception → Option ℕ → Option ℕ
new_at table None = None
new_at table (Some i) = Some (get_or table i nothing).new

-- the new chunk that holds the copy of an old one, or nothing where no copy exists
abbrev pub lookup : List Exception → ℕ → Option ℕ
lookup table old = new_at table (first olds old table)

-- whether an old chunk, or a new one, stands in the table
abbrev pub has_old : List Exception → ℕ → Bool
has_old table k = is_some (first olds k table)

abbrev pub has_new : List Exception → ℕ → Bool
has_new table k = is_some (first news k table)

-- NEXT PLACE

-- the largest new chunk
abbrev pub largest : List Exception → ℕ
largest [] = 0
largest (x ∷ xs) = max x.new (largest xs)

-- the chunk k, or the next one where k is an area
abbrev pub past_area : ℕ → ℕ → ℕ
past_area c k = cond (is_area c k) (k + 1) k

-- the next place for a copy, be it on the device or not
abbrev pub next_place : ℕ → List Exception → ℕ
next_place c [] = 2
next_place c (x ∷ xs) = past_area c (largest (x ∷ xs) + 1)

-- whether exception number n is the last of its area
abbrev pub fills_area : ℕ → ℕ → Bool
fills_area c n = n % per_area c == per_area c - 1

-- whether exception number n may be entered at a place, on a device of so many chunks: the place is on the device, so is the next
-- area where n fills its own, and the list is not at its limit
abbrev pub has_room : ℕ → ℕ → ℕ → ℕ → ℕ → Bool
has_room limit c chunks n place =
    nat_lt place chunks && (not (fills_area c n && not (nat_lt (area_chunk c (n / per_area c + 1)) chunks)) && not (n == limit))

-- the next place, if an exception may be entered there
abbrev pub room : ℕ → ℕ → ℕ → List Exception → Option ℕ
room limit c chunks table = cond (has_room limit c chunks (length table) (next_place c table)) (Some (next_place c table)) None

-- LAST RUN

-- both numbers of b are one more than those of a
abbrev pub follows : Exception → Exception → Bool
follows a b = a.old + 1 == b.old && a.new + 1 == b.new

-- whether exceptions n and n + 1 belong to one run: they stand in one area, and the second follows the first
abbrev pub linked : ℕ → List Exception → ℕ → Bool
linked c table n = n / per_area c == (n + 1) / per_area c && follows (slice_index_or table n nothing) (slice_index_or table (n + 1) nothing)

-- how many exceptions before n are in one run with it
abbrev pub reach : ℕ → List Exception → ℕ → ℕ
reach c table zero = 0
reach c table (suc n) = cond (linked c table n) (suc (reach c table n)) 0

-- the length of the last run
abbrev pub last_run : ℕ → List Exception → ℕ
last_run c [] = 0
last_run c (x ∷ xs) = suc (reach c (x ∷ xs) (length xs))

-- what is left without the last run, and the run itself, the lowest first
abbrev pub without_run : ℕ → List Exception → List Exception
without_run c table = take (length table - last_run c table) table

abbrev pub the_run : ℕ → List Exception → List Exception
the_run c table = drop (length table - last_run c table) table

-- FIGURES

-- sectors allocated, even past the device
abbrev pub allocated : ℕ → List Exception → ℕ
allocated c table = next_place c table * c

-- sectors of the header and of the areas that n exceptions take
abbrev pub metadata : ℕ → ℕ → ℕ
metadata c zero = 2 * c
metadata c (suc n) = (2 + n / per_area c) * c
