-- The definitions on small closed examples.
use Rattle.std.specs.Prelude.{◌≡◌, ℕ, true, false, List, [], ◌∷◌, ◌++◌, replicate, Some, None, Ok, Err, refl}
use Rattle.layout.specs.declared.exception.Exception.{Exception}
use Rattle.exceptions.specs.Search.{first}
use Rattle.exceptions.specs.Table.{olds, news, push_test, lookup, has_old, has_new, next_place, room, last_run, without_run, the_run, allocated, metadata}
use Rattle.exceptions.specs.declared.fault.TableFault.TheVariants.{Full, TooWide}
use Rattle.exceptions.specs.Edges.{exception, four, grown}

-- SEARCH

-- old chunk 6 stands twice
abbrev twice : List Exception
twice = exception 5 2 ∷ exception 6 3 ∷ exception 6 9 ∷ []

pub first_of_two : first olds 6 twice ≡ Some 1
first_of_two = refl

pub first_new : first news 9 twice ≡ Some 2
first_new = refl

pub no_match : first olds 9 twice ≡ None
no_match = refl

pub empty_search : first olds 0 [] ≡ None
empty_search = refl

-- LOOKUP

pub copied : lookup twice 6 ≡ Some 3
copied = refl

pub not_copied : lookup twice 3 ≡ None
not_copied = refl

pub old_stands : has_old twice 5 ≡ true
old_stands = refl

-- 5 is an old chunk and no new one
pub new_free : has_new twice 5 ≡ false
new_free = refl

-- PUSH

pub widest_pushed : push_test [] (exception 4294967295 4294967295) ≡ Ok tt
widest_pushed = refl

pub old_too_wide : push_test four (exception 4294967296 6) ≡ Err TooWide
old_too_wide = refl

pub new_too_wide : push_test four (exception 6 4294967296) ≡ Err TooWide
new_too_wide = refl

pub last_pushed : push_test (replicate 2047 (exception 5 2)) (exception 6 3) ≡ Ok tt
last_pushed = refl

-- a full table refuses first
pub full_first : push_test (replicate 2048 (exception 5 2)) (exception 4294967296 6) ≡ Err Full
full_first = refl

-- NEXT PLACE

pub first_place : next_place 1 [] ≡ 2
first_place = refl

pub after_largest : next_place 1 (exception 5 9 ∷ exception 6 3 ∷ []) ≡ 10
after_largest = refl

-- chunk 34 is an area
pub skips_area : next_place 1 (exception 5 33 ∷ []) ≡ 35
skips_area = refl

pub place_on_device : room 2048 1 3 [] ≡ Some 2
place_on_device = refl

pub place_off_device : room 2048 1 2 [] ≡ None
place_off_device = refl

-- exception 31 fills area 0, so that area 1, which is chunk 34, must be on the device
pub next_area_on_device : room 2048 1 35 (grown 1 31) ≡ Some 33
next_area_on_device = refl

pub next_area_off_device : room 2048 1 34 (grown 1 31) ≡ None
next_area_off_device = refl

pub below_limit : room 4 1 99 twice ≡ Some 10
below_limit = refl

pub at_limit : room 3 1 99 twice ≡ None
at_limit = refl

-- LAST RUN

pub run_of_one : last_run 1 four ≡ 1
run_of_one = refl

pub run_of_three : last_run 1 (without_run 1 four) ≡ 3
run_of_three = refl

pub no_run : last_run 1 (without_run 1 (without_run 1 four)) ≡ 0
no_run = refl

pub lowest_first : the_run 1 (without_run 1 four) ≡ exception 5 2 ∷ exception 6 3 ∷ exception 7 4 ∷ []
lowest_first = refl

-- after n exceptions, two that follow one another
abbrev pair_after : ℕ → List Exception
pair_after n = grown 1 n ++ (exception 90 50 ∷ exception 91 51 ∷ [])

pub within_area : last_run 1 (pair_after 30) ≡ 2
within_area = refl

-- numbers 31 and 32 stand in two areas
pub across_areas : last_run 1 (pair_after 31) ≡ 1
across_areas = refl

-- one number that follows makes no run
pub old_alone : last_run 1 (exception 5 2 ∷ exception 6 4 ∷ []) ≡ 1
old_alone = refl

pub new_alone : last_run 1 (exception 5 2 ∷ exception 7 3 ∷ []) ≡ 1
new_alone = refl

-- descending numbers make none
pub descending : last_run 1 (exception 6 3 ∷ exception 5 2 ∷ []) ≡ 1
descending = refl

-- FIGURES

pub allocated_full_area : allocated 1 (grown 1 32) ≡ 35
allocated_full_area = refl

pub metadata_full_area : metadata 1 32 ≡ 2
metadata_full_area = refl

pub metadata_next_area : metadata 1 33 ≡ 3
metadata_next_area = refl

pub allocated_none : allocated 1 [] ≡ 2
allocated_none = refl

pub metadata_none : metadata 1 0 ≡ 2
metadata_none = refl

pub metadata_of_eight : metadata 8 1 ≡ 16
metadata_of_eight = refl
