-- The definitions on small closed examples.
use Rattle.std.specs.Prelude.{◌≡◌, ℕ, ◌+◌, ◌*◌, Bool, true, false, List, [], ◌∷◌, ◌++◌, replicate, Some, refl}
use Rattle.device.specs.Disk.{Bytes, possibilities, Disk, Fate, calm, Op, reads, writes, flushes, way, off, Told, good, refused, Refusal, refusal, told_by, after_by}
use Rattle.device.specs.Plain.{plain, fit, fitness}
use Rattle.device.specs.Fuse.{passes_on, spent, blown_by}
use Rattle.device.specs.Plans.{one, ended, run, zeroing, reading_into, writing_from}

-- a sector full of a byte
abbrev full : ℕ → Bytes
full b = replicate 512 b

-- three sectors of one possibility each: 10, 11 and 12
abbrev fresh : Disk
fresh = record { count = 3; cells = λ s. record { older = []; latest = full (10 + s) }; on = true }

-- the answer of a call, and the disk after it
abbrev answer : Op → Disk → Fate → Told Refusal Bytes
answer o d f = told_by (way o d f) o d

abbrev after : Op → Disk → Fate → Disk
after o d f = after_by (way o d f) o d f

-- a fate by its parts
abbrev fate : Bool → Bool → List ℕ → ℕ → Fate
fate goes took keeps last = record { goes = goes; took = took; keeps = λ _. keeps; last = last }

-- all possibilities of a sector
abbrev list : Disk → ℕ → List Bytes
list d s = possibilities (d.cells s)

-- WRITES

-- loses nothing: the sector's former possibility, then the bytes
abbrev written : Disk
written = after (writes 1 (full 20)) fresh (fate false false (0 ∷ []) 0)

pub write_adds : list written 1 ≡ full 11 ∷ full 20 ∷ []
write_adds = refl

pub write_loses : list (after (writes 1 (full 20)) fresh calm) 1 ≡ full 20 ∷ []
write_loses = refl

-- other sectors keep their last possibility (here once more among the older ones)
pub write_elsewhere : list written 2 ≡ full 12 ∷ full 12 ∷ []
write_elsewhere = refl

pub write_read : answer (reads 512 1) written calm ≡ good (full 20)
write_read = refl

pub write_twice : list (after (writes 1 (full 21)) written (fate false false (0 ∷ 1 ∷ []) 0)) 1 ≡ full 11 ∷ full 20 ∷ full 21 ∷ []
write_twice = refl

-- GOING

-- took the bytes, which are the possibility at place 1
pub going_took : (after (writes 1 (full 20)) fresh (fate true true (0 ∷ []) 1)).cells 1 ≡ record { older = full 11 ∷ []; latest = full 20 }
going_took = refl

-- took them, and lost all others
pub going_alone : list (after (writes 1 (full 20)) fresh (fate true true [] 1)) 1 ≡ full 20 ∷ []
going_alone = refl

pub going_untaken : list (after (writes 1 (full 20)) fresh (fate true false [] 0)) 1 ≡ full 11 ∷ []
going_untaken = refl

-- not taken, and the former last possibility is lost too
pub going_back : list (after (writes 1 (full 21)) written (fate true false [] 0)) 1 ≡ full 11 ∷ []
going_back = refl

pub going_answer : answer (writes 1 (full 20)) fresh (fate true true [] 1) ≡ refused (refusal 3 1)
going_answer = refl

pub going_gone : (after (writes 1 (full 20)) fresh (fate true true [] 1)).on ≡ false
going_gone = refl

-- a read inside which the device goes changes no list
pub going_read : after (reads 512 1) written (fate true true [] 0) ≡ off written
going_read = refl

-- FLUSHES

pub flush_settles : list (after flushes written calm) 1 ≡ full 20 ∷ []
flush_settles = refl

pub flush_going : list (after flushes written (fate true false (0 ∷ []) 0)) 1 ≡ full 11 ∷ full 20 ∷ []
flush_going = refl

pub flush_gone : answer flushes (off fresh) calm ≡ refused (refusal 3 0)
flush_gone = refl

-- REFUSALS, IN THEIR ORDER

pub length_first : answer (reads 511 3) (off fresh) calm ≡ refused (refusal 1 0)
length_first = refl

pub place_second : answer (writes 3 (full 0)) (off fresh) calm ≡ refused (refusal 2 3)
place_second = refl

pub gone_third : answer (reads 512 2) (off fresh) calm ≡ refused (refusal 3 2)
gone_third = refl

pub refused_nothing : after (writes 3 (full 0)) fresh (fate true true [] 1) ≡ fresh
refused_nothing = refl

-- PLAIN DEVICES

pub two_sectors : (plain (full 1 ++ full 2)).count ≡ 2
two_sectors = refl

pub second_sector : list (plain (full 1 ++ full 2)) 1 ≡ full 2 ∷ []
second_sector = refl

pub no_sector : plain [] ≡ record { count = 1; cells = λ _. record { older = []; latest = full 0 }; on = false }
no_sector = refl

pub part_of_one : fitness (1 ∷ full 1) ≡ refused (refusal 1 0)
part_of_one = refl

pub largest : fit (512 * 4294967295) ≡ true
largest = refl

pub too_many : fit (512 * 4294967296) ≡ false
too_many = refl

-- FUSES

pub passes_write : passes_on (writes 0 (full 1)) (Some 1) ≡ true
passes_write = refl

pub spent_fuse : passes_on flushes (Some 0) ≡ false
spent_fuse = refl

pub reads_pass : passes_on (reads 512 0) (Some 0) ≡ true
reads_pass = refl

pub refused_not_counted : spent (writes 9 (full 1)) (Some 4) (refused (refusal 2 9)) ≡ Some 4
refused_not_counted = refl

pub good_counted : spent flushes (Some 4) (good []) ≡ Some 3
good_counted = refl

pub place_blows_nothing : blown_by (Some 4) (refused (refusal 2 9)) ≡ Some 4
place_blows_nothing = refl

-- PLANS

-- zeros over two sectors
pub zeros_over : run one (zeroing 1 2) (calm ∷ calm ∷ []) fresh ≡ ended (good tt) (after (writes 2 (full 0)) (after (writes 1 (full 0)) fresh calm) calm)
zeros_over = refl

-- the first refusal ends a plan: sector 3 is not there, and the device had one good write before
pub zeros_end : run one (zeroing 2 9) (calm ∷ calm ∷ []) fresh ≡ ended (refused (refusal 2 3)) (after (writes 2 (full 0)) fresh calm)
zeros_end = refl

-- a buffer of two sectors, of which only the first is on the device
pub read_part : run one (reading_into 2 (full 7 ++ full 8)) (calm ∷ calm ∷ []) fresh ≡ ended (record { answer = refused (refusal 2 3); buffer = full 12 ++ full 8 }) fresh
read_part = refl

pub read_odd : run one (reading_into 0 (1 ∷ [])) [] fresh ≡ ended (record { answer = refused (refusal 1 0); buffer = 1 ∷ [] }) fresh
read_odd = refl

pub write_two : run one (writing_from 0 (full 7 ++ full 8)) (calm ∷ calm ∷ []) fresh ≡ ended (good tt) (after (writes 1 (full 8)) (after (writes 0 (full 7)) fresh calm) calm)
write_two = refl
