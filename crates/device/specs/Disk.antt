-- What a device means, and what each call answers and leaves.
use Rattle.std.specs.Prelude.{◌≡◌, ℕ, ◌^◌, ◌<◌, Bool, true, false, cond, List, [], ◌∷◌, ◌++◌, map, length, ◌==◌, nat_lt, slice_index_or}
use Rattle.std.specs.List.{ContainsAt as Has}

-- the bytes of a sector or of a buffer, as numbers
abbrev pub Bytes : Type 0
Bytes = List ℕ

-- a sector: a read gives `latest`; a power cut leaves `latest` or one of `older`
pub record Cell : Type 0 where
  pub older : List Bytes
  pub latest : Bytes

-- the list of a sector's possibilities, which is never empty
abbrev pub possibilities : Cell → List Bytes
possibilities c = c.older ++ (c.latest ∷ [])

-- a device: its number of sectors, each sector, and whether it is on or gone
pub record Disk : Type 0 where
  pub count : ℕ
  pub cells : ℕ → Cell
  pub on : Bool

-- What is free in one call: whether the device goes inside it; whether, going inside a write, it took the bytes; and which
-- possibilities it loses, by the places in each sector's list of those that stay. `last` is the place, in the list of the sector
-- that a write was under way to, of the possibility that is then the last one.
pub record Fate : Type 0 where
  pub goes : Bool
  pub took : Bool
  pub keeps : ℕ → List ℕ
  pub last : ℕ

-- the possibility at a place of a sector's list; past the end it is the last one
abbrev pub at : Cell → ℕ → Bytes
at c p = slice_index_or c.older p c.latest

-- the possibilities at some places
abbrev pub kept : Cell → List ℕ → List Bytes
kept c places = map (at c) places

-- CALLS

-- the calls that may refuse: a read into so many bytes, a write, a flush
pub data Op : Type 0 where
  reads : (length : ℕ) (sector : ℕ) → Op
  writes : (sector : ℕ) (bytes : Bytes) → Op
  flushes : Op

-- the sector that a call names; 0 for a flush
abbrev pub place : Op → ℕ
place (reads len s) = s
place (writes s bytes) = s
place flushes = 0

-- how a call goes: it is good; the device goes inside it; or it is refused, with a number and a place
pub data Way : Type 0 where
  passes : Way
  leaves : Way
  refuses : (number : ℕ) (place : ℕ) → Way

-- the tests of a read or a write, in their order: length, place; then w
abbrev pub at_sector : ℕ → ℕ → Disk → Way → Way
at_sector len s d w = cond (len == 512) (cond (nat_lt s d.count) w (refuses 2 s)) (refuses 1 0)

-- the tests that a call makes before w
abbrev pub tests : Op → Disk → Way → Way
tests (reads len s) d w = at_sector len s d w
tests (writes s bytes) d w = at_sector (length bytes) s d w
tests flushes d w = w

-- a device that is gone refuses, and one that is on may go
abbrev pub stands : Op → Bool → Fate → Way
stands o on f = cond on (cond f.goes leaves passes) (refuses 3 (place o))

-- how a call goes, by its fate
abbrev pub way : Op → Disk → Fate → Way
way o d f = tests o d (stands o d.on f)

-- WHAT A CALL LEAVES

-- the same device, gone
abbrev pub off : Disk → Disk
off d = record { count = d.count; cells = d.cells; on = false }

-- a sector keeps its last possibility, and of all its possibilities those at some places beside it
abbrev pub thin : Cell → List ℕ → Cell
thin c places = record { older = kept c places; latest = c.latest }

-- a sector has gained the bytes as one more possibility
abbrev pub grown : Cell → Bytes → Cell
grown c bytes = record { older = possibilities c; latest = bytes }

-- a sector that a write was under way to: some of its possibilities, the bytes among them if the device took them
abbrev pub torn : Cell → Bytes → Bool → List ℕ → ℕ → Cell
torn c bytes took places last =
    let offered = cond took (grown c bytes) c in
    record { older = kept offered places; latest = at offered last }

-- every sector is thinned
abbrev pub thinned : Disk → Fate → Disk
thinned d f = record { count = d.count; cells = λ t. thin (d.cells t) (f.keeps t); on = d.on }

-- a good write: the bytes are the last possibility of sector s; the others were possibilities before, and other sectors are thinned
abbrev pub put : Disk → ℕ → Bytes → Fate → Disk
put d s bytes f = record {
  count = d.count;
  cells = λ t. record { older = kept (d.cells t) (f.keeps t); latest = cond (t == s) bytes (d.cells t).latest };
  on = d.on;
}

-- a write inside which the device goes: sector s is torn, and the others are thinned
abbrev pub struck : Disk → ℕ → Bytes → Fate → Disk
struck d s bytes f = record {
  count = d.count;
  cells = λ t. cond (t == s) (torn (d.cells s) bytes f.took (f.keeps s) f.last) (thin (d.cells t) (f.keeps t));
  on = d.on;
}

-- a good flush: every sector has its last possibility alone
abbrev pub settled : Disk → Disk
settled d = record { count = d.count; cells = λ t. record { older = []; latest = (d.cells t).latest }; on = d.on }

-- the disk after a good call
abbrev pub carried : Op → Disk → Fate → Disk
carried (reads len s) d f = d
carried (writes s bytes) d f = put d s bytes f
carried flushes d f = settled d

-- the disk after a call inside which it goes
abbrev pub broken : Op → Disk → Fate → Disk
broken (reads len s) d f = off d
broken (writes s bytes) d f = off (struck d s bytes f)
broken flushes d f = off (thinned d f)

-- the disk after a call that goes a way
abbrev pub after_by : Way → Op → Disk → Fate → Disk
after_by passes o d f = carried o d f
after_by leaves o d f = broken o d f
after_by (refuses n p) o d f = d

-- WHAT A CALL ANSWERS

-- an answer: what a good call gives, or why it was refused
pub data Told (F A : Type 0) : Type 0 where
  good : A → Told F A
  refused : F → Told F A

-- why a device refuses: 1 length, 2 place, 3 gone; and the sector that 2 and 3 name
pub record Refusal : Type 0 where
  pub number : ℕ
  pub place : ℕ

-- a refusal by its numbers
abbrev pub refusal : ℕ → ℕ → Refusal
refusal n p = record { number = n; place = p }

-- what a good call gives: a read, the sector's last possibility
abbrev pub answered : Op → Disk → Bytes
answered (reads len s) d = (d.cells s).latest
answered (writes s bytes) d = []
answered flushes d = []

-- the answer of a call that goes a way
abbrev pub told_by : Way → Op → Disk → Told Refusal Bytes
told_by passes o d = good (answered o d)
told_by leaves o d = refused (refusal 3 (place o))
told_by (refuses n p) o d = refused (refusal n p)

-- THE MEANING OF A CALL

-- call o at disk d answers t and leaves disk e: by some fate, and by nothing else that is free
pub record Called (o : Op) (d : Disk) (t : Told Refusal Bytes) (e : Disk) : Type 0 where
  pub fate : Fate
  pub answer : t ≡ told_by (way o d fate) o d
  pub after : e ≡ after_by (way o d fate) o d fate

-- the fate of a device that does not go and keeps no possibility but the last
abbrev pub calm : Fate
calm = record { goes = false; took = false; keeps = λ _. []; last = 0 }

-- the same of a device that never goes and holds one possibility a sector: nothing is free
pub record Calmly (o : Op) (d : Disk) (t : Told Refusal Bytes) (e : Disk) : Type 0 where
  pub answer : t ≡ told_by (way o d calm) o d
  pub after : e ≡ after_by (way o d calm) o d calm

-- what holds of every device at all times: from 1 to 4,294,967,295 sectors, and each possibility has 512 bytes
pub record Whole (d : Disk) : Type 0 where
  pub some : 0 < d.count
  pub few : d.count < 2 ^ 32
  pub long : (s : ℕ) (b : Bytes) → s < d.count → Has (possibilities (d.cells s)) b → length b ≡ 512

-- a power cut: each sector has one of its possibilities as its only one, chosen sector by sector, and the device is on
pub record Cut (before after : Disk) : Type 0 where
  pub same_count : after.count ≡ before.count
  pub single : (s : ℕ) → (after.cells s).older ≡ []
  pub one_of : (s : ℕ) → Has (possibilities (before.cells s)) (after.cells s).latest
  pub runs : after.on ≡ true
