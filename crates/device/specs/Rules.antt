-- What a device may do in a call, rule by rule. That the calls which keep these rules are just those that have a fate is proved.
use Rattle.std.specs.Prelude.{◌≡◌, ℕ, ◌<◌, true, false, ◌⊎◌, [], length, ◌≢◌}
use Rattle.std.specs.List.{ContainsAt as Has}
use Rattle.device.specs.Disk.{Bytes, Cell, possibilities, Disk, Op, reads, writes, flushes, place, Told, Refusal, refusal, good, refused, Called}

-- SECTORS

-- a sector keeps its last possibility and gains none
pub record Keeps (before after : Cell) : Type 0 where
  pub last : after.latest ≡ before.latest
  pub none_new : (b : Bytes) → Has after.older b → Has (possibilities before) b

-- a sector has the bytes as its last possibility, and the others were possibilities before
pub record Takes (bytes : Bytes) (before after : Cell) : Type 0 where
  pub last : after.latest ≡ bytes
  pub none_new : (b : Bytes) → Has after.older b → Has (possibilities before) b

-- a sector may have gained the bytes, and has gained nothing else
pub record Tears (bytes : Bytes) (before after : Cell) : Type 0 where
  pub none_else : (b : Bytes) → Has (possibilities after) b → Has (possibilities before) b ⊎ (bytes ≡ b)

-- a sector has its last possibility alone
pub record Settles (before after : Cell) : Type 0 where
  pub last : after.latest ≡ before.latest
  pub alone : after.older ≡ []

-- CALLS ON A DEVICE THAT IS ON

-- the same number of sectors, and every sector after the call as R says of it before
pub record Every (R : ℕ → Cell → Cell → Type 0) (d e : Disk) : Type 0 where
  pub count : e.count ≡ d.count
  pub sector : (u : ℕ) → R u (d.cells u) (e.cells u)

-- R at sector s, and elsewhere the sector keeps what it has
abbrev pub OnlyAt : ℕ → (Cell → Cell → Type 0) → ℕ → Cell → Cell → Type 0
OnlyAt s R u before after = (u ≡ s → R before after) × ((u ≢ s) → Keeps before after)

-- what a good call leaves: a read nothing new, a write the bytes, a flush last possibilities
abbrev pub Left : Op → Disk → Disk → Type 0
Left (reads len s) d e = Every (λ _ before after. after ≡ before) d e
Left (writes s bytes) d e = Every (OnlyAt s (Takes bytes)) d e
Left flushes d e = Every (λ _. Settles) d e

-- what a call leaves inside which the device goes
abbrev pub Lost : Op → Disk → Disk → Type 0
Lost (reads len s) d e = Every (λ _ before after. after ≡ before) d e
Lost (writes s bytes) d e = Every (OnlyAt s (Tears bytes)) d e
Lost flushes d e = Every (λ _. Keeps) d e

-- what a good call gives
abbrev pub Given : Op → Disk → Bytes → Type 0
Given (reads len s) d b = b ≡ (d.cells s).latest
Given (writes s bytes) d b = b ≡ []
Given flushes d b = b ≡ []

-- a good call: the device stays on
pub record Good (o : Op) (d : Disk) (t : Told Refusal Bytes) (e : Disk) : Type 0 where
  pub gives : Bytes
  pub answer : t ≡ good gives
  pub given : Given o d gives
  pub stays : e.on ≡ true
  pub left : Left o d e

-- a call inside which the device goes
pub record Goes (o : Op) (d : Disk) (t : Told Refusal Bytes) (e : Disk) : Type 0 where
  pub answer : t ≡ refused (refusal 3 (place o))
  pub gone : e.on ≡ false
  pub lost : Lost o d e

-- ALL CALLS

-- the buffer or the bytes are one sector long
abbrev pub Long : Op → Type 0
Long (reads len s) = len ≡ 512
Long (writes s bytes) = length bytes ≡ 512
Long flushes = Unit {0}

-- the sector is on the device
abbrev pub Here : Op → Disk → Type 0
Here (reads len s) d = s < d.count
Here (writes s bytes) d = s < d.count
Here flushes d = Unit {0}

-- a refusal that changes nothing
abbrev pub Refuses : ℕ → ℕ → Disk → Told Refusal Bytes → Disk → Type 0
Refuses number at d t e = (t ≡ refused (refusal number at)) × (e ≡ d)

-- the rules of a call: refused for length, then for place, then because the device is gone, and for nothing else, unless it goes
pub record Obeys (o : Op) (d : Disk) (t : Told Refusal Bytes) (e : Disk) : Type 0 where
  pub for_length : (Long o → ⊥) → Refuses 1 0 d t e
  pub for_place : Long o → (Here o d → ⊥) → Refuses 2 (place o) d t e
  pub for_gone : Long o → Here o d → d.on ≡ false → Refuses 3 (place o) d t e
  pub otherwise : Long o → Here o d → d.on ≡ true → Good o d t e ⊎ Goes o d t e

-- a call keeps the rules exactly if some fate explains it
abbrev pub FatesAreRules : Type 0
FatesAreRules = (o : Op) (d : Disk) (t : Told Refusal Bytes) (e : Disk) → (Called o d t e → Obeys o d t e) × (Obeys o d t e → Called o d t e)
