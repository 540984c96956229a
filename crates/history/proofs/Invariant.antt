-- What is true of devices and machine between calls.
use Rattle.std.proofs.Common.{◌≡◌, ℕ, ◌/◌, ◌<◌, true, false, ◌⊎◌, [], ◌∷◌, ◌++◌, Some, None, refl, ◌∙◌, subst}
use Rattle.std.specs.List.{ContainsAt as Has}
use Rattle.device.specs.Disk.{Bytes, Cell, Disk, possibilities, refused, Whole, Cut}
use Rattle.device.specs.Plans.{Disks}
use Rattle.device.proofs.Possible.{last_has}
use Rattle.device.specs.Sectors.{only}
use Rattle.layout.specs.Chunks.{sectors, in_copy}
use Rattle.exceptions.specs.Table.{lookup}
use Rattle.store.specs.Image.{Sizes}
use Rattle.store.specs.Refusals.{because}
use Rattle.recovery.specs.Breaks.{Sure}
use Rattle.recovery.specs.Readings.{Image, image, found}
use Rattle.recovery.specs.Standing.{Listed, Stands, Lies}
use Rattle.history.specs.Steps.{sizes, both_on}
use Rattle.history.specs.History.{Situation, Call}
use Rattle.history.specs.Machine.{Plain, Machine, diverged_at, table_of, memory_of, cut_short, Agrees}

-- an image that a power cut may leave of a device
abbrev pub Chosen : Disk → Image → Type 0
Chosen d m = (s : ℕ) → Has (possibilities (d.cells s)) (m s)

-- the COW device holds the machine's list whatever a power cut leaves, and the view's bytes in the copies
pub record Copies (p : Plain) (w : Disk) : Type 0 where
  pub listed : Listed p.size p.chunk (table_of p)
  pub lists : (m : Image) → Chosen w m → Lies p.size p.chunk (table_of p) m
  pub copies : (s k : ℕ) (b : Bytes) → s < p.size.origin → lookup (table_of p) (s / sectors p.chunk) ≡ Some k → Has (possibilities (w.cells (in_copy (sectors p.chunk) k s))) b → Has (possibilities (p.view s)) b

-- a store that is invalid whatever a power cut leaves
abbrev pub Spoiled : Sizes → Disk → Type 0
Spoiled z w = (m : Image) → Chosen w m → found z m ≡ refused (because 6 0 0)

-- the machine's possibilities cover those of the devices; outside the diverged chunks its two disks are the same
pub record Covers (p : Plain) (d : Disks) : Type 0 where
  pub sectors : sizes d ≡ p.size
  pub origin : (s : ℕ) (b : Bytes) → s < p.size.origin → Has (possibilities (d.origin.cells s)) b → Has (possibilities (p.origin s)) b
  pub shared : p.void ≡ false → (s : ℕ) → s < p.size.origin → diverged_at p s ≡ false → p.view s ≡ p.origin s
  pub valid : p.void ≡ false → Copies p d.cow
  pub spoiled : p.void ≡ true → Spoiled p.size d.cow

-- both devices are whole
pub record Wholes (d : Disks) : Type 0 where
  pub origin : Whole d.origin
  pub cow : Whole d.cow

-- both devices after a power cut
pub record CutBoth (d e : Disks) : Type 0 where
  pub origin : Cut d.origin e.origin
  pub cow : Cut d.cow e.cow

-- between calls, while both devices are on
pub record On (m : Machine) (w : Situation) : Type 0 where
  pub idle : m.pending ≡ None
  pub mode : w.mode ≡ m.mode
  pub memory : w.memory ≡ memory_of m
  pub whole : Wholes w.disks
  pub agrees : Agrees m.plain w.disks
  pub covers : Covers m.plain w.disks
  pub ready : m.plain.void ≡ false → Stands m.plain.size m.plain.chunk (table_of m.plain) w.disks.cow ⊎ ((m.opened ≡ false) × Sure w.disks.cow)

-- what a power cut may find is something that the call under way may have come to
abbrev pub Survives : Machine → Disks → Type 0
Survives m d = (e : Disks) → CutBoth d e → (came : Plain) × Has (cut_short m.plain m.pending) came × Covers came e

-- a device went inside a call, which stays under way
pub record Off (m : Machine) (w : Situation) : Type 0 where
  pub call : Call
  pub waits : m.pending ≡ Some call
  pub mode : w.mode ≡ m.mode
  pub whole : Wholes w.disks
  pub sectors : sizes w.disks ≡ m.plain.size
  pub gone : both_on w.disks ≡ false
  pub survives : Survives m w.disks

-- between calls
abbrev pub Inv : Machine → Situation → Type 0
Inv m w = On m w ⊎ Off m w

-- outside the diverged chunks the two disks are the same, while the view is not void
abbrev pub Shares : Plain → Type 0
Shares p = (s : ℕ) → p.void ≡ false → s < p.size.origin → diverged_at p s ≡ false → p.view s ≡ p.origin s

-- FEWER POSSIBILITIES

-- a device with no possibility that another has not
pub record Fewer (d e : Disk) : Type 0 where
  pub count : e.count ≡ d.count
  pub possible : (s : ℕ) (b : Bytes) → Has (possibilities (e.cells s)) b → Has (possibilities (d.cells s)) b

pub fewer_chosen : {d e : Disk} (m : Image) → Fewer d e → Chosen e m → Chosen d m
fewer_chosen m f c s = f.possible s (m s) (c s)

-- such devices are covered too
pub covers_fewer : {p : Plain} {d e : Disks} → Covers p d → Fewer d.origin e.origin → Fewer d.cow e.cow → Covers p e
covers_fewer {p} {d} {e} c fo fw = record {
  sectors = (λ i. record { origin = fo.count i; cow = fw.count i }) ∙ c.sectors;
  origin = λ s b l has. c.origin s b l (fo.possible s b has);
  shared = c.shared;
  valid = λ v. let k = c.valid v in record { listed = k.listed; lists = λ m ch. k.lists m (fewer_chosen m fw ch); copies = λ s x b l is has. k.copies s x b l is (fw.possible _ b has) };
  spoiled = λ v m ch. c.spoiled v m (fewer_chosen m fw ch);
}

pub fewer_same : {d e : Disk} → e.count ≡ d.count → e.cells ≡ d.cells → Fewer d e
fewer_same n is = record { count = n; possible = λ s b has. subst (λ y. Has (possibilities (y s)) b) is has }

pub fewer_refl : {d : Disk} → Fewer d d
fewer_refl = record { count = refl; possible = λ s b has. has }

pub fewer_trans : {d e f : Disk} → Fewer d e → Fewer e f → Fewer d f
fewer_trans a b = record { count = b.count ∙ a.count; possible = λ s x has. a.possible s x (b.possible s x has) }

-- a sector with one possibility has what it reads
pub single_is : {c : Cell} {b : Bytes} → c.older ≡ [] → Has (possibilities c) b → c.latest ≡ b
single_is {c} {b} none has = only (subst (λ o. Has (o ++ (c.latest ∷ [])) b) none has)

-- what a power cut leaves was possible
pub cut_fewer : {d e : Disk} → Cut d e → Fewer d e
cut_fewer {d} {e} c = record { count = c.same_count; possible = λ s b has. subst (Has (possibilities (d.cells s))) (single_is (c.single s) has) (c.one_of s) }

-- a choice that a power cut left is the image
pub image_chosen : (d : Disk) → Chosen d (image d)
image_chosen d s = last_has (d.cells s)
