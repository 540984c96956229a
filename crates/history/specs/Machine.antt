-- What a snapshot is to do, told by two plain disks: the origin and the view, each sector with its possibilities, and the chunks
-- that have diverged. The machine is fed each call, how the call ended, and each power cut.
use Rattle.std.specs.Prelude.{◌≡◌, ℕ, zero, suc, ◌+◌, ◌-◌, ◌*◌, ◌/◌, ◌<◌, Bool, true, false, cond, not, ◌&&◌, ◌||◌, List, [], ◌∷◌, ◌++◌, map, length, take, drop, is_some, Some, None, Option, ◌==◌}
use Rattle.std.specs.List.{ContainsAt as Has}
use Rattle.device.specs.Disk.{Bytes, Cell, possibilities, Told, good, refused}
use Rattle.device.specs.Plans.{Disks, side}
use Rattle.layout.specs.declared.chunk.ChunkSize.{ChunkSize}
use Rattle.layout.specs.declared.exception.Exception.{Exception}
use Rattle.layout.specs.Chunks.{sectors, per_area}
use Rattle.exceptions.specs.Search.{first}
use Rattle.exceptions.specs.Table.{entries_at_most, has_room, last_run}
use Rattle.store.specs.Image.{Sizes}
use Rattle.store.specs.Refusals.{StoreRefusal, because}
use Rattle.store.specs.Steps.{Contents}
use Rattle.recovery.specs.Readings.{image, found}
use Rattle.history.specs.Faults.{Fault, store_fault}
use Rattle.history.specs.Steps.{sizes, both_on, Memory, closed, serving, invalid, Mode, plain, merging, Ground, Figures, make_refusal, spot}
use Rattle.history.specs.History.{Situation, Call, ask_status, ask_merge, read_origin, read_view, write_origin, write_snapshot, write_merging, flush_all, begin_merge, step_merge, leave_merge, reopen, nothing, contents, became_invalid, merged, figures, Answer, refusal, End, completed, under_way, not_done, ending, History, begun, next_call, cut, rejoin, making_refused}

-- Two plain disks, origin and view. The diverged chunks, those with a copy, stand in the order in which they parted. The view is void
-- once an origin write found no room for a copy.
pub record Plain : Type 0 where
  pub size : Sizes
  pub chunk : ChunkSize
  pub origin : ℕ → Cell
  pub view : ℕ → Cell
  pub diverged : List ℕ
  pub void : Bool

-- besides: whether the pair is open, and merging, and the call that stays under way since a device went inside it
pub record Machine : Type 0 where
  pub plain : Plain
  pub opened : Bool
  pub mode : Mode
  pub pending : Option Call

-- CELLS

-- one possibility
abbrev pub only : Bytes → Cell
only b = record { older = []; latest = b }

-- bytes written: the last possibility now
abbrev pub added : Bytes → Cell → Cell
added b k = record { older = possibilities k; latest = b }

-- bytes that may have been written
abbrev pub perhaps : Bytes → Cell → Cell
perhaps b k = record { older = b ∷ k.older; latest = k.latest }

-- the last possibility alone
abbrev pub settled_cell : Cell → Cell
settled_cell k = only k.latest

-- one sector changed
abbrev pub changed : (Cell → Cell) → ℕ → (ℕ → Cell) → ℕ → Cell
changed f s cells t = cond (t == s) (f (cells t)) (cells t)

-- DIVERGED CHUNKS

-- whether a chunk is among some
abbrev pub has_chunk : List ℕ → ℕ → Bool
has_chunk chunks k = is_some (first (λ j. j) k chunks)

-- the chunk of a sector
abbrev pub chunk_of : Plain → ℕ → ℕ
chunk_of p s = s / sectors p.chunk

-- whether the chunk of a sector has diverged
abbrev pub diverged_at : Plain → ℕ → Bool
diverged_at p s = has_chunk p.diverged (chunk_of p s)

-- the place of the i-th diverged chunk; e entries to an area
abbrev pub place_of : ℕ → ℕ → ℕ
place_of e i = 2 + i + i / e

-- diverged chunks, the first of them the i-th, with their places
abbrev pub placed : ℕ → ℕ → List ℕ → List Exception
placed e i [] = []
placed e i (k ∷ ks) = record { old = k; new = place_of e i } ∷ placed e (i + 1) ks

-- the exceptions that the diverged chunks stand for
abbrev pub table_of : Plain → List Exception
table_of p = placed (per_area (sectors p.chunk)) 0 p.diverged

-- whether one more chunk may diverge
abbrev pub can_diverge : Plain → Bool
can_diverge p =
    let c = sectors p.chunk in
    let n = length p.diverged in
    has_room entries_at_most c (p.size.cow / c) n (place_of (per_area c) n)

-- an origin write here finds the store full
abbrev pub finds_full : Plain → ℕ → Bool
finds_full p s = not p.void && (not (diverged_at p s) && not (can_diverge p))

-- how many chunks the next merge step takes
abbrev pub run_length : Plain → ℕ
run_length p = last_run (sectors p.chunk) (table_of p)

-- CHANGES

-- another origin
abbrev pub with_origin : Plain → (ℕ → Cell) → Plain
with_origin p o = record p { origin = o }

-- another view
abbrev pub with_view : Plain → (ℕ → Cell) → Plain
with_view p v = record p { view = v }

-- other diverged chunks
abbrev pub with_diverged : Plain → List ℕ → Plain
with_diverged p ks = record p { diverged = ks }

-- the view is void
abbrev pub voided : Plain → Plain
voided p = record p { void = true }

-- the chunk of a sector diverges, if it has not
abbrev pub diverge : Plain → ℕ → Plain
diverge p s = cond (diverged_at p s) p (with_diverged p (p.diverged ++ (chunk_of p s ∷ [])))

-- one sector of the origin changed
abbrev pub on_origin : (Cell → Cell) → ℕ → Plain → Plain
on_origin f s p = with_origin p (changed f s p.origin)

-- one sector of the view changed
abbrev pub on_view : (Cell → Cell) → ℕ → Plain → Plain
on_view f s p = with_view p (changed f s p.view)

-- on the view, and on the origin too where the chunk has not diverged
abbrev pub on_both : (Cell → Cell) → ℕ → Plain → Plain
on_both f s p = cond (diverged_at p s) (on_view f s p) (on_origin f s (on_view f s p))

-- for an origin write the chunk diverges, or the view becomes void, or neither is wanted
abbrev pub ready : Plain → ℕ → Plain
ready p s = cond p.void p (cond (diverged_at p s) p (cond (can_diverge p) (diverge p s) (voided p)))

-- of the last r diverged chunks the last j are merged: origin and view have the view's reading alone there;
-- in the rest of the r the view's reading is possible on the origin
abbrev pub merged_partly : ℕ → ℕ → Plain → Plain
merged_partly r j p =
    let n = length p.diverged in
    let gone = drop (n - j) p.diverged in
    let rest = take (r - j) (drop (n - r) p.diverged) in
    record p {
      origin = λ s.
          cond (has_chunk gone (chunk_of p s)) (settled_cell (p.view s))
          (cond (has_chunk rest (chunk_of p s)) (perhaps (p.view s).latest (p.origin s)) (p.origin s));
      view = λ s. cond (has_chunk gone (chunk_of p s)) (settled_cell (p.view s)) (p.view s);
      diverged = take (n - j) p.diverged;
    }

-- after a flush
abbrev pub flushed : Plain → Plain
flushed p = with_view (with_origin p (λ s. settled_cell (p.origin s))) (λ s. settled_cell (p.view s))

-- after making: view and origin are what the origin reads
abbrev pub initial : ChunkSize → Disks → Plain
initial size d = record {
  size = sizes d;
  chunk = size;
  origin = λ s. only (image d.origin s);
  view = λ s. only (image d.origin s);
  diverged = [];
  void = false;
}

-- what a good call does to the disks
abbrev pub performed : Plain → Call → Plain
performed p ask_status = p
performed p ask_merge = p
performed p (read_origin s n) = p
performed p (read_view s n) = p
performed p (write_origin s b w) = on_origin (added b) s (ready p s)
performed p (write_snapshot s b w) = on_view (added b) s (diverge p s)
performed p (write_merging s b) = on_both (added b) s p
performed p flush_all = flushed p
performed p begin_merge = p
performed p (step_merge w) = merged_partly (run_length p) (run_length p) p
performed p leave_merge = p
performed p (reopen w) = p

-- whether the pair is open after a good call
abbrev pub opened_by : Call → Bool → Bool
opened_by ask_status o = o
opened_by ask_merge o = o
opened_by (read_origin s n) o = o
opened_by (read_view s n) o = o
opened_by (write_origin s b w) o = o
opened_by (write_snapshot s b w) o = o
opened_by (write_merging s b) o = o
opened_by flush_all o = o
opened_by begin_merge o = o
opened_by (step_merge w) o = o
opened_by leave_merge o = o
opened_by (reopen w) o = true

-- whether it is merging after a good call
abbrev pub mode_by : Call → Mode → Mode
mode_by ask_status x = x
mode_by ask_merge x = x
mode_by (read_origin s n) x = x
mode_by (read_view s n) x = x
mode_by (write_origin s b w) x = x
mode_by (write_snapshot s b w) x = x
mode_by (write_merging s b) x = x
mode_by flush_all x = x
mode_by begin_merge x = merging
mode_by (step_merge w) x = x
mode_by leave_merge x = plain
mode_by (reopen w) x = x

-- a call, by how it ended
abbrev pub next : Machine → Call → End → Machine
next m c completed = record m { plain = performed m.plain c; opened = opened_by c m.opened; mode = mode_by c m.mode }
next m c under_way = record m { pending = Some c }
next m c not_done = m

-- a fresh pair on the same disks
abbrev pub fresh : Machine → Machine
fresh m = record m { opened = false; mode = plain }

-- a pair just made
abbrev pub made : ChunkSize → Disks → Machine
made size d = record { plain = initial size d; opened = true; mode = plain; pending = None }

-- ANSWERS

-- what a pair sees of its devices, as the machine has it
abbrev pub ground_of : Machine → Ground
ground_of m = record { size = m.plain.size; stopped = is_some m.pending }

-- what the pair remembers, as the machine has it
abbrev pub memory_of : Machine → Memory
memory_of m = cond m.opened (cond m.plain.void invalid (serving m.plain.chunk (table_of m.plain))) closed

-- the state's number while the pair is open: 1 active, 2 merging
abbrev pub state_while_open : Mode → ℕ
state_while_open plain = 1
state_while_open merging = 2

-- the sectors of the header and of the areas that n exceptions take, chunks of c sectors
abbrev pub metadata_of : ℕ → ℕ → ℕ
metadata_of c zero = 2 * c
metadata_of c (suc n) = (2 + n / per_area c) * c

-- a state alone, all else 0
abbrev pub state_alone : ℕ → Figures
state_alone n = record { state = n; exceptions = 0; allocated = 0; metadata = 0 }

-- the figures of an open pair: how many chunks have diverged, and where the next one would go
abbrev pub figures_while_open : Plain → Mode → Figures
figures_while_open p mode =
    let c = sectors p.chunk in
    let n = length p.diverged in
    record { state = state_while_open mode; exceptions = n; allocated = place_of (per_area c) n * c; metadata = metadata_of c n }

-- the figures: 4 stopped while a call is under way, 0 closed, 3 invalid where the view is void
abbrev pub figures_by : Machine → Figures
figures_by m =
    cond (is_some m.pending) (state_alone 4)
    (cond m.opened (cond m.plain.void (state_alone 3) (figures_while_open m.plain m.mode)) (state_alone 0))

-- what a call that no test refuses is to answer
abbrev pub reply : Machine → Call → Answer
reply m ask_status = good (figures (figures_by m))
reply m ask_merge = good nothing
reply m (read_origin s n) = good (contents (m.plain.origin s).latest)
reply m (read_view s n) = good (contents (m.plain.view s).latest)
reply m (write_origin s b k) = good (became_invalid (finds_full m.plain s))
reply m (write_snapshot s b k) =
    cond (diverged_at m.plain s || can_diverge m.plain) (good nothing) (refused (store_fault 7 (chunk_of m.plain s) 0))
reply m (write_merging s b) = good nothing
reply m flush_all = good nothing
reply m begin_merge = good nothing
reply m (step_merge k) = good (merged (run_length m.plain) (length m.plain.diverged - run_length m.plain))
reply m leave_merge = good nothing
reply m (reopen k) = cond m.plain.void (refused (store_fault 6 0 0)) (good nothing)

-- a, unless a test refuses
abbrev pub unless_refused : Option Fault → Answer → Answer
unless_refused None a = a
unless_refused (Some f) a = refused f

-- what a call is to answer while both devices answer
abbrev pub expected : Machine → Call → Answer
expected m c = unless_refused (refusal (ground_of m) (memory_of m) m.mode c) (reply m c)

-- what a making is to be refused with, where it is
abbrev pub making_expected : Machine → ℕ → Option Fault
making_expected m c = make_refusal (ground_of m) (memory_of m) c

-- an answer is the expected one, unless a device went inside the call
pub data Follows (m : Machine) (c : Call) (a : Answer) : Type 0 where
  went : ending a ≡ under_way → Follows m c a
  told : a ≡ expected m c → Follows m c a

-- POWER CUTS

-- 0, 1, .., n
abbrev pub up_to : ℕ → List ℕ
up_to zero = 0 ∷ []
up_to (suc n) = up_to n ++ (suc n ∷ [])

-- what a call under way may have come to, each with all that is then possible
abbrev pub broken_off : Plain → Call → List Plain
broken_off p ask_status = p ∷ []
broken_off p ask_merge = p ∷ []
broken_off p (read_origin s n) = p ∷ []
broken_off p (read_view s n) = p ∷ []
broken_off p (write_origin s b w) =
    cond (p.void || diverged_at p s) (on_origin (perhaps b) s p ∷ []) (p ∷ on_origin (perhaps b) s (ready p s) ∷ [])
broken_off p (write_snapshot s b w) =
    cond (diverged_at p s) (on_view (perhaps b) s p ∷ []) (cond (can_diverge p) (p ∷ on_view (perhaps b) s (diverge p s) ∷ []) (p ∷ []))
broken_off p (write_merging s b) = on_both (perhaps b) s p ∷ []
broken_off p flush_all = p ∷ []
broken_off p begin_merge = p ∷ []
broken_off p (step_merge w) = map (λ j. merged_partly (run_length p) j p) (up_to (run_length p))
broken_off p leave_merge = p ∷ []
broken_off p (reopen w) = p ∷ []

-- what the call under way, if any, may have come to
abbrev pub cut_short : Plain → Option Call → List Plain
cut_short p None = p ∷ []
cut_short p (Some c) = broken_off p c

-- each sector has one of its possibilities; outside the diverged chunks one choice serves origin and view
pub record Pinned (p after : Plain) : Type 0 where
  pub same_size : after.size ≡ p.size
  pub same_chunk : after.chunk ≡ p.chunk
  pub same_diverged : after.diverged ≡ p.diverged
  pub same_void : after.void ≡ p.void
  pub origin_single : (s : ℕ) → (after.origin s).older ≡ []
  pub view_single : (s : ℕ) → (after.view s).older ≡ []
  pub origin_one_of : (s : ℕ) → s < p.size.origin → Has (possibilities (p.origin s)) (after.origin s).latest
  pub view_diverged : (s : ℕ) → s < p.size.origin → diverged_at p s ≡ true → Has (possibilities (p.view s)) (after.view s).latest
  pub view_shared : (s : ℕ) → s < p.size.origin → diverged_at p s ≡ false → after.view s ≡ after.origin s

-- a power cut: a fresh pair on what some choice leaves
pub record Cuts (m after : Machine) : Type 0 where
  pub came : Plain
  pub among : Has (cut_short m.plain m.pending) came
  pub pinned : Pinned came after.plain
  pub fresh_pair : after ≡ record { plain = after.plain; opened = false; mode = plain; pending = None }

-- THE DEVICES

-- what opening finds
abbrev pub finding : Disks → Told StoreRefusal Contents
finding d = found (sizes d) (image d.cow)

-- what sector s of the snapshot reads, by some exceptions
abbrev pub reads_at : Disks → ChunkSize → List Exception → ℕ → Bytes
reads_at d size table s = image (side (spot size table s).side d) (spot size table s).sector

-- The machine reads as the devices do, and both are on: the origin's sectors; opening finds the diverged chunks at their places, and
-- each sector of the view reads through them; or opening finds the store spoiled where the view is void.
pub record Agrees (p : Plain) (d : Disks) : Type 0 where
  pub on : both_on d ≡ true
  pub sectors : sizes d ≡ p.size
  pub origin : (s : ℕ) → s < p.size.origin → image d.origin s ≡ (p.origin s).latest
  pub opens : p.void ≡ false → finding d ≡ good (record { size = p.chunk; table = table_of p })
  pub view : p.void ≡ false → (s : ℕ) → s < p.size.origin → reads_at d p.chunk (table_of p) s ≡ (p.view s).latest
  pub spoiled : p.void ≡ true → finding d ≡ refused (because 6 0 0)

-- HISTORIES

-- the machine goes along with a history, from m₀ to m: each answer is the expected one; it reads as the devices do, unless a call is
-- under way; and a call is under way only where a device is gone. A making that is refused is refused as expected, and changes nothing
abbrev pub Simulates : Machine → {start w : Situation} → History start w → Machine → Type 0
Simulates m₀ begun m = m ≡ m₀
Simulates m₀ (next_call h c a after x) m =
    (p : Machine) × Simulates m₀ h p × Follows p c a × (m ≡ next p c (ending a)) × (m.pending ≡ None → Agrees m.plain after.disks)
    × (both_on after.disks ≡ true → m.pending ≡ None)
Simulates m₀ (cut h after x) m = (p : Machine) × Simulates m₀ h p × Cuts p m × Agrees m.plain after.disks
Simulates m₀ (rejoin h after x) m = (p : Machine) × Simulates m₀ h p × (m ≡ fresh p)
Simulates m₀ (making_refused {w} h c f after x) m = Simulates m₀ h m × (making_expected m c ≡ Some f) × (after ≡ w)
