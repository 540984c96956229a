-- Sectors that hold a list of exceptions.
use Rattle.std.specs.Prelude.{◌≡◌, ℕ, ◌+◌, ◌*◌, ◌<◌, ◌≤◌, false, List, [], length, get_or, take, ◌≢◌, slice_index_or}
use Rattle.std.specs.List.{between, AllByRecursion}
use Rattle.device.specs.Disk.{Bytes, good}
use Rattle.layout.specs.declared.exception.Exception.{Exception}
use Rattle.layout.specs.Chunks.{per_area, area_start}
use Rattle.layout.specs.Entries.{nothing, entry, entry_from, nth_entry, pic, Fits}
use Rattle.exceptions.specs.Table.{entries_at_most}
use Rattle.store.specs.declared.shape.Shape.{Shape}
use Rattle.store.specs.Judge.{width, damaged}
use Rattle.store.specs.Scanning.{most_areas, ending}
use Rattle.recovery.specs.Readings.{Image, area_bytes, scanned}

-- the sectors read as the exceptions es and an end entry; what follows that is free
pub record Holds (s : Shape) (m : Image) (es : List Exception) : Type 0 where
  pub entries : (a k : ℕ) → k < per_area (width s) → per_area (width s) * a + k < length es → nth_entry (area_bytes s m a) k ≡ slice_index_or es (per_area (width s) * a + k) nothing
  pub end : (a k : ℕ) → k < per_area (width s) → per_area (width s) * a + k ≡ length es → (nth_entry (area_bytes s m a) k).new ≡ 0

-- exceptions that an opening takes
pub record Sound (s : Shape) (es : List Exception) : Type 0 where
  pub few : length es ≤ entries_at_most
  pub some : (i : ℕ) → i < length es → (get_or es i nothing).new ≢ 0
  pub whole : (a k : ℕ) → k < per_area (width s) → per_area (width s) * a + k < length es → damaged s a k (take (per_area (width s) * a + k) es) (slice_index_or es (per_area (width s) * a + k) nothing) ≡ false

-- a scan finds the list, and its end
pub record FoundAgain (s : Shape) (m : Image) (es : List Exception) : Type 0 where
  pub area : ℕ
  pub place : ℕ
  pub inside : place < per_area (width s)
  pub is : per_area (width s) * area + place ≡ length es
  pub answer : scanned s m most_areas 0 [] ≡ good (ending es area place (area_bytes s m area))

-- what the sectors hold is found
abbrev pub FindsWhatItHolds : Type 0
FindsWhatItHolds = (s : Shape) (m : Image) (es : List Exception) → Holds s m es → Sound s es → FoundAgain s m es

-- each sector of the areas, up to the one with the end entry, reads as its picture
pub record Pictured (s : Shape) (m : Image) (es : List Exception) : Type 0 where
  pub sectors : (a q : ℕ) → q < width s → per_area (width s) * a ≤ length es → m (area_start (width s) a + q) ≡ pic es (width s * a + q)

-- pictures hold their list
abbrev pub PicturesHold : Type 0
PicturesHold = (s : Shape) (m : Image) (es : List Exception) → AllByRecursion Fits es → Pictured s m es → Holds s m es

-- bytes that were read as an entry are written again as they were
abbrev pub EntryWrittenAgain : Type 0
EntryWrittenAgain = (b : Bytes) (i : ℕ) → AllByRecursion (λ x. x < 256) b → i + 16 ≤ length b → entry (entry_from b i) ≡ between i (i + 16) b
