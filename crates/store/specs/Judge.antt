-- Which entries an opening takes for damaged.
use Rattle.std.specs.Prelude.{ℕ, ◌+◌, Bool, not, ◌&&◌, ◌||◌, List, ◌==◌, nat_le, nat_lt}
use Rattle.layout.specs.declared.exception.Exception.{Exception}
use Rattle.layout.specs.Chunks.{sectors, per_area, area_chunk, is_data}
use Rattle.exceptions.specs.Table.{has_old, has_new}
use Rattle.store.specs.declared.shape.Shape.{Shape}

-- the sectors of a chunk
abbrev pub width : Shape → ℕ
width s = sectors s.size

-- chunk n is for data and on the COW device
abbrev pub on_data : Shape → ℕ → Bool
on_data s n = is_data (width s) n && nat_lt n s.chunks

-- entry k is the last of area a, and the next area is not on the device
abbrev pub stranded : Shape → ℕ → ℕ → Bool
stranded s a k = k + 1 == per_area (width s) && nat_le s.chunks (area_chunk (width s) (a + 1))

-- entry k of area a, after the exceptions es: its old chunk is not on the origin, its new one is no data chunk on the device, either
-- is repeated, or it fills an area whose next one is not on the device
abbrev pub damaged : Shape → ℕ → ℕ → List Exception → Exception → Bool
damaged s a k es x = nat_le s.olds x.old || (not (on_data s x.new) || (has_old es x.old || (has_new es x.new || stranded s a k)))
