-- What a list that stands leaves to be found, and where the sectors of a copy are.
use Rattle.std.proofs.Common.{◌≡◌, ℕ, ◌/◌, ◌%◌, ◌<◌, true, List, [], sym, ap, ◌∙◌, mod-lt}
use lib.Arith.{digits_div, digits_mod}
use Rattle.device.specs.Disk.{Disk}
use Rattle.layout.specs.declared.chunk.ChunkSize.{ChunkSize}
use Rattle.layout.specs.declared.exception.Exception.{Exception}
use Rattle.layout.specs.Chunks.{sectors, is_data, in_copy}
use Rattle.store.specs.Image.{Sizes}
use Rattle.recovery.specs.Readings.{Image, image}
use Rattle.recovery.specs.Standing.{Stands, Lies}
use Rattle.recovery.proofs.Finds.{sectors_within}
use Rattle.recovery.proofs.Stand.{standing_lies}
use Rattle.history.proofs.Invariant.{Chosen, single_is}

-- whatever a power cut leaves, opening finds the list that stands
pub stands_lists : (z : Sizes) (size : ChunkSize) (es : List Exception) (w : Disk) → Stands z size es w → (m : Image) → Chosen w m → Lies z size es m
stands_lists z size es w st m ch = standing_lies z size es m st.listed (λ s. st.sectors s (m s) (ch s))

-- the sectors of a copy are those of its chunk, in the same order
pub in_copy_chunk : (c k s : ℕ) → 0 < c → in_copy c k s / c ≡ k
in_copy_chunk c k s some = digits_div k (mod-lt s some)

pub in_copy_mod : (c k s : ℕ) → 0 < c → in_copy c k s % c ≡ s % c
in_copy_mod c k s some = digits_mod k (mod-lt s some)

-- the sectors of a data chunk are data
pub in_copy_data : (size : ChunkSize) (k s : ℕ) → is_data (sectors size) k ≡ true → is_data (sectors size) (in_copy (sectors size) k s / sectors size) ≡ true
in_copy_data size k s is = ap (is_data (sectors size)) (in_copy_chunk (sectors size) k s (sectors_within size).0) ∙ is

-- with one possibility a sector, only the image can be left
pub single_choice : (d : Disk) → ((s : ℕ) → (d.cells s).older ≡ []) → (m : Image) → Chosen d m → m ≡ image d
single_choice d single m ch = λ i s. sym (single_is (single s) (ch s)) i
