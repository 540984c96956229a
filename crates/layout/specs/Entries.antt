-- Entries of 16 bytes, 32 to a sector.
use Rattle.std.specs.Prelude.{◌≡◌, ℕ, ◌+◌, ◌-◌, ◌*◌, ◌^◌, ◌<◌, ◌≤◌, cond, List, ◌++◌, length, take, drop, replicate, nat_le, slice_index_or}
use Rattle.std.specs.List.{between, flat_map, AllByRecursion}
use Rattle.device.specs.Disk.{Bytes}
use Rattle.layout.specs.declared.exception.Exception.{Exception}
use Rattle.layout.specs.Numbers.{le, value}

-- the bytes of an entry: old chunk, new chunk
abbrev pub entry : Exception → Bytes
entry x = le 8 x.old ++ le 8 x.new

-- an entry of zeros; any entry whose new chunk is 0 ends the list
abbrev pub nothing : Exception
nothing = record { old = 0; new = 0 }

-- the entry whose bytes begin at a place
abbrev pub entry_from : Bytes → ℕ → Exception
entry_from bytes at = record { old = value (between at (at + 8) bytes); new = value (between (at + 8) (at + 8 + 8) bytes) }

-- entry k of some bytes; past their end there is nothing
abbrev pub nth_entry : Bytes → ℕ → Exception
nth_entry bytes k = cond (nat_le (16 * k + 16) (length bytes)) (entry_from bytes (16 * k)) nothing

-- bytes, and zeros after them up to a sector
abbrev pub padded : Bytes → Bytes
padded bytes = bytes ++ replicate (512 - length bytes) 0

-- counting the sectors of all areas from 0: sector j has the exceptions from 32 j on, and zeros after them
abbrev pub pic : List Exception → ℕ → Bytes
pic es j = padded (flat_map entry (take 32 (drop (32 * j) es)))

-- both numbers have 64 bits
pub record Fits (x : Exception) : Type 0 where
  pub old : x.old < 256 ^ 8
  pub new : x.new < 256 ^ 8

-- a number that was written is read back, and bytes that were read are written again as they were;
-- an entry that was written is read back, and past the entries nothing is read
pub record ReadBack : Type 0 where
  pub number : (w n : ℕ) → n < 256 ^ w → value (le w n) ≡ n
  pub bytes : (b : Bytes) → AllByRecursion (λ x. x < 256) b → le (length b) (value b) ≡ b
  pub here : (es : List Exception) (j k : ℕ) (d : Exception) → AllByRecursion Fits es → k < length (take 32 (drop (32 * j) es)) → entry_from (pic es j) (16 * k) ≡ slice_index_or es (32 * j + k) d
  pub past : (es : List Exception) (j k : ℕ) → length (take 32 (drop (32 * j) es)) ≤ k → k < 32 → entry_from (pic es j) (16 * k) ≡ nothing
