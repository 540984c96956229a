-- A plain device: bytes in whole sectors, one possibility each.
use Rattle.std.specs.Prelude.{ℕ, ◌+◌, ◌*◌, ◌/◌, ◌%◌, ◌^◌, Bool, cond, ◌&&◌, [], ◌++◌, length, take, drop, replicate, vec_items, ◌==◌, nat_lt}
use Rattle.device.specs.declared.plain.PlainDevice.{PlainDevice}
use Rattle.device.specs.Disk.{Bytes, Disk, Told, good, refused, Refusal, refusal}

-- the bytes that a plain device holds
abbrev pub contents : PlainDevice → Bytes
contents x = vec_items x.bytes

-- sector s of some bytes
abbrev pub nth_sector : Bytes → ℕ → Bytes
nth_sector bytes s = take 512 (drop (512 * s) bytes)

-- the bytes with another sector s
abbrev pub with_sector : Bytes → ℕ → Bytes → Bytes
with_sector all s bytes = take (512 * s) all ++ (bytes ++ drop (512 * s + 512) all)

-- so many bytes are whole sectors, at least one, and not too many
abbrev pub fit : ℕ → Bool
fit len = nat_lt 0 len && (len % 512 == 0 && nat_lt len (512 * 2 ^ 32))

-- how many sectors so many bytes make; unfit ones make one
abbrev pub sectors_of : ℕ → ℕ
sectors_of len = cond (fit len) (len / 512) 1

-- a sector of the device that bytes make; unfit ones make zeros
abbrev pub sector_of : Bytes → ℕ → Bytes
sector_of bytes s = cond (fit (length bytes)) (nth_sector bytes s) (replicate 512 0)

-- the device that bytes make; of unfit ones it is one sector of zeros, gone from the start
abbrev pub plain : Bytes → Disk
plain bytes = record {
  count = sectors_of (length bytes);
  cells = λ s. record { older = []; latest = sector_of bytes s };
  on = fit (length bytes);
}

-- the question whether bytes make a device that is on
abbrev pub fitness : Bytes → Told Refusal (Unit {0})
fitness bytes = cond (fit (length bytes)) (good tt) (refused (refusal 1 0))
