-- The code's answers by their numbers.
use Rattle.std.specs.Prelude.{ℕ, Bool, cond, Ok, Err, Result, ◌==◌, nat_lt}
use Rattle.device.specs.declared.fault.DeviceFault.{DeviceFault}
use Rattle.device.specs.declared.fault.DeviceFault.TheVariants.{Length, Place, Gone}
use Rattle.device.specs.Disk.{Told, good, refused, Refusal, refusal}

-- each refusal's number
abbrev pub number : DeviceFault → ℕ
number Length = 1
number (Place s) = 2
number (Gone s) = 3

-- the sector that a refusal names
abbrev pub where_at : DeviceFault → ℕ
where_at Length = 0
where_at (Place s) = s
where_at (Gone s) = s

-- an answer, with what a good one gives
abbrev pub told : {A B : Type 0} → Result A DeviceFault → B → Told Refusal B
told (Ok _) b = good b
told (Err e) b = refused (refusal (number e) (where_at e))

-- the tests of a read or a write alone: so many bytes, at sector s of n
abbrev pub sector_test : ℕ → ℕ → ℕ → Told Refusal (Unit {0})
sector_test len s n = cond (len == 512) (cond (nat_lt s n) (good tt) (refused (refusal 2 s))) (refused (refusal 1 0))

-- the test of a device that never goes: it is on, or refuses at sector s
abbrev pub power_test : Bool → ℕ → Told Refusal (Unit {0})
power_test on s = cond on (good tt) (refused (refusal 3 s))
