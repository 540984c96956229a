-- The code's answers by their numbers.
use Rattle.std.specs.Prelude.{List, Ok, Err, Result}
use Rattle.device.specs.Disk.{Bytes, Told, good, refused, refusal}
use Rattle.device.specs.Answers.{number, where_at}
use Rattle.layout.specs.declared.exception.Exception.{Exception}
use Rattle.layout.specs.Headers.{number as header_number}
use Rattle.store.specs.declared.fault.StoreFault.{StoreFault}
use Rattle.store.specs.declared.fault.StoreFault.TheVariants.{Device, Head, Length, Chunk, Sector, Full, Invalid, Misshaped, Damaged, TooMany}
use Rattle.store.specs.declared.spot.Spot.{Spot}
use Rattle.store.specs.Refusals.{StoreRefusal, because, up}
use Rattle.store.specs.Scanning.{Ending, ending}

-- each refusal's numbers
abbrev pub numbers : StoreFault → StoreRefusal
numbers (Device f) = up (refusal (number f) (where_at f))
numbers (Head f) = because (header_number f) 0 0
numbers Length = because 1 0 0
numbers (Chunk old) = because 2 old 0
numbers (Sector s) = because 2 s 0
numbers (Full old) = because 7 old 0
numbers Invalid = because 6 0 0
numbers Misshaped = because 9 0 0
numbers (Damaged area entry) = because 13 area entry
numbers TooMany = because 14 0 0

-- an answer, with what a good one gives
abbrev pub told : {A B : Type 0} → Result A StoreFault → B → Told StoreRefusal B
told (Ok _) b = good b
told (Err e) b = refused (numbers e)

-- an answer, with the value of a good one
abbrev pub gave : {A : Type 0} → Result A StoreFault → Told StoreRefusal A
gave (Ok a) = good a
gave (Err e) = refused (numbers e)

-- a scan's answer, with the exceptions and the last area's bytes
abbrev pub told_spot : Result Spot StoreFault → List Exception → Bytes → Told StoreRefusal Ending
told_spot (Ok e) es bytes = good (ending es e.area e.entry bytes)
told_spot (Err f) es bytes = refused (numbers f)
