-- The code's refusals by their numbers.
use Rattle.std.specs.Prelude.{Bool, true, false, Ok, Err, Result}
use Rattle.device.specs.Disk.{Told, good, refused, refusal}
use Rattle.device.specs.Plans.{origin}
use Rattle.device.specs.Answers.{number, where_at}
use Rattle.store.specs.Answers.{numbers as store_numbers}
use Rattle.history.specs.Faults.{Fault, fault, pair_fault, store_up, passed_up}
use Rattle.snapshot.specs.declared.fault.Fault.{Fault as CodeFault}
use Rattle.snapshot.specs.declared.fault.FaultNumbers.{FaultNumbers}
use Rattle.snapshot.specs.declared.fault.Fault.TheVariants.{Origin, Store, Length, Sector, State, Stopped, Invalid, ChunkSize, Misshaped}
use Rattle.snapshot.specs.declared.state.OriginWrite.{OriginWrite}
use Rattle.snapshot.specs.declared.state.OriginWrite.TheVariants.{Kept, Invalidated}

-- each refusal's numbers
abbrev pub numbers : CodeFault → Fault
numbers (Origin f) = passed_up origin (refusal (number f) (where_at f))
numbers (Store f) = store_up (store_numbers f)
numbers Length = pair_fault 1
numbers (Sector s) = fault 2 3 0 s 0
numbers State = pair_fault 4
numbers Stopped = pair_fault 5
numbers Invalid = pair_fault 6
numbers (ChunkSize n) = pair_fault 8
numbers Misshaped = pair_fault 9

-- the five numbers that the code gives
abbrev pub numbered : FaultNumbers → Fault
numbered n = fault n.number n.layer n.device n.place n.entry

-- an answer, with what a good one gives
abbrev pub told : {A B : Type 0} → Result A CodeFault → B → Told Fault B
told (Ok _) b = good b
told (Err e) b = refused (numbers e)

-- an answer, with the value of a good one
abbrev pub gave : {A : Type 0} → Result A CodeFault → Told Fault A
gave (Ok a) = good a
gave (Err e) = refused (numbers e)

-- an answer that gives nothing
abbrev pub answered : Result (Unit {0}) CodeFault → Told Fault (Unit {0})
answered r = told r tt

-- whether an origin write made the snapshot invalid
abbrev pub became : OriginWrite → Bool
became Kept = false
became Invalidated = true

-- an origin write's answer
abbrev pub wrote : Result OriginWrite CodeFault → Told Fault Bool
wrote (Ok w) = good (became w)
wrote (Err e) = refused (numbers e)
