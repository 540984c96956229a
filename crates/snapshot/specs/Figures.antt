-- What status tells, in numbers.
use Rattle.std.specs.Prelude.{ℕ}
use Rattle.history.specs.Steps.{Figures}
use Rattle.snapshot.specs.declared.state.State.{State}
use Rattle.snapshot.specs.declared.state.State.TheVariants.{Closed, Active, Merging, Invalid, Stopped}
use Rattle.snapshot.specs.declared.state.Status.{Status}

-- each state's number
abbrev pub state_number : State → ℕ
state_number Closed = 0
state_number Active = 1
state_number Merging = 2
state_number Invalid = 3
state_number Stopped = 4

-- a status in numbers
abbrev pub figured : Status → Figures
figured s = record { state = state_number s.state; exceptions = s.exceptions; allocated = s.allocated; metadata = s.metadata }
