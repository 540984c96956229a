use Rattle.std.proofs.Common.{refl}
use Rattle.device.proofs.Steps.{called, ends, ends_as}
use Rattle.store.proofs.Exits.{passed_up}
use Rattle.store.proofs.store.Store.flush.Goals as goal

pub returns-in_err-flush : goal.returns-in_err-flush
returns-in_err-flush g c = record { call = ends_as (passed_up c.from_residual.result tt _ c.from_residual.ensures.1) (called c.in_err-flush.ensures); rest = refl }

pub returns : goal.returns
returns g c = record { call = ends (called c.in_ok-flush.ensures); rest = refl }
