use Rattle.std.proofs.Common.{◌/◌, refl}
use Rattle.device.specs.Disk.{good}
use Rattle.device.proofs.Steps.{ran, ends_as}
use Rattle.store.proofs.Exits.{passed_value}
use Rattle.store.proofs.store.Store.read_shape.Goals as goal

pub returns-in_err-size : goal.returns-in_err-size
returns-in_err-size g c = record { call = ends_as (passed_value c.from_residual.result _ c.from_residual.ensures.1) (ran _ c.in_err-size.ensures); rest = refl }

pub returns : goal.returns
returns g c =
    record { call = ends_as (λ i. good (record { size = c.in_ok-size.size; olds = c.args.origin / c.sectors.ensures i; chunks = c.sectors-cow.ensures i / c.sectors-2.ensures i })) (ran _ c.in_ok-size.ensures); rest = refl }
