use Rattle.std.proofs.Common.{refl}
use Rattle.device.proofs.Steps.{ran, ends, ends_as}
use Rattle.store.proofs.Exits.{passed_up, refused_case}
use Rattle.store.proofs.store.Store.make.Goals as goal

pub returns-in_err-make : goal.returns-in_err-make
returns-in_err-make g c =
    let failed = c.from_residual.ensures.0 in
    record {
      call = ends_as (passed_up c.from_residual.result tt _ c.from_residual.ensures.1) (ran _ c.in_err-make.ensures);
      size = refused_case c.from_residual.result _ failed refl;
      table = refused_case c.from_residual.result _ failed refl;
    }

pub returns : goal.returns
returns g c = record { call = ends (ran _ c.in_ok-make.ensures); size = refl; table = c.clear.ensures }
