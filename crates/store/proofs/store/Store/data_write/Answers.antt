use Rattle.std.proofs.Common.{sym, refl, ap}
use Rattle.device.specs.Disk.{writes, good}
use Rattle.device.specs.Plans.{done, onward}
use Rattle.device.proofs.Steps.{same, ◌⨾◌, called, ends, ends_as}
use Rattle.store.specs.Refusals.{asking}
use Rattle.store.proofs.Exits.{passed_up}
use Rattle.store.proofs.store.Store.data_write.Goals as goal

pub returns-in_err-write : goal.returns-in_err-write
returns-in_err-write g c =
    record {
      call = ends_as (passed_up c.from_residual-in_err-write.result tt _ c.from_residual-in_err-write.ensures.1)
          (same (ap (λ t. onward t (λ _. asking (writes c.args.sector c.args.bytes.now) (λ _. done (good tt)))) (sym c.in_ok-check_data.ensures)) ⨾ called c.in_err-write.ensures);
      rest = refl;
    }

pub returns : goal.returns
returns g c =
    record {
      call = ends (same (ap (λ t. onward t (λ _. asking (writes c.args.sector c.args.bytes.now) (λ _. done (good tt)))) (sym c.in_ok-check_data.ensures)) ⨾ called c.in_ok-write.ensures);
      rest = refl;
    }
