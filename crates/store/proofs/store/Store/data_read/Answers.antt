use Rattle.std.proofs.Common.{length, sym, refl, ap}
use Rattle.device.specs.Disk.{reads, good}
use Rattle.device.specs.Plans.{done, onward}
use Rattle.device.proofs.Steps.{same, ◌⨾◌, called, ends, ends_as, untouched_on}
use Rattle.store.specs.Refusals.{asking}
use Rattle.store.proofs.Exits.{passed_up}
use Rattle.store.proofs.store.Store.data_read.Goals as goal

pub returns-in_err-read : goal.returns-in_err-read
returns-in_err-read g c =
    record {
      call = ends_as (passed_up c.from_residual-in_err-read.result _ _ c.from_residual-in_err-read.ensures.1)
          (same (ap (λ t. onward t (λ _. asking (reads (length c.args.buffer.now) c.args.sector) (λ b. done (good b)))) (sym c.in_ok-check_data.ensures)) ⨾ called c.in_err-read.ensures.call);
      rest = refl;
      untouched = untouched_on c.from_residual-in_err-read.result c.in_err-read.ensures.untouched;
    }

pub returns : goal.returns
returns g c =
    record {
      call = ends (same (ap (λ t. onward t (λ _. asking (reads (length c.args.buffer.now) c.args.sector) (λ b. done (good b)))) (sym c.in_ok-check_data.ensures)) ⨾ called c.in_ok-read.ensures.call);
      rest = refl;
      untouched = tt;
    }
