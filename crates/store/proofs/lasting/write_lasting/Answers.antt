use Rattle.device.proofs.Steps.{◌⨾◌, called, ran, ends, ends_as, passed_on}
use Rattle.store.proofs.lasting.write_lasting.Goals as goal

pub returns-in_err-write_sectors : goal.returns-in_err-write_sectors
returns-in_err-write_sectors g c = ends_as (passed_on c.from_residual.result tt _ c.from_residual.ensures.1) (ran _ c.in_err-write_sectors.ensures)

pub returns-in_err-flush : goal.returns-in_err-flush
returns-in_err-flush g c =
    ends_as (passed_on c.from_residual-in_err-flush.result tt _ c.from_residual-in_err-flush.ensures.1)
    (ran _ c.in_ok-write_sectors.ensures ⨾ called c.in_err-flush.ensures)

pub returns : goal.returns
returns g c = ends (ran _ c.in_ok-write_sectors.ensures ⨾ called c.in_ok-flush.ensures)
