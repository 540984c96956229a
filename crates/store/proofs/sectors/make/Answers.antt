use Rattle.std.proofs.Common.{refl}
use Rattle.device.proofs.Steps.{◌⨾◌, called, ran, led, ends, ends_as, passed_on}
use Rattle.store.proofs.Writes.{zeroed, stored}
use Rattle.store.proofs.sectors.make.Goals as goal

pub returns-in_err-write : goal.returns-in_err-write
returns-in_err-write g c = ends_as (passed_on c.from_residual.result tt _ c.from_residual.ensures.1) (called c.in_err-write.ensures)

pub returns-in_err-flush : goal.returns-in_err-flush
returns-in_err-flush g c =
    ends_as (passed_on c.from_residual-in_err-flush.result tt _ c.from_residual-in_err-flush.ensures.1)
    (called c.in_ok-write.ensures ⨾ called c.in_err-flush.ensures)

pub returns-in_err-write_zeros : goal.returns-in_err-write_zeros
returns-in_err-write_zeros g c =
    ends_as (passed_on c.from_residual-in_err-write_zeros.result tt _ c.from_residual-in_err-write_zeros.ensures.1)
    (called c.in_ok-write.ensures ⨾ called c.in_ok-flush.ensures
    ⨾ ran _ (zeroed c.area_sector.result c.sectors.result c.area_sector.ensures.place c.sectors.ensures c.in_err-write_zeros.ensures))

pub returns-in_err-flush-2 : goal.returns-in_err-flush-2
returns-in_err-flush-2 g c =
    ends_as (passed_on c.from_residual-in_err-flush-2.result tt _ c.from_residual-in_err-flush-2.ensures.1)
    (called c.in_ok-write.ensures ⨾ called c.in_ok-flush.ensures
    ⨾ ran _ (zeroed c.area_sector.result c.sectors.result c.area_sector.ensures.place c.sectors.ensures c.in_ok-write_zeros.ensures)
    ⨾ called c.in_err-flush-2.ensures)

pub returns : goal.returns
returns g c =
    ends
    (called c.in_ok-write.ensures ⨾ called c.in_ok-flush.ensures
    ⨾ ran _ (zeroed c.area_sector.result c.sectors.result c.area_sector.ensures.place c.sectors.ensures c.in_ok-write_zeros.ensures)
    ⨾ called c.in_ok-flush-2.ensures ⨾ led (stored 0 c.encode_header.result 0 _ refl c.encode_header.ensures refl c.write_lasting.ensures))
