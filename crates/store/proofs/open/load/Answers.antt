use Rattle.std.proofs.Common.{[]}
use Rattle.device.proofs.Steps.{◌⨾◌, ran, ends, ends_as}
use Rattle.store.specs.Scanning.{ending}
use Rattle.store.proofs.Exits.{passed, passed_up}
use Rattle.store.proofs.Writes.{resized}
use Rattle.store.proofs.open.load.Goals as goal

pub returns-in_err-end : goal.returns-in_err-end
returns-in_err-end g c = ends_as (passed c.from_residual.result _ _ c.from_residual.ensures.1) (ran _ c.in_err-end.ensures.call)

pub returns-in_err-clean : goal.returns-in_err-clean
returns-in_err-clean g c =
    let end = c.in_ok-end.end in
    ends_as (passed_up c.from_residual-in_err-clean.result _ _ c.from_residual-in_err-clean.ensures.1)
    (ran _ c.in_ok-end.ensures.call ⨾ ran _ (resized (ending [] end.area end.entry c.scan.new.bytes) c.in_ok-end.ensures.size c.in_err-clean.ensures))

pub returns : goal.returns
returns g c =
    let end = c.in_ok-end.end in
    ends (ran _ c.in_ok-end.ensures.call ⨾ ran _ (resized (ending [] end.area end.entry c.scan.new.bytes) c.in_ok-end.ensures.size c.in_ok-clean.ensures))
