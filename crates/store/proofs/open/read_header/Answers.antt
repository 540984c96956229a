use Rattle.std.proofs.Common.{sym, ap, ◌∙◌}
use Rattle.device.specs.Disk.{good}
use Rattle.device.specs.Plans.{done}
use Rattle.device.proofs.Steps.{same, ◌⨾◌, called, ends_as}
use Rattle.store.specs.Image.{Sizes, header_judged}
use Rattle.store.proofs.Exits.{passed_value}
use Rattle.store.proofs.open.read_header.Goals as goal

pub returns-in_err-read : goal.returns-in_err-read
returns-in_err-read g c = ends_as (passed_value c.from_residual.result _ c.from_residual.ensures.1) (called c.in_err-read.ensures.call)

pub returns-in_err-header : goal.returns-in_err-header
returns-in_err-header g c =
    let z : Sizes = record { origin = c.args.origin; cow = (g.D.Device.disk c.args.device.now).count } in
    ends_as (passed_value c.from_residual-in_err-header.result _ c.from_residual-in_err-header.ensures.1)
    (called c.in_ok-read.ensures.call ⨾ same (ap (λ t. done (header_judged z t)) (sym c.in_err-header.ensures)))

pub returns : goal.returns
returns g c =
    let z : Sizes = record { origin = c.args.origin; cow = (g.D.Device.disk c.args.device.now).count } in
    let sized = ap (λ n. header_judged (record { origin = c.args.origin; cow = n }) (good c.in_ok-header.header)) c.sectors-cow.ensures in
    ends_as (c.judge_header.ensures ∙ sized)
    (called c.in_ok-read.ensures.call ⨾ same (ap (λ t. done (header_judged z t)) (sym c.in_ok-header.ensures)))
