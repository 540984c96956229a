use Rattle.std.proofs.Common.{◌≡◌, ap, ap₂, sym, arith}
use Rattle.device.specs.Plans.{zeroing}
use Rattle.device.proofs.Steps.{same, ◌⨾◌, called, ends, ends_as, passed_on}
use Rattle.device.proofs.Loops.{write_fits, next_number, zeroing_turn, zeroing_over}
use Rattle.device.proofs.range.write_zeros.Goals as goal

pub loop-sector-init : goal.loop-sector-init
loop-sector-init g c =
    let start : c.into_iter-sector-iterator.result.iter.start ≡ c.args.first = cc in
    let count : c.into_iter-sector-iterator.result.n ≡ c.args.n = cc in
    record { numbers = record { unspent = cc; some = omega arith; last = cc }; plan = same (ap₂ zeroing (sym start) (sym count)) }

pub returns-in_err-write : goal.returns-in_err-write
returns-in_err-write g c =
    let turn = zeroing_turn c.loop-sector.sector-iterator c.next.new.self c.in-Some.ensures.steps in
    ends_as (passed_on c.from_residual.result tt _ c.from_residual.ensures.1) (c.loop-sector.invariant.plan ⨾ same turn ⨾ called c.in_err-write.ensures)

pub loop-sector-preserved : goal.loop-sector-preserved
loop-sector-preserved g c =
    let turn = zeroing_turn c.loop-sector.sector-iterator c.next.new.self c.in-Some.ensures.steps in
    let next = next_number c.loop-sector.invariant.numbers c.in-Some.ensures.steps.0 (write_fits (g.met.D.Device.whole c.loop-sector.device) c.in_ok-write.ensures) in
    record { numbers = next.0; plan = c.loop-sector.invariant.plan ⨾ same turn ⨾ called c.in_ok-write.ensures ⨾ same (ap (λ s. zeroing s c.next.new.self.n) (sym next.1)) }

pub returns : goal.returns
returns g c = ends (c.loop-sector.invariant.plan ⨾ same (zeroing_over c.loop-sector.sector-iterator c.next.new.self c.loop-sector.invariant.numbers c.in-None.ensures.steps))
