use Rattle.std.proofs.Common.{◌≡◌, sym, ap, ap₂, ◌∙◌, arith}
use Rattle.device.proofs.Steps.{same, ◌⨾◌, called, ends, ends_as, passed_on}
use Rattle.device.proofs.Loops.{write_fits, next_number, spreading_all, spreading_turn, spreading_over, writing_whole}
use Rattle.device.proofs.range.write_sectors.Goals as goal

pub loop-sector-init : goal.loop-sector-init
loop-sector-init g c =
    let start : c.into_iter-sector-iterator.result.a.start ≡ c.args.first = cc in
    let rest : c.into_iter-sector-iterator.result.b.rest.now ≡ c.args.bytes.now = cc in
    record {
      numbers = record { unspent = cc; some = omega arith; last = cc };
      size = cc;
      plan = same (writing_whole _ _ c.if-bytes-ne0.false ∙ ap₂ spreading_all (sym start) (sym rest));
    }

pub returns-in_err-write : goal.returns-in_err-write
returns-in_err-write g c =
    let turn = spreading_turn c.loop-sector.sector-iterator c.next.new.self c.loop-sector.invariant.size c.in-Some.part c.in-Some.ensures.steps in
    ends_as (passed_on c.from_residual.result tt _ c.from_residual.ensures.1) (c.loop-sector.invariant.plan ⨾ same turn ⨾ called c.in_err-write.ensures)

pub loop-sector-preserved : goal.loop-sector-preserved
loop-sector-preserved g c =
    let h = c.in-Some.ensures.steps in
    let turn = spreading_turn c.loop-sector.sector-iterator c.next.new.self c.loop-sector.invariant.size c.in-Some.part h in
    let next = next_number c.loop-sector.invariant.numbers h.0 (write_fits (g.met.D.Device.whole c.loop-sector.device) c.in_ok-write.ensures) in
    record {
      numbers = next.0;
      size = h.1.0 ∙ c.loop-sector.invariant.size;
      plan = c.loop-sector.invariant.plan ⨾ same turn ⨾ called c.in_ok-write.ensures ⨾ same (ap (λ s. spreading_all s c.next.new.self.b.rest.now) (sym next.1));
    }

pub returns : goal.returns
returns g c = ends (c.loop-sector.invariant.plan ⨾ same (spreading_over c.loop-sector.sector-iterator c.next.new.self c.loop-sector.invariant.size c.loop-sector.invariant.numbers c.in-None.ensures.steps))
