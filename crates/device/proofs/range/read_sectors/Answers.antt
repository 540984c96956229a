use Rattle.std.proofs.Common.{◌≡◌, length, sym, ap, ap₂, ◌∙◌, subst, arith}
use Rattle.device.proofs.Steps.{same, ◌⨾◌, called, ends, ends_as, passed_on}
use Rattle.device.proofs.Loops.{read_fits, next_number, Places, place, first_place, next_place, filling_from, filling_over, filling_turn, part_read, put_back, filled_on, reading_whole}
use Rattle.device.proofs.range.read_sectors.Goals as goal

pub loop-sector-init : goal.loop-sector-init
loop-sector-init g c =
    let start : c.into_iter-sector-iterator.result.a.start ≡ c.args.first = cc in
    let made = ap (λ z. z.b) c.into_iter-sector-iterator.ensures.into_iter_gives ∙ c.zip-sector-items.ensures.second in
    let by = c.step_by.ensures in
    let at = subst (λ it. Places it (length c.args.buffer.now) × (place it ≡ 0)) (sym made) (first_place by.source by.step_minus_one by.first_take c.if-buffer-ne0.false) in
    record {
      numbers = record { unspent = cc; some = omega arith; last = cc };
      places = at.0;
      plan = same (reading_whole _ _ c.if-buffer-ne0.false ∙ ap₂ (λ s p. filling_from s p c.args.buffer.now) (sym start) (sym at.1));
    }

pub overflow_add-at : goal.overflow_add-at
overflow_add-at g c = omega (arith, (next_place c.loop-sector.invariant.places c.in-Some.ensures.steps.1).1)

pub slice_bounds-read-end : goal.slice_bounds-read-end
slice_bounds-read-end g c = omega (arith, (next_place c.loop-sector.invariant.places c.in-Some.ensures.steps.1).1)

pub returns-in_err-read : goal.returns-in_err-read
returns-in_err-read g c =
    let it = c.loop-sector.sector-iterator in
    let next = c.next.new.self in
    let b = c.loop-sector.buffer in
    let all = c.loop-sector.auto.buffer in
    let places = c.loop-sector.invariant.places in
    let h = c.in-Some.ensures.steps in
    let refusal = passed_on c.from_residual.result tt _ c.from_residual.ensures.1 in
    let untouched = put_back it next b all places h c.in_err-read.ensures.untouched in
    ends_as (λ j. record { answer = refusal j; buffer = untouched j }) (c.loop-sector.invariant.plan ⨾ same (filling_turn it next b all places h) ⨾ called (part_read it next b all places h c.in_err-read.ensures.call))

pub loop-sector-preserved : goal.loop-sector-preserved
loop-sector-preserved g c =
    let it = c.loop-sector.sector-iterator in
    let next = c.next.new.self in
    let b = c.loop-sector.buffer in
    let all = c.loop-sector.auto.buffer in
    let places = c.loop-sector.invariant.places in
    let h = c.in-Some.ensures.steps in
    let number = next_number c.loop-sector.invariant.numbers h.0 (read_fits (g.met.D.Device.whole c.loop-sector.device) c.in_ok-read.ensures.call) in
    record {
      numbers = number.0;
      places = (next_place places h.1).2;
      plan = c.loop-sector.invariant.plan ⨾ same (filling_turn it next b all places h) ⨾ called (part_read it next b all places h c.in_ok-read.ensures.call) ⨾ same (filled_on it next b all places h c.read.new.buffer c.read.auto.buffer number.1);
    }

pub returns : goal.returns
returns g c = ends (c.loop-sector.invariant.plan ⨾ same (filling_over c.loop-sector.sector-iterator c.next.new.self c.loop-sector.buffer c.loop-sector.auto.buffer c.loop-sector.invariant.places c.loop-sector.invariant.numbers c.in-None.ensures.steps))
