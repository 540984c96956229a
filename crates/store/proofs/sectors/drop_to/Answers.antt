use Rattle.std.proofs.Common.{◌+◌, ◌-◌, ◌/◌, take, vec_items, refl, ap}
use Rattle.device.specs.Plans.{then}
use Rattle.device.proofs.Steps.{same, ◌⨾◌, called, ends, ends_as, passed_on}
use Rattle.store.specs.Steps.{finished, flushing}
use Rattle.store.proofs.Writes.{written, dropping_from, unwinding_more, unwinding_none}
use Rattle.store.proofs.sectors.drop_to.Goals as goal

pub loop-j-init : goal.loop-j-init
loop-j-init g c = same (dropping_from _ (vec_items c.args.table.now.items) _ c.args.left _ _ c.requires (ap (take c.args.left) c.as_slice.ensures) refl (ap (λ n. (n - 1) / 32 + 1) c.len.ensures))

pub returns-in_err-write : goal.returns-in_err-write
returns-in_err-write g c =
    ends_as (passed_on c.from_residual.result tt _ c.from_residual.ensures.1)
    (c.loop-j.invariant ⨾ same (ap (λ p. then p (λ _. flushing finished)) (unwinding_more _ _ _ _ c.loop-j-test.true))
    ⨾ called (written c.area_place.result c.picture.result c.area_place.ensures c.picture.ensures c.in_err-write.ensures))

pub loop-j-preserved : goal.loop-j-preserved
loop-j-preserved g c =
    c.loop-j.invariant ⨾ same (ap (λ p. then p (λ _. flushing finished)) (unwinding_more _ _ _ _ c.loop-j-test.true))
    ⨾ called (written c.area_place.result c.picture.result c.area_place.ensures c.picture.ensures c.in_ok-write.ensures)

pub returns-in_err-flush : goal.returns-in_err-flush
returns-in_err-flush g c =
    ends_as (passed_on c.from_residual-in_err-flush.result tt _ c.from_residual-in_err-flush.ensures.1)
    (c.loop-j.invariant ⨾ same (ap (λ p. then p (λ _. flushing finished)) (unwinding_none _ _ _ _ c.loop-j-test.false)) ⨾ called c.in_err-flush.ensures)

pub returns : goal.returns
returns g c =
    ends (c.loop-j.invariant ⨾ same (ap (λ p. then p (λ _. flushing finished)) (unwinding_none _ _ _ _ c.loop-j-test.false)) ⨾ called c.in_ok-flush.ensures)
