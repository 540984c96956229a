use Rattle.std.proofs.Common.{length, refl, ap, ◌∙◌}
use Rattle.device.specs.Disk.{good}
use Rattle.device.proofs.Steps.{◌⨾◌, ends_as}
use Rattle.exceptions.specs.Listed.{listed}
use Rattle.history.specs.History.{replied, nothing}
use Rattle.history.specs.Steps.{plain}
use Rattle.snapshot.specs.Pairs.{disks, memory, remembered, seen}
use Rattle.snapshot.proofs.Begun.{served, store_passed}
use Rattle.snapshot.proofs.Placed.{answered_as, placed, put_there}
use Rattle.snapshot.proofs.Written.{zeroed_with}
use Rattle.snapshot.proofs.pair.Pair.snapshot_write.Goals as goal

pub returns-in_err-test_view-clause-work : goal.returns-in_err-test_view-clause-work
returns-in_err-test_view-clause-work g c = zeroed_with c.args.bytes.now c.args.work.now c.drop-guard.ensures refl c.if-bytes-ne-SECTOR.false c.if-work-ne-WORK.false

pub returns-in_err-place-clause-work : goal.returns-in_err-place-clause-work
returns-in_err-place-clause-work g c = zeroed_with c.args.bytes.now c.args.work.now c.drop-guard-in_err-place.ensures c.copied.auto.work c.if-bytes-ne-SECTOR.false c.if-work-ne-WORK.false

pub returns-in_err-copy_write-clause-work : goal.returns-in_err-copy_write-clause-work
returns-in_err-copy_write-clause-work g c = zeroed_with c.args.bytes.now c.args.work.now c.drop-guard-in_err-copy_write.ensures c.copied.auto.work c.if-bytes-ne-SECTOR.false c.if-work-ne-WORK.false

pub returns-clause-work : goal.returns-clause-work
returns-clause-work g c = zeroed_with c.args.bytes.now c.args.work.now c.drop-guard-2.ensures c.copied.auto.work c.if-bytes-ne-SECTOR.false c.if-work-ne-WORK.false

pub returns-in_err-place-clause-call : goal.returns-in_err-place-clause-call
returns-in_err-place-clause-call g c =
    let self = c.args.self.now in
    let before = c.in_err-place.ensures in
    let refusal = answered_as c.from_residual-in_err-place.result _ c.from_residual-in_err-place.ensures.1 in
    record {
      offered = tt;
      ran = ends_as (λ i. record { answer = replied (λ _. nothing) (refusal i); memory = remembered c.copied.new.self; mode = plain })
          (placed (disks g.O.Device.disk g.C.Device.disk self) (remembered self) c.args.sector c.args.bytes.now (length c.args.work.now) c.if-bytes-ne-SECTOR.false c.if-work-ne-WORK.false c.in_ok-test_view.ensures before.call);
    }

pub returns-in_err-copy_write-clause-call : goal.returns-in_err-copy_write-clause-call
returns-in_err-copy_write-clause-call g c =
    let self = c.args.self.now in
    let d = disks g.O.Device.disk g.C.Device.disk self in
    let mid = c.copied.new.self in
    let before = c.in_ok-place.ensures in
    let is_open = before.held ∙ served (seen g.O.Device.disk g.C.Device.disk self) self.held self.store.size (listed self.store.table) c.args.sector c.in_ok-test_view.ensures in
    let refusal = store_passed c.from_residual-in_err-copy_write.result tt _ c.from_residual-in_err-copy_write.ensures.1 in
    let kept = ap (λ x. memory mid.held x.size (listed x.table)) c.in_err-copy_write.ensures.rest ∙ ap (λ h. memory h mid.store.size (listed mid.store.table)) is_open in
    record {
      offered = tt;
      ran = ends_as (λ i. record { answer = replied (λ _. nothing) (refusal i); memory = kept i; mode = plain })
          (placed d (remembered self) c.args.sector c.args.bytes.now (length c.args.work.now) c.if-bytes-ne-SECTOR.false c.if-work-ne-WORK.false c.in_ok-test_view.ensures before.call
          ⨾ put_there d mid.store.size (listed mid.store.table) c.args.sector c.in_ok-place.place c.args.bytes.now is_open before.count c.in_err-copy_write.ensures.call);
    }

pub returns-clause-call : goal.returns-clause-call
returns-clause-call g c =
    let self = c.args.self.now in
    let d = disks g.O.Device.disk g.C.Device.disk self in
    let mid = c.copied.new.self in
    let before = c.in_ok-place.ensures in
    let is_open = before.held ∙ served (seen g.O.Device.disk g.C.Device.disk self) self.held self.store.size (listed self.store.table) c.args.sector c.in_ok-test_view.ensures in
    let kept = ap (λ x. memory mid.held x.size (listed x.table)) c.in_ok-copy_write.ensures.rest ∙ ap (λ h. memory h mid.store.size (listed mid.store.table)) is_open in
    record {
      offered = tt;
      ran = ends_as (λ i. record { answer = good nothing; memory = kept i; mode = plain })
          (placed d (remembered self) c.args.sector c.args.bytes.now (length c.args.work.now) c.if-bytes-ne-SECTOR.false c.if-work-ne-WORK.false c.in_ok-test_view.ensures before.call
          ⨾ put_there d mid.store.size (listed mid.store.table) c.args.sector c.in_ok-place.place c.args.bytes.now is_open before.count c.in_ok-copy_write.ensures.call);
    }
