use Rattle.std.proofs.Common.{length, refl}
use Rattle.device.proofs.Steps.{◌⨾◌, called, ends, ends_as}
use Rattle.history.specs.History.{replied, became_invalid}
use Rattle.history.specs.Steps.{plain}
use Rattle.snapshot.specs.Pairs.{disks, remembered}
use Rattle.snapshot.proofs.Written.{wrote_as, way_made, zeroed_with}
use Rattle.snapshot.proofs.pair.Pair.origin_write.Goals as goal

pub returns-in_err-test_place-clause-work : goal.returns-in_err-test_place-clause-work
returns-in_err-test_place-clause-work g c = zeroed_with c.args.bytes.now c.args.work.now c.drop-work.ensures refl c.if-bytes-ne-SECTOR.false c.if-work-ne-WORK.false

pub returns-in_err-answer-clause-work : goal.returns-in_err-answer-clause-work
returns-in_err-answer-clause-work g c = zeroed_with c.args.bytes.now c.args.work.now c.drop-work-in_err-answer.ensures c.make_way.auto.work c.if-bytes-ne-SECTOR.false c.if-work-ne-WORK.false

pub returns-in_err-write-clause-work : goal.returns-in_err-write-clause-work
returns-in_err-write-clause-work g c = zeroed_with c.args.bytes.now c.args.work.now c.drop-work-in_err-write.ensures c.make_way.auto.work c.if-bytes-ne-SECTOR.false c.if-work-ne-WORK.false

pub returns-clause-work : goal.returns-clause-work
returns-clause-work g c = zeroed_with c.args.bytes.now c.args.work.now c.drop-work-2.ensures c.make_way.auto.work c.if-bytes-ne-SECTOR.false c.if-work-ne-WORK.false

pub returns-in_err-answer-clause-call : goal.returns-in_err-answer-clause-call
returns-in_err-answer-clause-call g c =
    let self = c.args.self.now in
    let refusal = wrote_as c.from_residual-in_err-answer.result _ c.from_residual-in_err-answer.ensures.1 in
    record {
      offered = tt;
      ran = ends_as (λ i. record { answer = replied became_invalid (refusal i); memory = remembered c.make_way.new.self; mode = plain })
          (way_made (disks g.O.Device.disk g.C.Device.disk self) (remembered self) c.args.sector c.args.bytes.now (length c.args.work.now) c.if-bytes-ne-SECTOR.false c.if-work-ne-WORK.false c.in_ok-test_place.ensures c.in_err-answer.ensures);
    }

pub returns-in_err-write-clause-call : goal.returns-in_err-write-clause-call
returns-in_err-write-clause-call g c =
    let self = c.args.self.now in
    let refusal = wrote_as c.from_residual-in_err-write.result _ c.from_residual-in_err-write.ensures.1 in
    record {
      offered = tt;
      ran = ends_as (λ i. record { answer = replied became_invalid (refusal i); memory = remembered c.make_way.new.self; mode = plain })
          (way_made (disks g.O.Device.disk g.C.Device.disk self) (remembered self) c.args.sector c.args.bytes.now (length c.args.work.now) c.if-bytes-ne-SECTOR.false c.if-work-ne-WORK.false c.in_ok-test_place.ensures c.in_ok-answer.ensures ⨾ called c.in_err-write.ensures);
    }

pub returns-clause-call : goal.returns-clause-call
returns-clause-call g c =
    let self = c.args.self.now in
    record {
      offered = tt;
      ran = ends
          (way_made (disks g.O.Device.disk g.C.Device.disk self) (remembered self) c.args.sector c.args.bytes.now (length c.args.work.now) c.if-bytes-ne-SECTOR.false c.if-work-ne-WORK.false c.in_ok-test_place.ensures c.in_ok-answer.ensures ⨾ called c.in_ok-write.ensures);
    }
