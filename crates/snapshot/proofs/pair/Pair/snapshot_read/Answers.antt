use Rattle.std.proofs.Common.{length, Some, None, ap, refl}
use Rattle.device.proofs.Steps.{called, ends}
use Rattle.exceptions.specs.Listed.{listed}
use Rattle.history.specs.History.{contents, replied}
use Rattle.snapshot.specs.Pairs.{memory, disks}
use Rattle.snapshot.proofs.Begun.{viewed, looked, read_as, copied, origin_passed, store_passed}
use Rattle.snapshot.proofs.pair.Pair.snapshot_read.Goals as goal

pub returns-in_ok-read-in-None-clause-call : goal.returns-in_ok-read-in-None-clause-call
returns-in_ok-read-in-None-clause-call g c =
    let self = c.args.self.now in
    let there = looked (listed self.store.table) c.args.sector c.lookup.ensures c.from.ensures c.sectors.ensures c.size.ensures c.in-None.is in
    record {
      offered = tt;
      ran = viewed (disks g.O.Device.disk g.C.Device.disk self) self.held self.store.size (listed self.store.table) c.args.sector (length c.args.buffer.now) None c.in_ok-test_snapshot_read.ensures there
          (λ long. ends (called (read_as long c.in_ok-read-in-None.ensures.call))) refl refl;
    }

pub returns-in_err-read-in-None-clause-call : goal.returns-in_err-read-in-None-clause-call
returns-in_err-read-in-None-clause-call g c =
    let self = c.args.self.now in
    let there = looked (listed self.store.table) c.args.sector c.lookup.ensures c.from.ensures c.sectors.ensures c.size.ensures c.in-None.is in
    let refusal = origin_passed c.from_residual-in_err-read-in-None.result c.read.new.buffer _ c.from_residual-in_err-read-in-None.ensures.1 in
    record {
      offered = tt;
      ran = viewed (disks g.O.Device.disk g.C.Device.disk self) self.held self.store.size (listed self.store.table) c.args.sector (length c.args.buffer.now) None c.in_ok-test_snapshot_read.ensures there
          (λ long. ends (called (read_as long c.in_err-read-in-None.ensures.call))) (ap (replied contents) refusal) refl;
    }

pub returns-in_err-copy_read-in-Some-clause-call :
    goal.returns-in_err-copy_read-in-Some-clause-call
returns-in_err-copy_read-in-Some-clause-call g c =
    let self = c.args.self.now in
    let there = looked (listed self.store.table) c.args.sector c.lookup.ensures c.from.ensures c.sectors.ensures c.size.ensures c.in-Some.is in
    let refusal = store_passed c.from_residual-in_err-copy_read-in-Some.result c.copy_read.new.buffer _ c.from_residual-in_err-copy_read-in-Some.ensures.1 in
    record {
      offered = tt;
      ran = viewed (disks g.O.Device.disk g.C.Device.disk self) self.held self.store.size (listed self.store.table) c.args.sector (length c.args.buffer.now) (Some c.in-Some.copy) c.in_ok-test_snapshot_read.ensures there
          (λ long. copied (disks g.O.Device.disk g.C.Device.disk self) self.store.size c.in-Some.copy c.args.sector long c.in_err-copy_read-in-Some.ensures.call) (ap (replied contents) refusal) (ap (λ x. memory self.held x.size (listed x.table)) c.in_err-copy_read-in-Some.ensures.rest);
    }
