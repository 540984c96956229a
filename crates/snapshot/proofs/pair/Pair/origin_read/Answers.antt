use Rattle.std.proofs.Common.{length}
use Rattle.device.proofs.Steps.{same, ◌⨾◌, called, ends, ends_as}
use Rattle.history.specs.History.{contents, replied}
use Rattle.history.specs.Steps.{plain}
use Rattle.snapshot.specs.Pairs.{remembered, seen}
use Rattle.snapshot.proofs.Begun.{begun, origin_long, read_as, origin_passed}
use Rattle.snapshot.proofs.pair.Pair.origin_read.Goals as goal

pub returns-in_err-read-clause-call : goal.returns-in_err-read-clause-call
returns-in_err-read-clause-call g c =
    let self = c.args.self.now in
    let m = remembered self in
    let n = length c.args.buffer.now in
    let tests = c.in_ok-test_origin_read.ensures in
    let long = origin_long (seen g.O.Device.disk g.C.Device.disk self) m c.args.sector n tests in
    let refusal = origin_passed c.from_residual-in_err-read.result _ _ c.from_residual-in_err-read.ensures.1 in
    record {
      offered = tt;
      ran = ends_as (λ i. record { answer = replied contents (refusal i); memory = m; mode = plain })
          (same (begun contents m plain _ tests) ⨾ called (read_as long c.in_err-read.ensures.call));
    }

pub returns-clause-call : goal.returns-clause-call
returns-clause-call g c =
    let self = c.args.self.now in
    let n = length c.args.buffer.now in
    let tests = c.in_ok-test_origin_read.ensures in
    let long = origin_long (seen g.O.Device.disk g.C.Device.disk self) (remembered self) c.args.sector n tests in
    record { offered = tt; ran = ends (same (begun contents (remembered self) plain _ tests) ⨾ called (read_as long c.in_ok-read.ensures.call)) }
