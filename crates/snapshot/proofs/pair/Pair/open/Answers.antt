use Rattle.std.proofs.Common.{length, refl}
use Rattle.exceptions.specs.Listed.{listed}
use Rattle.history.specs.History.{replied, nothing}
use Rattle.history.specs.Steps.{plain}
use Rattle.snapshot.specs.Pairs.{disks, remembered, seen}
use Rattle.snapshot.proofs.Begun.{store_passed}
use Rattle.snapshot.proofs.Opened.{closes, forgets, reopened, ending_as, zeroed}
use Rattle.snapshot.proofs.pair.Pair.open.Goals as goal

pub returns-in_err-test_closed-clause-work : goal.returns-in_err-test_closed-clause-work
returns-in_err-test_closed-clause-work g c = zeroed c.args.work.now c.drop-work.ensures refl c.if-work-ne-WORK.false

pub returns-in_err-open-clause-work : goal.returns-in_err-open-clause-work
returns-in_err-open-clause-work g c = zeroed c.args.work.now c.drop-work-in_err-open.ensures c.open.auto.work c.if-work-ne-WORK.false

pub returns-clause-work : goal.returns-clause-work
returns-clause-work g c = zeroed c.args.work.now c.drop-work-2.ensures c.open.auto.work c.if-work-ne-WORK.false

pub returns-in_err-open-clause-call : goal.returns-in_err-open-clause-call
returns-in_err-open-clause-call g c =
    let self = c.args.self.now in
    let o = g.O.Device.disk in
    let w = g.C.Device.disk in
    let refusal = store_passed c.from_residual-in_err-open.result tt _ c.from_residual-in_err-open.ensures.1 in
    let closed = closes (seen o w self) self.held self.store.size (listed self.store.table) c.in_ok-test_closed.ensures in
    let nothing_held = forgets c.open.new.self.size self.store.size (listed c.open.new.self.table) (listed self.store.table) closed in
    record {
      offered = tt;
      ran = ending_as (λ i. record { answer = replied (λ _. nothing) (refusal i); memory = nothing_held i; mode = plain })
          (reopened (disks o w self) (remembered self) (length c.args.work.now) c.if-work-ne-WORK.false c.sectors.ensures c.in_ok-test_closed.ensures c.in_err-open.ensures.call);
    }

pub returns-clause-call : goal.returns-clause-call
returns-clause-call g c =
    let self = c.args.self.now in
    record {
      offered = tt;
      ran = reopened (disks g.O.Device.disk g.C.Device.disk self) (remembered self) (length c.args.work.now) c.if-work-ne-WORK.false c.sectors.ensures c.in_ok-test_closed.ensures c.in_ok-open.ensures.call;
    }
