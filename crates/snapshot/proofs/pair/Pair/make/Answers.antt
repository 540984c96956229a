use Rattle.std.proofs.Common.{ap}
use Rattle.device.specs.Disk.{good}
use Rattle.exceptions.specs.Listed.{listed}
use Rattle.history.specs.Steps.{serving}
use Rattle.snapshot.specs.Pairs.{disks, memory, remembered, seen}
use Rattle.snapshot.proofs.Begun.{origin_passed, store_passed}
use Rattle.snapshot.proofs.Opened.{closes, unflushed, made_both, chosen, left_of_making, ending_as, kept}
use Rattle.snapshot.proofs.pair.Pair.make.Goals as goal

pub returns-in_err-flush-clause-call : goal.returns-in_err-flush-clause-call
returns-in_err-flush-clause-call g c =
    let self = c.args.self.now in
    let refusal = origin_passed c.from_residual-in_err-flush.result tt _ c.from_residual-in_err-flush.ensures.1 in
    ending_as (λ i. record { answer = refusal i; memory = remembered self })
    (unflushed (disks g.O.Device.disk g.C.Device.disk self) (remembered self) c.args.c c.in_ok-size.size c.in_ok-test_closed.ensures (chosen _ _ c.in_ok-size.ensures) c.in_ok-test_shape.ensures c.in_err-flush.ensures)

pub returns-in_err-make-clause-call : goal.returns-in_err-make-clause-call
returns-in_err-make-clause-call g c =
    let self = c.args.self.now in
    let refusal = store_passed c.from_residual-in_err-make.result tt _ c.from_residual-in_err-make.ensures.1 in
    let e = c.in_err-make.ensures in
    ending_as (λ i. record { answer = refusal i; memory = memory self.held (e.size i) (e.table i) })
    (made_both (disks g.O.Device.disk g.C.Device.disk self) (remembered self) c.args.c c.in_ok-size.size c.in_ok-test_closed.ensures (chosen _ _ c.in_ok-size.ensures) c.in_ok-test_shape.ensures c.in_ok-flush.ensures e.call)

pub returns-clause-call : goal.returns-clause-call
returns-clause-call g c =
    let self = c.args.self.now in
    let e = c.in_ok-make.ensures in
    ending_as (λ i. record { answer = good tt; memory = serving (e.size i) (e.table i) })
    (made_both (disks g.O.Device.disk g.C.Device.disk self) (remembered self) c.args.c c.in_ok-size.size c.in_ok-test_closed.ensures (chosen _ _ c.in_ok-size.ensures) c.in_ok-test_shape.ensures c.in_ok-flush.ensures e.call)

pub returns-clause-promise : goal.returns-clause-promise
returns-clause-promise g c =
    let self = c.args.self.now in
    let o = g.O.Device.disk in
    let w = g.C.Device.disk in
    let after = record self { origin = c.flush.new.self; store = c.make.new.self } in
    kept c.args.c (disks o w self) (disks o w after) (remembered self) _ (g.met.O.Device.whole self.origin) (g.met.C.Device.whole self.store.cow)
    (ap (λ h. memory h self.store.size (listed self.store.table)) (closes (seen o w self) self.held self.store.size (listed self.store.table) c.in_ok-test_closed.ensures))
    (returns-clause-call g c)

pub returns-in_err-make-clause-cut : goal.returns-in_err-make-clause-cut
returns-in_err-make-clause-cut g c =
    let d = disks g.O.Device.disk g.C.Device.disk c.args.self.now in
    left_of_making d c.args.c c.in_ok-size.size (chosen _ _ c.in_ok-size.ensures) c.in_ok-test_shape.ensures c.in_err-make.ensures.call

pub returns-clause-cut : goal.returns-clause-cut
returns-clause-cut g c =
    let d = disks g.O.Device.disk g.C.Device.disk c.args.self.now in
    left_of_making d c.args.c c.in_ok-size.size (chosen _ _ c.in_ok-size.ensures) c.in_ok-test_shape.ensures c.in_ok-make.ensures.call
