use Rattle.std.proofs.Common.{sym, ◌∙◌}
use Rattle.exceptions.specs.Listed.{listed}
use Rattle.device.specs.Disk.{good}
use Rattle.snapshot.specs.Pairs.{disks, memory}
use Rattle.snapshot.proofs.Begun.{looked}
use Rattle.snapshot.proofs.Opened.{ending_as}
use Rattle.snapshot.proofs.Placed.{place_copied, placing_open, gave_as}
use Rattle.snapshot.proofs.pair.Pair.copied.Goals as goal

pub returns-in_err-copy-clause-call : goal.returns-in_err-copy-clause-call
returns-in_err-copy-clause-call g c =
    let self = c.args.self.now in
    let d = disks g.O.Device.disk g.C.Device.disk self in
    let size = self.store.size in
    let table = listed self.store.table in
    let s = c.args.sector in
    let none = looked table s c.lookup.ensures c.from-chunk.ensures c.sectors.ensures c.size.ensures c.in_default.is in
    let e = c.in_err-copy.ensures in
    let refusal = gave_as c.from_residual.result _ c.from_residual.ensures.1 in
    ending_as (λ i. record { answer = refusal i; memory = memory ((e.held ∙ c.in-Open.is) i) (e.size i) (e.table i) })
    (placing_open d size table s c.in-Open.is (place_copied d size table s none c.in-Some-next_place.place (sym c.next_place.ensures ∙ c.in-Some-next_place.is) e.call))

pub returns-clause-call : goal.returns-clause-call
returns-clause-call g c =
    let self = c.args.self.now in
    let d = disks g.O.Device.disk g.C.Device.disk self in
    let size = self.store.size in
    let table = listed self.store.table in
    let s = c.args.sector in
    let none = looked table s c.lookup.ensures c.from-chunk.ensures c.sectors.ensures c.size.ensures c.in_default.is in
    let e = c.in_ok-copy.ensures in
    ending_as (λ i. record { answer = good c.in-Some-next_place.place; memory = memory ((e.held ∙ c.in-Open.is) i) (e.size i) (listed c.copy.new.self.store.table) })
    (placing_open d size table s c.in-Open.is (place_copied d size table s none c.in-Some-next_place.place (sym c.next_place.ensures ∙ c.in-Some-next_place.is) e.call))
