use Rattle.std.proofs.Common.{false, sym, ◌∙◌}
use Rattle.exceptions.specs.Listed.{listed}
use Rattle.device.specs.Disk.{good}
use Rattle.snapshot.specs.Pairs.{disks, memory}
use Rattle.snapshot.proofs.Begun.{looked}
use Rattle.snapshot.proofs.Opened.{ending_as}
use Rattle.snapshot.proofs.Written.{absent, wrote_as, while_open, way_copied, way_spoilt}
use Rattle.snapshot.proofs.pair.Pair.make_way.Goals as goal

pub returns-in_err-spoil : goal.returns-in_err-spoil
returns-in_err-spoil g c =
    let self = c.args.self.now in
    let d = disks g.O.Device.disk g.C.Device.disk self in
    let size = self.store.size in
    let table = listed self.store.table in
    let s = c.args.sector in
    let none = looked table s c.lookup.ensures c.from.ensures c.sectors.ensures c.size.ensures (absent c.lookup.result (sym c.is_some.ensures ∙ c.if-is_some.false)) in
    let rest = c.in_err-spoil.ensures.rest in
    let refusal = wrote_as c.from_residual.result _ c.from_residual.ensures.1 in
    ending_as (λ i. record { answer = refusal i; memory = memory (c.in-Open.is i) (rest i).size (listed (rest i).table) })
    (while_open d size table s c.in-Open.is (way_spoilt d size table s none (sym c.next_place.ensures ∙ c.in_default.is) c.in_err-spoil.ensures.call))

pub returns-in_err-copy : goal.returns-in_err-copy
returns-in_err-copy g c =
    let self = c.args.self.now in
    let d = disks g.O.Device.disk g.C.Device.disk self in
    let size = self.store.size in
    let table = listed self.store.table in
    let s = c.args.sector in
    let none = looked table s c.lookup.ensures c.from.ensures c.sectors.ensures c.size.ensures (absent c.lookup.result (sym c.is_some.ensures ∙ c.if-is_some.false)) in
    let e = c.in_err-copy.ensures in
    let refusal = wrote_as c.from_residual-in_err-copy.result _ c.from_residual-in_err-copy.ensures.1 in
    ending_as (λ i. record { answer = refusal i; memory = memory ((e.held ∙ c.in-Open.is) i) (e.size i) (e.table i) })
    (while_open d size table s c.in-Open.is (way_copied d size table s none c.in-Some.place (sym c.next_place.ensures ∙ c.in-Some.is) e.call))

pub returns : goal.returns
returns g c =
    let self = c.args.self.now in
    let d = disks g.O.Device.disk g.C.Device.disk self in
    let size = self.store.size in
    let table = listed self.store.table in
    let s = c.args.sector in
    let none = looked table s c.lookup.ensures c.from.ensures c.sectors.ensures c.size.ensures (absent c.lookup.result (sym c.is_some.ensures ∙ c.if-is_some.false)) in
    let e = c.in_ok-copy.ensures in
    ending_as (λ i. record { answer = good false; memory = memory ((e.held ∙ c.in-Open.is) i) (e.size i) (listed c.copy.new.self.store.table) })
    (while_open d size table s c.in-Open.is (way_copied d size table s none c.in-Some.place (sym c.next_place.ensures ∙ c.in-Some.is) e.call))
