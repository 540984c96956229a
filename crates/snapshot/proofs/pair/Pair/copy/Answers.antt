use Rattle.std.proofs.Common.{ap, ◌∙◌}
use Rattle.device.proofs.Steps.{◌⨾◌, ends, ends_as}
use Rattle.device.proofs.Uses.{count_stays}
use Rattle.exceptions.specs.Listed.{listed}
use Rattle.layout.specs.Chunks.{sectors}
use Rattle.snapshot.specs.Pairs.{disks}
use Rattle.snapshot.proofs.Begun.{origin_passed, store_passed}
use Rattle.snapshot.proofs.Written.{copy_read_by, copy_put_by, copy_enter_by, slice_long}
use Rattle.snapshot.proofs.pair.Pair.copy.Goals as goal

pub returns-in_err-read_sectors-clause-call : goal.returns-in_err-read_sectors-clause-call
returns-in_err-read_sectors-clause-call g c =
    let self = c.args.self.now in
    let d = disks g.O.Device.disk g.C.Device.disk self in
    let table = listed self.store.table in
    let width = c.sectors-n.ensures ∙ ap sectors c.size.ensures in
    let long = slice_long self.store.size c.args.work.now c.requires.long width in
    ends_as (origin_passed c.from_residual.result table _ c.from_residual.ensures.1)
    (copy_read_by d self.store.size table c.args.sector c.args.place c.sectors-n.result width _ long c.in_err-read_sectors.ensures)

pub returns-in_err-enter-clause-call : goal.returns-in_err-enter-clause-call
returns-in_err-enter-clause-call g c =
    let self = c.args.self.now in
    let d = disks g.O.Device.disk g.C.Device.disk self in
    let size = self.store.size in
    let table = listed self.store.table in
    let width = c.sectors-n.ensures ∙ ap sectors c.size.ensures in
    let long = slice_long size c.args.work.now c.requires.long width in
    let rest = c.in_ok-chunk_write.ensures.rest in
    ends_as (store_passed c.from_residual-in_err-enter.result (listed c.enter.new.self.table) _ c.from_residual-in_err-enter.ensures.1)
    (copy_read_by d size table c.args.sector c.args.place c.sectors-n.result width _ long c.in_ok-read_sectors.ensures
    ⨾ copy_put_by d size table c.args.sector c.args.place c.sectors-n.result width c.read_sectors.new.buffer (c.read_sectors.auto.buffer ∙ long) c.in_ok-chunk_write.ensures.call
    ⨾ copy_enter_by d size table c.args.sector c.args.place c.sectors-n.result width c.sectors.ensures (count_stays c.in_ok-read_sectors.ensures) (count_stays c.in_ok-chunk_write.ensures.call) (ap (λ x. x.size) rest) (ap (λ x. listed x.table) rest) c.from.ensures c.in_err-enter.ensures.call)

pub returns-in_err-chunk_write-clause-call : goal.returns-in_err-chunk_write-clause-call
returns-in_err-chunk_write-clause-call g c =
    let self = c.args.self.now in
    let d = disks g.O.Device.disk g.C.Device.disk self in
    let size = self.store.size in
    let table = listed self.store.table in
    let width = c.sectors-n.ensures ∙ ap sectors c.size.ensures in
    let long = slice_long size c.args.work.now c.requires.long width in
    ends_as (store_passed c.from_residual-in_err-chunk_write.result (listed c.chunk_write.new.self.table) _ c.from_residual-in_err-chunk_write.ensures.1)
    (copy_read_by d size table c.args.sector c.args.place c.sectors-n.result width _ long c.in_ok-read_sectors.ensures
    ⨾ copy_put_by d size table c.args.sector c.args.place c.sectors-n.result width c.read_sectors.new.buffer (c.read_sectors.auto.buffer ∙ long) c.in_err-chunk_write.ensures.call)

pub returns-clause-call : goal.returns-clause-call
returns-clause-call g c =
    let self = c.args.self.now in
    let d = disks g.O.Device.disk g.C.Device.disk self in
    let size = self.store.size in
    let table = listed self.store.table in
    let width = c.sectors-n.ensures ∙ ap sectors c.size.ensures in
    let long = slice_long size c.args.work.now c.requires.long width in
    let rest = c.in_ok-chunk_write.ensures.rest in
    ends
    (copy_read_by d size table c.args.sector c.args.place c.sectors-n.result width _ long c.in_ok-read_sectors.ensures
    ⨾ copy_put_by d size table c.args.sector c.args.place c.sectors-n.result width c.read_sectors.new.buffer (c.read_sectors.auto.buffer ∙ long) c.in_ok-chunk_write.ensures.call
    ⨾ copy_enter_by d size table c.args.sector c.args.place c.sectors-n.result width c.sectors.ensures (count_stays c.in_ok-read_sectors.ensures) (count_stays c.in_ok-chunk_write.ensures.call) (ap (λ x. x.size) rest) (ap (λ x. listed x.table) rest) c.from.ensures c.in_ok-enter.ensures.call)

pub returns-in_err-chunk_write-clause-count : goal.returns-in_err-chunk_write-clause-count
returns-in_err-chunk_write-clause-count g c = count_stays c.in_err-chunk_write.ensures.call

pub returns-in_err-enter-clause-count : goal.returns-in_err-enter-clause-count
returns-in_err-enter-clause-count g c = count_stays c.in_err-enter.ensures.call ∙ count_stays c.in_ok-chunk_write.ensures.call

pub returns-clause-count : goal.returns-clause-count
returns-clause-count g c = count_stays c.in_ok-enter.ensures.call ∙ count_stays c.in_ok-chunk_write.ensures.call
