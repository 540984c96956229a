use Rattle.std.proofs.Common.{length, refl}
use Rattle.device.specs.Disk.{reads}
use Rattle.device.proofs.Steps.{same, ◌⨾◌, called, ends, ends_as, untouched_on}
use Rattle.store.specs.Steps.{in_chunks}
use Rattle.store.proofs.Exits.{passed_up}
use Rattle.store.proofs.Calls.{copy_on}
use Rattle.store.proofs.store.Store.copy_read.Goals as goal

pub returns-in_err-read : goal.returns-in_err-read
returns-in_err-read g c =
    let self = c.args.self.now in
    let s = in_chunks (g.C.Device.disk self.cow) self.size in
    let plan = copy_on s c.args.chunk c.in_ok-first.first c.in_ok-first.ensures.start c.args.sector c.sectors.result (reads (length c.args.buffer.now)) c.sectors.ensures in
    record {
      call = ends_as (passed_up c.from_residual-in_err-read.result _ _ c.from_residual-in_err-read.ensures.1) (same plan ⨾ called c.in_err-read.ensures.call);
      rest = refl;
      untouched = untouched_on c.from_residual-in_err-read.result c.in_err-read.ensures.untouched;
    }

pub returns : goal.returns
returns g c =
    let self = c.args.self.now in
    let s = in_chunks (g.C.Device.disk self.cow) self.size in
    let plan = copy_on s c.args.chunk c.in_ok-first.first c.in_ok-first.ensures.start c.args.sector c.sectors.result (reads (length c.args.buffer.now)) c.sectors.ensures in
    record { call = ends (same plan ⨾ called c.in_ok-read.ensures.call); rest = refl; untouched = tt }
