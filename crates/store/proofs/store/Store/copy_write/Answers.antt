use Rattle.std.proofs.Common.{refl}
use Rattle.device.specs.Disk.{writes}
use Rattle.device.proofs.Steps.{same, ◌⨾◌, called, ends, ends_as}
use Rattle.store.specs.Steps.{in_chunks}
use Rattle.store.proofs.Exits.{passed_up}
use Rattle.store.proofs.Calls.{copy_on}
use Rattle.store.proofs.store.Store.copy_write.Goals as goal

pub returns-in_err-write : goal.returns-in_err-write
returns-in_err-write g c =
    let self = c.args.self.now in
    let s = in_chunks (g.C.Device.disk self.cow) self.size in
    let plan = copy_on s c.args.chunk c.in_ok-first.first c.in_ok-first.ensures.start c.args.sector c.sectors.result (λ at. writes at c.args.bytes.now) c.sectors.ensures in
    record {
      call = ends_as (passed_up c.from_residual-in_err-write.result _ _ c.from_residual-in_err-write.ensures.1) (same plan ⨾ called c.in_err-write.ensures);
      rest = refl;
    }

pub returns : goal.returns
returns g c =
    let self = c.args.self.now in
    let s = in_chunks (g.C.Device.disk self.cow) self.size in
    let plan = copy_on s c.args.chunk c.in_ok-first.first c.in_ok-first.ensures.start c.args.sector c.sectors.result (λ at. writes at c.args.bytes.now) c.sectors.ensures in
    record { call = ends (same plan ⨾ called c.in_ok-write.ensures); rest = refl }
