use Rattle.std.proofs.Common.{◌≡◌, ◌*◌, length, refl, arith}
use Rattle.device.proofs.Steps.{same, ◌⨾◌, ran, ends, ends_as}
use Rattle.layout.specs.Chunks.{sectors}
use Rattle.store.specs.Steps.{in_chunks}
use Rattle.store.proofs.Exits.{passed, passed_up}
use Rattle.store.proofs.Calls.{write_on, write_off}
use Rattle.store.proofs.store.Store.chunk_write.Goals as goal

pub returns-in_err-first : goal.returns-in_err-first
returns-in_err-first g c =
    let self = c.args.self.now in
    let bytes = c.args.bytes.now in
    let s = in_chunks (g.C.Device.disk self.cow) self.size in
    let long : length bytes ≡ 512 * sectors self.size = omega (arith, c.sectors.ensures) in
    record { call = ends_as (passed c.from_residual.result tt _ c.from_residual.ensures.1) (same (write_off s c.args.chunk c.in_err-first.ensures.start bytes long)); rest = refl }

pub returns-in_err-write_sectors : goal.returns-in_err-write_sectors
returns-in_err-write_sectors g c =
    let self = c.args.self.now in
    let bytes = c.args.bytes.now in
    let s = in_chunks (g.C.Device.disk self.cow) self.size in
    let long : length bytes ≡ 512 * sectors self.size = omega (arith, c.sectors.ensures) in
    let plan = write_on s c.args.chunk c.in_ok-first.first c.in_ok-first.ensures.start bytes long in
    record {
      call = ends_as (passed_up c.from_residual-in_err-write_sectors.result tt _ c.from_residual-in_err-write_sectors.ensures.1) (same plan ⨾ ran _ c.in_err-write_sectors.ensures);
      rest = refl;
    }

pub returns : goal.returns
returns g c =
    let self = c.args.self.now in
    let bytes = c.args.bytes.now in
    let s = in_chunks (g.C.Device.disk self.cow) self.size in
    let long : length bytes ≡ 512 * sectors self.size = omega (arith, c.sectors.ensures) in
    let plan = write_on s c.args.chunk c.in_ok-first.first c.in_ok-first.ensures.start bytes long in
    record { call = ends (same plan ⨾ ran _ c.in_ok-write_sectors.ensures); rest = refl }
