use Rattle.std.proofs.Common.{◌≡◌, ◌*◌, length, refl, arith}
use Rattle.device.proofs.Steps.{same, ◌⨾◌, ran, ends, ends_as}
use Rattle.layout.specs.Chunks.{sectors}
use Rattle.store.specs.Steps.{in_chunks}
use Rattle.store.proofs.Exits.{passed, passed_up}
use Rattle.store.proofs.Calls.{read_on, read_off}
use Rattle.store.proofs.store.Store.chunk_read.Goals as goal

pub returns-in_err-first : goal.returns-in_err-first
returns-in_err-first g c =
    let self = c.args.self.now in
    let buffer = c.args.buffer.now in
    let s = in_chunks (g.C.Device.disk self.cow) self.size in
    let long : length buffer ≡ 512 * sectors self.size = omega (arith, c.sectors.ensures) in
    let refusal = passed c.from_residual.result tt _ c.from_residual.ensures.1 in
    record { call = ends_as (λ j. (refusal j, buffer)) (same (read_off s c.args.chunk c.in_err-first.ensures.start buffer long)); rest = refl }

pub returns-in_err-read_sectors : goal.returns-in_err-read_sectors
returns-in_err-read_sectors g c =
    let self = c.args.self.now in
    let buffer = c.args.buffer.now in
    let s = in_chunks (g.C.Device.disk self.cow) self.size in
    let long : length buffer ≡ 512 * sectors self.size = omega (arith, c.sectors.ensures) in
    let plan = read_on s c.args.chunk c.in_ok-first.first c.in_ok-first.ensures.start buffer long in
    let refusal = passed_up c.from_residual-in_err-read_sectors.result tt _ c.from_residual-in_err-read_sectors.ensures.1 in
    record { call = ends_as (λ j. (refusal j, c.read_sectors.new.buffer)) (same plan ⨾ ran _ c.in_err-read_sectors.ensures); rest = refl }

pub returns : goal.returns
returns g c =
    let self = c.args.self.now in
    let buffer = c.args.buffer.now in
    let s = in_chunks (g.C.Device.disk self.cow) self.size in
    let long : length buffer ≡ 512 * sectors self.size = omega (arith, c.sectors.ensures) in
    let plan = read_on s c.args.chunk c.in_ok-first.first c.in_ok-first.ensures.start buffer long in
    record { call = ends (same plan ⨾ ran _ c.in_ok-read_sectors.ensures); rest = refl }
