use Rattle.std.proofs.Common.{rules, ◌≡◌, ◌-◌, ◌/◌, length, vec_items, sym, ap, ◌∙◌}
use Rattle.device.proofs.Steps.{same, ◌⨾◌, called, ran, led, ends, ends_as, passed_on}
use Rattle.layout.specs.Chunks.{sectors}
use Rattle.layout.specs.Entries.{pic}
use Rattle.store.specs.Steps.{entering}
use Rattle.store.proofs.Writes.{stored}
use Rattle.store.proofs.enter.enter_last.Goals as goal

pub returns-in_err-prepare : goal.returns-in_err-prepare
returns-in_err-prepare g c =
    let es = vec_items c.args.table.now.items in
    let count = ap (λ n. entering (sectors c.args.size) es (n - 1)) (sym c.len.ensures) in
    ends_as (passed_on c.from_residual.result tt _ c.from_residual.ensures.1) (same count ⨾ ran _ c.in_err-prepare.ensures)

pub returns-in_err-flush : goal.returns-in_err-flush
returns-in_err-flush g c =
    let es = vec_items c.args.table.now.items in
    let count = ap (λ n. entering (sectors c.args.size) es (n - 1)) (sym c.len.ensures) in
    ends_as (passed_on c.from_residual-in_err-flush.result tt _ c.from_residual-in_err-flush.ensures.1)
    (same count ⨾ ran _ c.in_ok-prepare.ensures ⨾ called c.in_err-flush.ensures)

pub returns : goal.returns
returns g c =
    let es = vec_items c.args.table.now.items in
    let n = c.len.result - 1 in
    let count = ap (λ n. entering (sectors c.args.size) es (n - 1)) (sym c.len.ensures) in
    let sector = c.picture-sector.ensures ∙ ap (λ l. pic l (n / 32)) c.as_slice.ensures in
    let long : length c.picture-sector.result ≡ 512 = search rules in
    ends (same count ⨾ ran _ c.in_ok-prepare.ensures ⨾ called c.in_ok-flush.ensures ⨾ led (stored c.area_place.result c.picture-sector.result _ (pic es (n / 32)) c.area_place.ensures sector (sym (ap length sector) ∙ long) c.write_lasting.ensures))
