use Rattle.std.proofs.Common.{◌≡◌, ◌+◌, ◌-◌, ◌*◌, ◌/◌, true, false, [], length, take, drop, sym, ap, ◌∙◌}
use borrow.Rule.Slice.PartMut.{put_mid}
use Rattle.device.proofs.Steps.{same, ◌⨾◌, led, ends}
use Rattle.layout.specs.Chunks.{sectors, area_start}
use Rattle.store.specs.Image.{all_zero, cleaned}
use Rattle.store.specs.Scanning.{ending}
use Rattle.store.proofs.Writes.{spread, rest_all, tail_long, tail_is, cleared, cleaning_none, cleaning_some}
use Rattle.store.proofs.clean.clean.Goals as goal

pub returns-then-is_zero : goal.returns-then-is_zero
returns-then-is_zero g c =
    let bytes = c.args.bytes.now in
    let clean : all_zero (drop (16 * c.args.end.entry) bytes) ≡ true = ap all_zero (sym (rest_all (16 * c.args.end.entry) bytes)) ∙ sym c.is_zero.ensures ∙ c.if-is_zero.true in
    ends (same (cleaning_none _ (ending [] c.args.end.area c.args.end.entry bytes) clean))

pub returns : goal.returns
returns g c =
    let bytes = c.args.bytes.now in
    let n = sectors c.args.end.size in
    let place = c.args.end.entry in
    let q = place / 32 in
    let now = put_mid (16 * place) (length bytes - 16 * place) bytes c.fill.new.self in
    let dirty : all_zero (drop (16 * place) bytes) ≡ false = ap all_zero (sym (rest_all (16 * place) bytes)) ∙ sym c.is_zero.ensures ∙ c.if-is_zero.false in
    let at : c.area_sector.result + q ≡ area_start n c.args.end.area + q = ap (λ a. a + q) c.area_sector.ensures.place in
    let spreads = spread (c.area_sector.result + q) (take (length now - 512 * q) (drop (512 * q) now)) _ (drop (512 * q) (cleaned bytes place)) (n - q) at (tail_is n bytes place c.requires c.args.end.inside (cleared bytes c.fill.new.self place (c.fill.ensures.after (λ y e. e)))) (tail_long n bytes place c.requires c.args.end.inside) c.write_lasting.ensures in
    ends (same (cleaning_some n (ending [] c.args.end.area place bytes) dirty) ⨾ led spreads)
