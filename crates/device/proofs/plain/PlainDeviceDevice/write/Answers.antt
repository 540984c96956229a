use Rattle.std.proofs.Common.{◌≡◌, length, ap, ◌∙◌, arith}
use Rattle.std.proofs.lemmas.List.{with_items_is}
use Rattle.device.specs.Plain.{contents, with_sector}
use Rattle.device.specs.Ways.{calmly_called, tested, on_by}
use Rattle.device.specs.Sectors.{plain_writes}
use Rattle.device.proofs.plain.PlainDeviceDevice.write.Goals as goal

pub returns-clause-calmly : goal.returns-clause-calmly
returns-clause-calmly c =
    let self = c.args.self.now in
    let here = tested (length c.args.bytes.now) c.args.sector c.sectors.result c.in_ok-check_sector.ensures in
    let made : c.set_sector.new.all ≡ with_sector (contents self) c.args.sector c.args.bytes.now = c.set_sector.ensures ∙ ap (λ l. with_sector l c.args.sector c.args.bytes.now) c.deref_mut.ensures.value in
    let long : length c.set_sector.new.all ≡ self.bytes.len = c.set_sector.auto.all ∙ c.deref_mut.ensures.len in
    plain_writes (contents self) (on_by _ _ c.in_ok-powered.ensures) here.0 (omega arith) (with_items_is self.bytes _ long ∙ made)

pub returns-clause-call : goal.returns-clause-call
returns-clause-call c = calmly_called (returns-clause-calmly c)
