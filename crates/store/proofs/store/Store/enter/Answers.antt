use Rattle.std.proofs.Common.{◌≡◌, ◌≤◌, false, length, take, is_some, vec_items, sym, refl, ap, ◌∙◌, div-le_self, arith}
use Rattle.std.proofs.lemmas.List.{take_at}
use Rattle.device.specs.Disk.{good, refused}
use Rattle.store.specs.Answers.{numbers}
use Rattle.device.proofs.Steps.{same, ◌⨾◌, ran, ends_as}
use Rattle.layout.specs.Chunks.{sectors}
use Rattle.exceptions.specs.Table.{lookup}
use Rattle.store.specs.Steps.{shaped}
use Rattle.store.proofs.Calls.{roomy, enter_on, entered, pushed}
use Rattle.store.proofs.store.Store.enter.Goals as goal

pub returns : goal.returns
returns g c =
    let self = c.args.self.now in
    let table = vec_items self.table.items in
    let count = (g.C.Device.disk self.cow).count in
    let s = shaped c.args.olds count self.size in
    let p = c.in-Some.new in
    let there = sym c.next_place.ensures ∙ c.in-Some.is in
    let none : is_some (lookup table c.args.old) ≡ false = sym (ap is_some c.lookup.ensures) ∙ sym c.is_some.ensures ∙ c.if-is_some.false in
    let few : length table ≤ 2048 = omega (arith, self.table.few, self.table.items.ok.0) in
    let list = pushed s table c.args.old p count c.push.ensures.list c.push.ensures.answer few (omega arith) (div-le_self count (sectors self.size)) (g.met.C.Device.whole self.cow).few (roomy _ _ table p there) in
    let plan = enter_on s table c.args.old p none (omega arith) there in
    record { call = ends_as (ap good list) (same plan ⨾ ran _ (entered s table c.args.old p list c.in_default-enter_last.ensures)); size = refl; table = tt }

pub returns-in-Err : goal.returns-in-Err
returns-in-Err g c =
    let self = c.args.self.now in
    let table = vec_items self.table.items in
    let count = (g.C.Device.disk self.cow).count in
    let s = shaped c.args.olds count self.size in
    let p = c.in-Some.new in
    let there = sym c.next_place.ensures ∙ c.in-Some.is in
    let none : is_some (lookup table c.args.old) ≡ false = sym (ap is_some c.lookup.ensures) ∙ sym c.is_some.ensures ∙ c.if-is_some.false in
    let few : length table ≤ 2048 = omega (arith, self.table.few, self.table.items.ok.0) in
    let list = pushed s table c.args.old p count c.push.ensures.list c.push.ensures.answer few (omega arith) (div-le_self count (sectors self.size)) (g.met.C.Device.whole self.cow).few (roomy _ _ table p there) in
    let plan = enter_on s table c.args.old p none (omega arith) there in
    record {
      call = ends_as (ap (λ f. refused (numbers f)) c.into.ensures) (same plan ⨾ ran _ (entered s table c.args.old p list c.in-Err.ensures));
      size = refl;
      table = c.truncate.ensures ∙ ap (take c.len-n.result) list ∙ take_at table _ c.len-n.result (sym c.len-n.ensures);
    }
