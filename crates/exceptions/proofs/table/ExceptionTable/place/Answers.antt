use Rattle.std.proofs.Common.{◌<◌, ◌∙◌, sym, rules}
use Rattle.layout.specs.Chunks.{sectors}
use Rattle.exceptions.proofs.Lists.{next_place_is, data_next, area_next}
use Rattle.exceptions.proofs.table.ExceptionTable.place.Goals as goal

pub returns-then-is_data-clause-place : goal.returns-then-is_data-clause-place
returns-then-is_data-clause-place c = data_next _ _ (sym c.is_data.ensures ∙ c.if-is_data.true) ∙ next_place_is _ _ _ c.in-Some.ensures.largest

pub returns-else-is_data-clause-place : goal.returns-else-is_data-clause-place
returns-else-is_data-clause-place c =
    let some : 0 < sectors c.args.size = search rules in
    area_next _ _ some (sym c.is_data.ensures ∙ c.if-is_data.false) ∙ next_place_is _ _ _ c.in-Some.ensures.largest
