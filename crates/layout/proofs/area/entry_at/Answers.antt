use Rattle.std.proofs.Common.{rules}
use Rattle.layout.proofs.Areas.{entry_from-chunk}
use Rattle.layout.proofs.area.entry_at.Goals as goal

pub returns-in-Some : goal.returns-in-Some
returns-in-Some c = search (rules, entry_from-chunk)
