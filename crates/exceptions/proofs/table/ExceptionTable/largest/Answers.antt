use Rattle.std.proofs.Common.{rules}
use Rattle.exceptions.specs.Listed.{listed}
use Rattle.exceptions.proofs.Lists.{found_below}
use Rattle.exceptions.proofs.table.ExceptionTable.largest.Goals as goal

pub returns-clause-small : goal.returns-clause-small
returns-clause-small c = found_below (listed c.args.self.now) c.largest_new.result c.args.self.now.newbits (search rules)
