use Rattle.std.proofs.Common.{arith, rules, tests}
use Rattle.std.proofs.lemmas.Iterator.Consumers.{YieldsList-at, count_from_yields_List}
use Rattle.std.proofs.lemmas.Iterator.Search.{YieldsList-from_take_while}
use Rattle.layout.specs.Chunks.{sectors}
use Rattle.exceptions.specs.Table.{linked}
use Rattle.exceptions.specs.Listed.{listed}
use Rattle.exceptions.proofs.Lists.{yields_downs, last_run_is}
use Rattle.exceptions.proofs.table.ExceptionTable.last_run.Goals as goal

pub returns-clause-run : goal.returns-clause-run
returns-clause-run c =
    let links = linked (sectors c.args.size) (listed c.args.self.now) in
    let down = YieldsList-at c.take_while-before.ensures.source (yields_downs c.in-Some.last c.rev.ensures.source) in
    last_run_is _ _ c.in-Some.last _ (omega arith) (count_from_yields_List c.take_while-before.result _ c.count.ensures.ran (YieldsList-from_take_while _ links down c.take_while-before.ensures.closure c.take_while-before.ensures.done (λ x b q k. search (rules, tests))))
