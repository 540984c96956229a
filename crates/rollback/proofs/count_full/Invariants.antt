use Rattle.std.proofs.Common.{◌≤◌}
use Rattle.rollback.proofs.count_full.Given as goal

abbrev pub invariant-loop-s : goal.invariant-loop-s
invariant-loop-s g l = l.found ≤ l.s
