use Rattle.history.proofs.Safe.{crash_safe}
use Rattle.history.proofs.no_history_breaks_the_promise.Goals as goal

pub returns : goal.returns
returns c = crash_safe
