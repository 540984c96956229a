use Rattle.device.proofs.Ruled.{ruled, fated}
use Rattle.device.proofs.rules.fates_are_rules.Goals as goal

pub returns : goal.returns
returns c = λ o d t e. (ruled, fated)
