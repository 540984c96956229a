use Rattle.history.proofs.Safe.{machine_answers}
use Rattle.history.proofs.answers_are_the_machines.Goals as goal

pub returns : goal.returns
returns c = machine_answers
