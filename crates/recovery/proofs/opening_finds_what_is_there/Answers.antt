use Rattle.recovery.proofs.Opens.{opening_finds, opening_refused}
use Rattle.recovery.proofs.Reaches.{opening_answers}
use Rattle.recovery.proofs.opening_finds_what_is_there.Goals as goal

pub returns : goal.returns
returns c = record { finds = opening_finds; answers = opening_answers; refused = opening_refused }
