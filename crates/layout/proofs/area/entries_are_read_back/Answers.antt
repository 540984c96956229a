use Rattle.layout.proofs.Back.{read_back}
use Rattle.layout.proofs.area.entries_are_read_back.Goals as goal

pub returns : goal.returns
returns c = read_back
