use Rattle.layout.proofs.Back.{header_back}
use Rattle.layout.proofs.header.headers_are_read_back.Goals as goal

pub returns : goal.returns
returns c = header_back
