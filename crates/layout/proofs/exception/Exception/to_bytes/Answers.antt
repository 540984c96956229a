use Rattle.std.proofs.Common.{◌∙◌}
use Rattle.std.specs.Int.{w64}
use Rattle.layout.proofs.Numbers.{to_le_bytes-le}
use Rattle.layout.proofs.Made.{entry_made}
use Rattle.layout.proofs.exception.Exception.to_bytes.Goals as goal

pub returns : goal.returns
returns c = entry_made c.args.self (c.copy_from_slice.ensures.after ∙ c.to_le_bytes.ensures ∙ to_le_bytes-le w64 _) (c.copy_from_slice-2.ensures.after ∙ c.to_le_bytes-2.ensures ∙ to_le_bytes-le w64 _)
