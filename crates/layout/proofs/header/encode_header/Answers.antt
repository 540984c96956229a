use Rattle.std.proofs.Common.{ap, ◌∙◌, rules}
use Rattle.std.specs.Int.{w32}
use Rattle.layout.specs.Numbers.{le}
use Rattle.layout.proofs.Numbers.{to_le_bytes-le}
use Rattle.layout.proofs.Made.{header_made}
use Rattle.layout.proofs.header.encode_header.Goals as goal

pub returns : goal.returns
returns c =
    header_made c.args.header.valid _ c.copy_from_slice.ensures.after
    (c.copy_from_slice-2.ensures.after ∙ c.to_le_bytes.ensures ∙ to_le_bytes-le w32 _ ∙ ap (le 4) (search rules))
    (c.copy_from_slice-3.ensures.after ∙ c.to_le_bytes-2.ensures ∙ to_le_bytes-le w32 1)
    (c.copy_from_slice-4.ensures.after ∙ c.to_le_bytes-3.ensures ∙ to_le_bytes-le w32 _ ∙ ap (le 4) c.sectors.ensures)
