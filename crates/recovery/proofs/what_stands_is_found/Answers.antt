use Rattle.recovery.proofs.Finds.{finds_what_it_holds}
use Rattle.recovery.proofs.Sectors.{entry_written_again}
use Rattle.recovery.proofs.Sheets.{pictures_hold}
use Rattle.recovery.proofs.Stand.{standing_alone, standing_lies, standing_opens}
use Rattle.recovery.proofs.what_stands_is_found.Goals as goal

pub returns : goal.returns
returns c = record { found = finds_what_it_holds; pictures = pictures_hold; entry = entry_written_again; standing = standing_opens; lies = standing_lies; alone = standing_alone }
