use Rattle.recovery.proofs.Cleans.{cut_sure, opening_breaks, opening_lies}
use Rattle.recovery.proofs.Rests.{opening_standing}
use Rattle.recovery.proofs.Stays.{legible_stands, opening_stands}
use Rattle.recovery.proofs.opening_survives_cuts.Goals as goal

pub returns : goal.returns
returns c = record { sure = cut_sure; stands = opening_stands; breaks = opening_breaks; legible = legible_stands; lies = opening_lies; standing = opening_standing }
