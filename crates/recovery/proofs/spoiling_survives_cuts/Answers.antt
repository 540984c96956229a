use Rattle.recovery.proofs.Calls.{spoil_stays, spoil_leaves}
use Rattle.recovery.proofs.Spoils.{spoiling_leaves}
use Rattle.recovery.proofs.Stand.{standing_lies, standing_opens}
use Rattle.recovery.proofs.spoiling_survives_cuts.Goals as goal

pub returns : goal.returns
returns c = record {
  breaks = spoiling_leaves standing_opens;
  lies = spoiling_leaves standing_lies;
  call_stays = spoil_stays;
  call_breaks = spoil_leaves standing_opens;
  call_lies = spoil_leaves standing_lies;
}
