use Rattle.recovery.proofs.Calls.{drop_stands, drop_leaves}
use Rattle.recovery.proofs.Drops.{dropping_breaks, dropping_lies, dropping_stands}
use Rattle.recovery.proofs.Stand.{standing_lies, standing_opens}
use Rattle.recovery.proofs.dropping_survives_cuts.Goals as goal

pub returns : goal.returns
returns c = record {
  stands = dropping_stands;
  breaks = dropping_breaks;
  lies = dropping_lies;
  call_stands = drop_stands;
  call_breaks = drop_leaves standing_opens dropping_breaks;
  call_lies = drop_leaves standing_lies dropping_lies;
}
