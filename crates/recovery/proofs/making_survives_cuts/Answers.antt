use Rattle.recovery.proofs.Calls.{make_stands, make_leaves}
use Rattle.recovery.proofs.Makes.{making_stands, making_leaves}
use Rattle.recovery.proofs.Stand.{standing_lies, standing_opens}
use Rattle.recovery.proofs.making_survives_cuts.Goals as goal

pub returns : goal.returns
returns c = record {
  stands = making_stands;
  breaks = making_leaves standing_opens;
  lies = making_leaves standing_lies;
  call_stands = make_stands;
  call_breaks = make_leaves standing_opens;
  call_lies = make_leaves standing_lies;
}
