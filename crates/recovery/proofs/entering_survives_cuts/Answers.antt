use Rattle.recovery.proofs.Calls.{enter_stands, enter_leaves}
use Rattle.recovery.proofs.Enters.{entering_leaves, entering_stands}
use Rattle.recovery.proofs.Listing.{entering_listed}
use Rattle.recovery.proofs.Orders.{entering_order}
use Rattle.recovery.proofs.Stand.{standing_lies, standing_opens}
use Rattle.recovery.proofs.entering_survives_cuts.Goals as goal

pub returns : goal.returns
returns c = record {
  listed = entering_listed;
  stands = entering_stands;
  breaks = entering_leaves standing_opens;
  lies = entering_leaves standing_lies;
  order = entering_order;
  call_stands = enter_stands;
  call_breaks = enter_leaves standing_opens;
  call_lies = enter_leaves standing_lies;
}
