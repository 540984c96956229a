use Rattle.device.specs.Plans.{zeroing, one}
use Rattle.device.proofs.Steps.{Comes}
use Rattle.device.proofs.Loops.{Numbers, zeroing_on}
use Rattle.device.proofs.range.write_zeros.Given as goal

abbrev pub invariant-loop-sector : goal.invariant-loop-sector
invariant-loop-sector g l =
    let disk = g.D.Device.disk in
    record {
      numbers : Numbers l.sector-iterator.iter;
      plan : Comes one (zeroing l.first l.n) (disk l.initial.device) (zeroing_on l.sector-iterator) (disk l.device);
    }
