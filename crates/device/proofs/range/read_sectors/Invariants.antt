use Rattle.std.proofs.Common.{length}
use Rattle.device.specs.Plans.{reading_into, one}
use Rattle.device.proofs.Steps.{Comes}
use Rattle.device.proofs.Loops.{Numbers, Places, filling_on}
use Rattle.device.proofs.range.read_sectors.Given as goal

abbrev pub invariant-loop-sector : goal.invariant-loop-sector
invariant-loop-sector g l =
    let disk = g.D.Device.disk in
    record {
      numbers : Numbers l.sector-iterator.a;
      places : Places l.sector-iterator.b (length l.initial.buffer);
      plan : Comes one (reading_into l.first l.initial.buffer) (disk l.initial.device) (filling_on l.sector-iterator l.buffer) (disk l.device);
    }
