use Rattle.std.proofs.Common.{◌≡◌}
use Rattle.device.specs.Plans.{writing_from, one}
use Rattle.device.proofs.Steps.{Comes}
use Rattle.device.proofs.Loops.{Numbers, spreading_on}
use Rattle.device.proofs.range.write_sectors.Given as goal

abbrev pub invariant-loop-sector : goal.invariant-loop-sector
invariant-loop-sector g l =
    let disk = g.D.Device.disk in
    record {
      numbers : Numbers l.sector-iterator.a;
      size : l.sector-iterator.b.size ≡ 512;
      plan : Comes one (writing_from l.first l.bytes) (disk l.initial.device) (spreading_on l.sector-iterator) (disk l.device);
    }
