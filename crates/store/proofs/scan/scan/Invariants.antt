use Rattle.std.proofs.Common.{◌≡◌, ◌-◌, [], None, vec_items}
use Rattle.device.specs.Plans.{one}
use Rattle.device.proofs.Steps.{Comes}
use Rattle.store.specs.Scanning.{most_areas, scanning}
use Rattle.store.proofs.Scans.{judging}
use Rattle.store.proofs.scan.scan.Given as goal

abbrev pub invariant-areas : goal.invariant-areas
invariant-areas g l =
    let disk = g.D.Device.disk in
    (l.end ≡ None) × Comes one (scanning l.shape most_areas 0 []) (disk l.initial.device) (scanning l.shape (65 - l.area) l.area (vec_items l.table.items)) (disk l.device)

abbrev pub invariant-loop-entry : goal.invariant-loop-entry
invariant-loop-entry g l =
    let disk = g.D.Device.disk in
    let s = l.shape in
    (l.end ≡ None) × Comes one (scanning s most_areas 0 []) (disk l.fn.device) (judging s l.area l.bytes l.entry (vec_items l.table.items)) (disk l.device)
