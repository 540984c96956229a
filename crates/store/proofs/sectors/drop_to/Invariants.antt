use Rattle.std.proofs.Common.{◌-◌, length, take, vec_items}
use Rattle.device.specs.Plans.{one, then}
use Rattle.device.proofs.Steps.{Comes}
use Rattle.layout.specs.Chunks.{sectors}
use Rattle.store.specs.Steps.{finished, flushing, unwinding, dropping}
use Rattle.store.proofs.sectors.drop_to.Given as goal

abbrev pub invariant-loop-j : goal.invariant-loop-j
invariant-loop-j g l =
    let disk = g.D.Device.disk in
    let c = sectors l.size in
    let es = vec_items l.table.items in
    Comes one (dropping c (take l.left es) (length es)) (disk l.initial.device) (then (unwinding c l.kept l.low (l.j - l.low)) (λ _. flushing finished)) (disk l.device)
