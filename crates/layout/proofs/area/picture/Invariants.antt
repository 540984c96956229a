use Rattle.std.proofs.Common.{◌≡◌, ◌*◌, length, take, drop}
use Rattle.std.specs.List.{flat_map}
use Rattle.layout.specs.Entries.{entry, padded}
use Rattle.layout.proofs.area.picture.Given as goal

abbrev pub invariant-loop-k : goal.invariant-loop-k
invariant-loop-k l = l.out ≡ padded (flat_map entry (take (length l.yielded) (take 32 (drop (32 * l.j) l.es))))
