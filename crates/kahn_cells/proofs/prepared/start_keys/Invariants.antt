use Rattle.std.proofs.Common.{◌≡◌, take}
use Rattle.kahn_cells.specs.Prepared as own
use Rattle.kahn_cells.proofs.prepared.start_keys.Given as goal

abbrev pub invariant-loop-s : goal.invariant-loop-s
invariant-loop-s l = l.done ≡ own.start_keys (take l.s-index l.all)
