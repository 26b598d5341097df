use Rattle.std.proofs.Common.{◌≡◌, take}
use Rattle.kahn_cells.specs.Prepared as own
use Rattle.kahn_cells.proofs.prepared.variable_keys.Given as goal

abbrev pub invariant-loop-w : goal.invariant-loop-w
invariant-loop-w l = l.done ≡ own.variable_keys (take l.w-index l.all)
