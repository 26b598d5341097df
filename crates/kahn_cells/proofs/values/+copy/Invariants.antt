use Rattle.std.proofs.Common.{◌≡◌, take}
use Rattle.kahn_cells.proofs.values.+copy.Given as goal

abbrev pub invariant-copy_values-loop-x : goal.invariant-copy_values-loop-x
invariant-copy_values-loop-x l = l.done ≡ take l.x-index l.all
