use Rattle.std.proofs.Common.{◌≡◌, map, take}
use Rattle.kahn_model.specs.Values as spec
use Rattle.kahn_cells.proofs.values.the_leaves.Given as goal

abbrev pub invariant-loop-x : goal.invariant-loop-x
invariant-loop-x l = l.done ≡ map spec.the_leaf (take l.x-index l.args)
