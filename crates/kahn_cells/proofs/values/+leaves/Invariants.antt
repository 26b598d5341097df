use Rattle.std.proofs.Common.{◌≡◌, ◌++◌, drop, map}
use Rattle.kahn_model.specs.Values as spec
use Rattle.ls_places.specs.Patterns.{joined}
use Rattle.kahn_cells.proofs.values.+leaves.Given as goal

abbrev pub invariant-add_all_leaves-loop-x : goal.invariant-add_all_leaves-loop-x
invariant-add_all_leaves-loop-x l = l.done ++ joined (map spec.leaves (drop l.x-index l.all)) ≡ l.initial.done ++ joined (map spec.leaves l.all)
