use Rattle.std.proofs.Common.{◌≡◌, ◌++◌, drop, map}
use Rattle.ls_places.specs.Patterns.{joined}
use Rattle.node_lines.specs.Leaves as spec
use Rattle.node_lines.proofs.shapes.+leaves.Given as goal

abbrev pub invariant-add_all-loop-t : goal.invariant-add_all-loop-t
invariant-add_all-loop-t l = l.done ++ joined (map spec.leaves (drop l.t-index l.all)) ≡ l.initial.done ++ joined (map spec.leaves l.all)
