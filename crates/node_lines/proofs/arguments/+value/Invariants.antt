use Rattle.std.proofs.Common.{◌≡◌, ◌++◌, drop, map}
use Rattle.node_lines.specs.Arguments as spec
use Rattle.node_lines.proofs.arguments.+value.Given as goal

abbrev pub invariant-values-loop-t : goal.invariant-values-loop-t
invariant-values-loop-t l = l.done ++ (spec.take_all (map spec.take_value (drop l.t-index l.all)) l.rest).0 ≡ (spec.take_all (map spec.take_value l.all) l.cells).0
