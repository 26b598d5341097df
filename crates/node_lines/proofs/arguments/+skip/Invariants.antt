use Rattle.std.proofs.Common.{◌≡◌, drop, map}
use Rattle.node_lines.specs.Arguments as spec
use Rattle.node_lines.proofs.arguments.+skip.Given as goal

abbrev pub invariant-skip_all-loop-t : goal.invariant-skip_all-loop-t
invariant-skip_all-loop-t l = (spec.take_all (map spec.take_value (drop l.t-index l.all)) l.rest).1 ≡ (spec.take_all (map spec.take_value l.all) l.cells).1
