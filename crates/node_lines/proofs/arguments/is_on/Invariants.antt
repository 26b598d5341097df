use Rattle.std.proofs.Common.{◌≡◌, drop}
use Rattle.node_lines.specs.Arguments as spec
use Rattle.node_lines.proofs.arguments.is_on.Given as goal

abbrev pub invariant-loop-asked : goal.invariant-loop-asked
invariant-loop-asked l = spec.is_on l.line (drop l.asked-index l.on) ≡ spec.is_on l.line l.on
