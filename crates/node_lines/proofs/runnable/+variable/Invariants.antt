use Rattle.std.proofs.Common.{◌≡◌, drop, map}
use Rattle.ls_places.specs.Clocks.{any}
use Rattle.node_lines.specs.Runnable as spec
use Rattle.node_lines.proofs.runnable.+variable.Given as goal

abbrev pub invariant-any_variable-loop-t : goal.invariant-any_variable-loop-t
invariant-any_variable-loop-t l = any (map spec.has_variable (drop l.t-index l.all)) ≡ any (map spec.has_variable l.all)
