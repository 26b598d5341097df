use Rattle.std.proofs.Common.{◌≡◌, drop, map}
use Rattle.ls_places.specs.Clocks.{any}
use Rattle.node_lines.specs.Runnable as spec
use Rattle.node_lines.proofs.runnable.any_function.Given as goal

abbrev pub invariant-loop-mark : goal.invariant-loop-mark
invariant-loop-mark l = any (map spec.is_function (drop l.mark-index l.marks)) ≡ any (map spec.is_function l.marks)
