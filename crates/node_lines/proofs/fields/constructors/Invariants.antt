use Rattle.std.proofs.Common.{◌≡◌, ◌++◌, drop}
use Rattle.node_lines.specs.Form as spec
use Rattle.node_lines.proofs.fields.constructors.Given as goal

abbrev pub invariant-loop-item : goal.invariant-loop-item
invariant-loop-item g l = l.done ++ spec.constructors (drop l.item-index l.file) ≡ spec.constructors l.file
