use Rattle.std.proofs.Common.{◌≡◌, ◌++◌, drop}
use Rattle.node_lines.specs.Form as spec
use Rattle.node_lines.proofs.fields.fields.Given as goal

abbrev pub invariant-loop-t : goal.invariant-loop-t
invariant-loop-t l = l.done ++ spec.fields_from l.params (drop l.t-index l.params) l.rest l.before ≡ spec.fields l.params l.clocks
