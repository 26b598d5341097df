use Rattle.std.proofs.Common.{◌≡◌, ◌++◌, drop}
use Rattle.node_lines.specs.Starts.{starts, starts_from}
use Rattle.node_lines.proofs.fields.starts.Given as goal

abbrev pub invariant-loop-t : goal.invariant-loop-t
invariant-loop-t l = l.done ++ starts_from (drop l.t-index l.params) l.next ≡ starts l.params
