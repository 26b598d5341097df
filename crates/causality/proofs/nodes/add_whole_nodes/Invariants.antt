use Rattle.std.proofs.Common.{◌≡◌, ◌++◌, drop}
use Rattle.causality.specs.Rows as rows
use Rattle.causality.proofs.nodes.add_whole_nodes.Given as goal

abbrev pub invariant-loop-k : goal.invariant-loop-k
invariant-loop-k l = l.out ++ rows.whole_nodes l.d (drop l.k-index l.all) ≡ l.initial.out ++ rows.whole_nodes l.d l.all
