use Rattle.std.proofs.Common.{◌≡◌, ◌++◌, drop, map}
use Rattle.init_rules.specs.Nodes as spec
use Rattle.init_rules.specs.Nodes.{counts}
use Rattle.init_check.proofs.graph.add_resets.Given as goal

abbrev pub invariant-loop-k : goal.invariant-loop-k
invariant-loop-k l = l.out ++ map (spec.whole_node (counts l.d)) (drop l.k-index l.d.places.resets) ≡ l.initial.out ++ map (spec.whole_node (counts l.d)) l.d.places.resets
