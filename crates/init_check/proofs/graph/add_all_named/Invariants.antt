use Rattle.std.proofs.Common.{◌≡◌, ◌++◌, drop, map}
use Rattle.init_rules.specs.Nodes as spec
use Rattle.init_rules.specs.Nodes.{counts}
use Rattle.ls_places.specs.Patterns.{joined}
use Rattle.init_check.proofs.graph.add_all_named.Given as goal

abbrev pub invariant-loop-named : goal.invariant-loop-named
invariant-loop-named l = l.out ++ joined (map (spec.named_row (counts l.d)) (drop l.named-index l.d.places.names)) ≡ l.initial.out ++ joined (map (spec.named_row (counts l.d)) l.d.places.names)
