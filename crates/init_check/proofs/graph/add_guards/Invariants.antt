use Rattle.std.proofs.Common.{◌≡◌, ◌++◌, drop}
use Rattle.init_rules.specs.Nodes as spec
use Rattle.init_rules.specs.Nodes.{counts}
use Rattle.init_check.proofs.graph.add_guards.Given as goal

abbrev pub invariant-loop-guard : goal.invariant-loop-guard
invariant-loop-guard l = l.out ++ spec.guards_row (counts l.d) (drop l.guard-index l.all) ≡ l.initial.out ++ spec.guards_row (counts l.d) l.all
