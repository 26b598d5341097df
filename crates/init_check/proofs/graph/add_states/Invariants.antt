use Rattle.std.proofs.Common.{◌≡◌, ◌++◌, drop}
use Rattle.init_rules.specs.Nodes as spec
use Rattle.init_rules.specs.Nodes.{counts}
use Rattle.init_check.proofs.graph.add_states.Given as goal

abbrev pub invariant-loop-state : goal.invariant-loop-state
invariant-loop-state l = l.out ++ spec.states_row (counts l.d) (drop l.state-index l.all) ≡ l.initial.out ++ spec.states_row (counts l.d) l.all
