use Rattle.std.proofs.Common.{◌≡◌, ◌++◌, ◌-◌}
use Rattle.init_rules.specs.Nodes as spec
use Rattle.init_check.specs.Rows as own
use Rattle.init_check.proofs.graph.add_empty_rows.Given as goal

abbrev pub invariant-loop-k : goal.invariant-loop-k
invariant-loop-k l = record { nodes : own.AreNodes l.rows l.d; so_far : l.rows.1 ++ spec.empty_rows (l.many - l._k) ≡ l.initial.rows.1 ++ spec.empty_rows l.many }
