use Rattle.std.proofs.Common.{◌≡◌, ◌++◌, ◌-◌, length, map}
use Rattle.init_check.specs.Rows as own
use Rattle.ls_places.specs.Search.{count_up}
use Rattle.init_check.proofs.graph.add_variable_rows.Given as goal

abbrev pub invariant-loop-k : goal.invariant-loop-k
invariant-loop-k l = record { nodes : own.AreNodes l.rows l.d; so_far : l.rows.1 ++ map (own.variable_nodes l.d) (count_up (length l.d.places.vars - l.k) l.k) ≡ l.initial.rows.1 ++ map (own.variable_nodes l.d) (count_up (length l.d.places.vars) 0) }
