use Rattle.std.proofs.Common.{◌≡◌, ◌++◌, drop, map}
use Rattle.init_check.specs.Rows as own
use Rattle.init_check.proofs.graph.add_initial_rows.Given as goal

abbrev pub invariant-loop-w : goal.invariant-loop-w
invariant-loop-w l = record { nodes : own.AreNodes l.rows l.d; so_far : l.rows.1 ++ map (own.initial_nodes l.d) (drop l.w-index l.d.places.vars) ≡ l.initial.rows.1 ++ map (own.initial_nodes l.d) l.d.places.vars }
