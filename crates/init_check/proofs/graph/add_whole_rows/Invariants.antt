use Rattle.std.proofs.Common.{◌≡◌, ◌++◌, drop, map}
use Rattle.init_rules.specs.Nodes as spec
use Rattle.init_check.specs.Rows as own
use Rattle.init_check.proofs.graph.add_whole_rows.Given as goal

abbrev pub invariant-loop-whole : goal.invariant-loop-whole
invariant-loop-whole l = record { nodes : own.AreNodes l.rows l.d; so_far : l.rows.1 ++ map (spec.whole_row l.d l.sigs) (drop l.whole-index l.d.places.exprs) ≡ l.initial.rows.1 ++ map (spec.whole_row l.d l.sigs) l.d.places.exprs }
