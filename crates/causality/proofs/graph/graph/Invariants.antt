use Rattle.std.proofs.Common.{◌≡◌, ◌++◌, drop, map}
use Rattle.causality.specs.Nodes.{counts, total}
use Rattle.causality.specs.Rows as spec
use Rattle.causality.proofs.graph.graph.Given as goal

abbrev pub invariant-loop-node : goal.invariant-loop-node
invariant-loop-node l = record { nodes : l.rows.0 ≡ total (counts l.d); so_far : l.rows.1 ++ map (spec.node_row l.d) (drop l.node-index l.nodes) ≡ map (spec.node_row l.d) l.nodes }
