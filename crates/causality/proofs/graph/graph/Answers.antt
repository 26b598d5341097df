use Rattle.causality.proofs.Graphed.{graph_long, row_within}
use Rattle.causality.proofs.graph.graph.Goals as goal

pub add-requires : goal.add-requires
add-requires c = row_within c.args.d.now _ c.loop-node.rows.0 c.as_slice.result.now c.in_ok-row.row c.loop-node.invariant.nodes c.as_slice.ensures.value c.in_ok-row.ensures

pub finish-requires : goal.finish-requires
finish-requires c = graph_long c.args.d.now c.args.nodes.now c.loop-node.rows.1 c.loop-node.node-index c.loop-node.rows.0 c.requires.nodes c.loop-node-test.false c.loop-node.invariant.nodes c.loop-node.invariant.so_far
