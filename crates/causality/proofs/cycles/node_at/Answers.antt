use Rattle.causality.proofs.Pushed.{node_none, node_some}
use Rattle.causality.proofs.cycles.node_at.Goals as goal

pub returns-in-None : goal.returns-in-None
returns-in-None c = node_none c.args.nodes.now c.args.x c.in-None.ensures

pub returns-in-Some : goal.returns-in-Some
returns-in-Some c = node_some c.args.nodes.now c.args.x c.in-Some.node.now c.in-Some.ensures
