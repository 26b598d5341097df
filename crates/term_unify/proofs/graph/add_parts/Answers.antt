use Rattle.term_unify.proofs.Nodes.{part_added}
use Rattle.term_unify.proofs.graph.add_parts.Goals as goal

pub loop-at-preserved : goal.loop-at-preserved
loop-at-preserved g c = part_added _ _ _ _ _ _ c.loop-at.invariant c.in_ok-push.ensures.items c.part.ensures
