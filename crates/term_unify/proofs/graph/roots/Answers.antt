use Rattle.std.proofs.Common.{refl, ◌∙◌}
use Rattle.term_unify.proofs.Nodes.{posed}
use Rattle.term_unify.proofs.graph.roots.Goals as goal

pub loop-pair-preserved : goal.loop-pair-preserved
loop-pair-preserved g c =
    posed _ _ _ _ _ _ _ _ c.pair-item.result _ _ c.loop-pair.invariant c.in_ok-push-2.ensures.items c.in_ok-push-3.ensures.items c.in_ok-push.ensures.items (c.len-at.ensures ∙ c.loop-pair.terms.ok.0)
    refl refl c.loop-pair-test.true c.pair-item.is
