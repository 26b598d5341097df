use Rattle.std.proofs.Common.{sym, ◌∙◌}
use Rattle.clock_pairs.proofs.Collecting.{whole_turn}
use Rattle.clock_pairs.specs.Walks as walks
use Rattle.clock_pairs.proofs.definition.collect_wholes.Goals as goal

pub loop-whole-preserved : goal.loop-whole-preserved
loop-whole-preserved g c =
    whole_turn g.C.CasePlaces.place c.args.scene.now c.args.all.now c.loop-whole.whole-index c.whole-item.result c.loop-whole.state c.collect_expr.new.state _ c.loop-whole-test.true (sym c.whole-item.is)
    (c.in_ok-collect_expr.ensures ∙ (λ i. walks.collected g.C.CasePlaces.place c.args.scene.now (walks.nodes c.whole-item.result.expr (c.as_slice.ensures.value i)) c.loop-whole.state)) c.loop-whole.invariant
