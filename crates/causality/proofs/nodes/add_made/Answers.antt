use Rattle.std.proofs.Common.{◌∙◌, ◌++◌, ◌∷◌, [], ap}
use Rattle.causality.specs.Made as made
use Rattle.causality.proofs.Pushed.{made_next}
use Rattle.causality.proofs.nodes.add_made.Goals as goal

pub loop-i-preserved : goal.loop-i-preserved
loop-i-preserved c =
    made_next (made.node_of c.args.kind) c.args.many c.args.first c.loop-i.i c.loop-i.out c.push.new.self _ c.loop-i-test.true
    (c.in_ok-push.ensures.ok ∙ ap (λ z. c.loop-i.out ++ z ∷ []) c.node_of.ensures) c.loop-i.invariant
