use Rattle.std.proofs.Common.{◌∙◌, ap, sym}
use Rattle.clock_infer.specs.Nodes as spec
use Rattle.clock_infer.proofs.Small.{small_stop, small_turn}
use Rattle.clock_infer.proofs.nodes.are_small.Goals as goal

pub returns-then-not-branch : goal.returns-then-not-branch
returns-then-not-branch c =
    small_stop c.args.by.now.list c.as_slice-wholes.result.now c.loop-whole.whole-index c.whole-item.result _ c.in_ok-expr_is_small.field-0 c.loop-whole-test.true (sym c.whole-item.is) c.in_ok-expr_is_small.ensures c.if-not-branch.true
    c.loop-whole.invariant
    ∙ ap (spec.nodes_small c.args.by.now.list) c.as_slice-wholes.ensures.value

pub loop-whole-preserved : goal.loop-whole-preserved
loop-whole-preserved c =
    small_turn c.args.by.now.list c.as_slice-wholes.result.now c.loop-whole.whole-index c.whole-item.result _ c.in_ok-expr_is_small.field-0 c.loop-whole-test.true (sym c.whole-item.is) c.in_ok-expr_is_small.ensures c.if-not-branch.false
    c.loop-whole.invariant
