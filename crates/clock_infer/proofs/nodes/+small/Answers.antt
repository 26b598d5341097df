use Rattle.clock_infer.proofs.Small.{expr_told}
use Rattle.clock_infer.proofs.nodes.+small.Goals as goal

pub expr_is_small-returns : goal.expr_is_small-returns
expr_is_small-returns t c =
    expr_told c.args.by.now.list c.form_is_small.result c.args.e.now c.get.result.now c.in_ok-is_small_put.field-0 c.in_ok-is_small_put.ensures c.if-not-branch.false c.get.ensures c.form_is_small.ensures
