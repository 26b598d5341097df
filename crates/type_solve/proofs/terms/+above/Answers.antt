use Rattle.type_solve.proofs.Sizes.{term_turn, above_arrow}
use Rattle.std.proofs.Common.{sym}
use Rattle.type_solve.proofs.terms.+above.Goals as goal

pub above_all-loop-t-preserved : goal.above_all-loop-t-preserved
above_all-loop-t-preserved t c =
    term_turn c.args.all.now c.loop-t.t-index c.t-item.result c.loop-t.most c.above_term.result c.max-most.result _ c.loop-t-test.true (sym c.t-item.is) c.above_term.ensures c.max-most.ensures c.loop-t.invariant

pub above_term-returns-in-Arrow : goal.above_term-returns-in-Arrow
above_term-returns-in-Arrow t c =
    above_arrow c.args.t.now c.in-Arrow.field-0 c.in-Arrow.all c.as_slice-in-Arrow.result.now c.in-Arrow.to c.get.result.now c.above_all-in-Arrow.result c.above_term.result c.max.result c.in-Arrow.is
    c.as_slice-in-Arrow.ensures.value c.get.ensures c.above_all-in-Arrow.ensures c.above_term.ensures c.max.ensures
