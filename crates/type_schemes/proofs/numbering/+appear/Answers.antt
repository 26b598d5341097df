use Rattle.std.proofs.Common.{sym}
use Rattle.type_schemes.proofs.Firsts.{appear_turn, arrow_vars}
use Rattle.type_schemes.proofs.numbering.+appear.Goals as goal

pub appear_all-loop-t-preserved : goal.appear_all-loop-t-preserved
appear_all-loop-t-preserved t c =
    appear_turn c.args.all.now c.loop-t.t-index c.t-item.result c.loop-t.seen.keys c.appear.new.seen.keys _ c.loop-t-test.true (sym c.t-item.is) c.in_ok-appear.ensures c.loop-t.invariant

pub appear-returns-in_ok-appear_all-in-Arrow : goal.appear-returns-in_ok-appear_all-in-Arrow
appear-returns-in_ok-appear_all-in-Arrow t c =
    arrow_vars c.appear.result c.args.t.now c.in-Arrow.field-0 c.in-Arrow.all c.as_slice-in-Arrow.result.now c.in-Arrow.to c.get.result.now c.args.seen.now.keys c.appear_all-in-Arrow.new.seen.keys c.appear.new.seen.keys
    c.in-Arrow.is c.as_slice-in-Arrow.ensures.value c.get.ensures c.in_ok-appear_all-in-Arrow.ensures c.appear.ensures
