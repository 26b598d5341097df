use Rattle.std.proofs.Common.{sym}
use Rattle.clock_infer.proofs.Answering.{ok_then}
use Rattle.clock_infer.proofs.Appearing.{arrow_seen, seen_turn}
use Rattle.clock_infer.proofs.schemes.+appear.Goals as goal

pub appear-returns-in_ok-appear_all-in-Arrow : goal.appear-returns-in_ok-appear_all-in-Arrow
appear-returns-in_ok-appear_all-in-Arrow t c =
    ok_then c.appear-in-Arrow.result
    (arrow_seen c.args.seen.now.list c.args.t.now c.in-Arrow.all c.as_slice.result.now c.in-Arrow.to c.get-in-Arrow.result.now c.appear_all.new.seen.list c.appear-in-Arrow.new.seen.list c.in-Arrow.is
    c.as_slice.ensures.value c.get-in-Arrow.ensures c.in_ok-appear_all-in-Arrow.ensures) c.appear-in-Arrow.ensures

pub appear_all-loop-t-preserved : goal.appear_all-loop-t-preserved
appear_all-loop-t-preserved t c =
    seen_turn c.args.all.now c.loop-t.t-index c.t-item.result c.loop-t.seen.list c.appear.new.seen.list _ c.loop-t-test.true (sym c.t-item.is) c.in_ok-appear.ensures c.loop-t.invariant
