use Rattle.clock_fresh.proofs.Counting.{vars_turn}
use Rattle.clock_fresh.proofs.shapes.some_vars.Goals as goal

pub loop-k-preserved : goal.loop-k-preserved
loop-k-preserved c =
    vars_turn c.args.count c.loop-k.k c.loop-k.next c.variable.new.next c.in_ok-clock.clock c.loop-k.done c.push.new.self _ _ c.loop-k-test.true c.in_ok-clock.ensures.made c.in_ok-clock.ensures.next c.in_ok-push.ensures.ok
    c.loop-k.invariant
