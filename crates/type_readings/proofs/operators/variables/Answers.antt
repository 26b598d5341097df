use Rattle.type_readings.proofs.Turns.{vars_turn}
use Rattle.type_readings.proofs.operators.variables.Goals as goal

pub loop-k-preserved : goal.loop-k-preserved
loop-k-preserved c = vars_turn c.loop-k.k c.args.count c.loop-k.list c.push.new.self _ c.loop-k-test.true c.in_ok-push.ensures.ok c.loop-k.invariant
