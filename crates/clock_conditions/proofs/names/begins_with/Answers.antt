use Rattle.std.proofs.Common.{◌∙◌}
use Rattle.clock_conditions.proofs.Testing.{past_end}
use Rattle.clock_conditions.proofs.names.begins_with.Goals as goal

pub returns-in-None : goal.returns-in-None
returns-in-None c = past_end c.args.arms.now c.args.with.now c.loop-at.at c.loop-at-test.true c.in-None.ensures.lookup.3 ∙ c.loop-at.invariant
