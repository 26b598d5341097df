use Rattle.std.proofs.Common.{sym}
use Rattle.step_code.proofs.FaultLemmas.{clocks_differ}
use Rattle.step_code.proofs.inputs.same_clock.Goals as goal

pub returns-then-one-two : goal.returns-then-one-two
returns-then-one-two c = sym (clocks_differ c.args.one.now c.args.two.now c.if-one-two.true)
