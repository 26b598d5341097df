use Rattle.std.proofs.Common.{◌≡◌, ◌++◌, drop}
use Rattle.causality.specs.Rows as rows
use Rattle.causality.proofs.blocks.add_states.Given as goal

abbrev pub invariant-loop-state : goal.invariant-loop-state
invariant-loop-state l = l.out ++ rows.state_wholes (drop l.state-index l.all) ≡ l.initial.out ++ rows.state_wholes l.all
