use Rattle.std.proofs.Common.{◌≡◌, take}
use Rattle.schedule.proofs.by_rank.copied_outputs.Given as goal

abbrev pub invariant-loop-out : goal.invariant-loop-out
invariant-loop-out l = l.copy ≡ take l.out-index l.outputs
