use Rattle.std.proofs.Common.{◌≡◌, take}
use Rattle.schedule.proofs.by_rank.copied.Given as goal

abbrev pub invariant-loop-e : goal.invariant-loop-e
invariant-loop-e l = l.copy.items ≡ take l.e-index l.eqs
