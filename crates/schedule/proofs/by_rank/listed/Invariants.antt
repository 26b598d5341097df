use Rattle.std.proofs.Common.{◌≡◌}
use Rattle.schedule.proofs.by_rank.listed.Given as goal

abbrev pub invariant-loop-e : goal.invariant-loop-e
invariant-loop-e l = l.list ≡ l.yielded
