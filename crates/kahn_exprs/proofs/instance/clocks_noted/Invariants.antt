use Rattle.std.proofs.Common.{◌≡◌, take}
use Rattle.kahn_exprs.specs.Instance as own
use Rattle.kahn_exprs.proofs.instance.clocks_noted.Given as goal

abbrev pub invariant-loop-e : goal.invariant-loop-e
invariant-loop-e l = l.done ≡ own.clocks_noted (take l.e-index l.all)
