use Rattle.std.proofs.Common.{◌≡◌, ◌++◌, drop}
use Rattle.kahn_exprs.proofs.instance.add_clocks.Given as goal

abbrev pub invariant-loop-ck : goal.invariant-loop-ck
invariant-loop-ck l = l.done ++ drop l.ck-index l.all ≡ l.initial.done ++ l.all
