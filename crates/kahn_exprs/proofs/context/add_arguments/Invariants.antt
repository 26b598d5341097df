use Rattle.std.proofs.Common.{◌≡◌, ◌++◌, drop}
use Rattle.kahn_exprs.proofs.context.add_arguments.Given as goal

abbrev pub invariant-loop-arg : goal.invariant-loop-arg
invariant-loop-arg l = l.done ++ drop l.arg-index l.args ≡ l.initial.done ++ l.args
