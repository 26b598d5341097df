use Rattle.std.proofs.Common.{◌≡◌, drop}
use Rattle.kahn_exprs.specs.Context as around
use Rattle.kahn_model.specs.Functions.{give_args}
use Rattle.kahn_exprs.proofs.context.give.Given as goal

abbrev pub invariant-loop-arg : goal.invariant-loop-arg
invariant-loop-arg l = give_args (around.arg_of l.more) (around.args_of (drop l.arg-index l.args)) ≡ give_args (around.arg_of l.initial.more) (around.args_of l.args)
