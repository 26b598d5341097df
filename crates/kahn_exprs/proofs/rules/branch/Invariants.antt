use Rattle.std.proofs.Common.{◌≡◌, drop}
use Rattle.kahn_exprs.specs.Rules as own
use Rattle.kahn_exprs.proofs.rules.branch.Given as goal

abbrev pub invariant-loop-choice : goal.invariant-loop-choice
invariant-loop-choice l = own.branch l.body l.k (drop l.choice-index l.choices) l.rest l.i ≡ own.branch l.body l.k l.choices l.all l.i
