use Rattle.std.proofs.Common.{take, map, ◌≡◌}
use Rattle.kahn_exprs.specs.Body as spec
use Rattle.kahn_exprs.specs.Context as around
use Rattle.kahn_exprs.specs.Values as own
use Rattle.kahn_model.specs.Alike.{ArgsAlike}
use Rattle.kahn_model.specs.Functions.{args_said}
use Rattle.kahn_exprs.proofs.expressions.+value.Given as goal

abbrev pub invariant-exprs_rows-loop-e : goal.invariant-exprs_rows-loop-e
invariant-exprs_rows-loop-e g l = l.done ≡ own.rows l.body l.place (take l.e-index l.all)

abbrev pub invariant-branch_rows-loop-choice : goal.invariant-branch_rows-loop-choice
invariant-branch_rows-loop-choice g l = l.done ≡ own.branch_rows l.body l.place (take l.choice-index l.all)

abbrev pub invariant-values-loop-e : goal.invariant-values-loop-e
invariant-values-loop-e g l = ArgsAlike l.body.lines (around.args_of l.done) (args_said (map (spec.said l.body l.place) (take l.e-index l.all)))
