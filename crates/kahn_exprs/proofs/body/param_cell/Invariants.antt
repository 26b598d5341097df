use Rattle.std.proofs.Common.{◌≡◌, drop}
use Rattle.kahn_exprs.specs.Context as around
use Rattle.kahn_model.specs.Functions.{param_in, row_of}
use Rattle.kahn_exprs.proofs.body.param_cell.Given as goal

abbrev pub invariant-loop-p : goal.invariant-loop-p
invariant-loop-p l = row_of (param_in l.x (drop l.p-index l.params) (around.args_of l.rest)) l.i ≡ row_of (param_in l.x l.params (around.args_of l.args)) l.i
