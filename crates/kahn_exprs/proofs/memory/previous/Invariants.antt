use Rattle.std.proofs.Common.{◌≡◌, ◌-◌}
use Rattle.kahn_exprs.specs.Memory as own
use Rattle.kahn_model.specs.Rows as rows
use Rattle.kahn_exprs.proofs.memory.previous.Given as goal

abbrev pub invariant-loop-back : goal.invariant-loop-back
invariant-loop-back l = rows.previous (own.paced l.body l.pace) (own.restarts l.body l.place l.too) (l.i - l.back) ≡ rows.previous (own.paced l.body l.pace) (own.restarts l.body l.place l.too) l.i
