use Rattle.std.proofs.Common.{◌≡◌, drop}
use Rattle.kahn_exprs.specs.Context as around
use Rattle.kahn_exprs.proofs.body.clock_in.Given as goal

abbrev pub invariant-loop-row : goal.invariant-loop-row
invariant-loop-row l = around.clock_in (drop l.row-index l.rows) l.w l.i ≡ around.clock_in l.rows l.w l.i
