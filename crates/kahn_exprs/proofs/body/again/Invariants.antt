use Rattle.std.proofs.Common.{◌≡◌, drop}
use Rattle.kahn_exprs.specs.Body as spec
use Rattle.kahn_exprs.proofs.body.again.Given as goal

abbrev pub invariant-loop-frame : goal.invariant-loop-frame
invariant-loop-frame l = spec.again_now l.body l.now (drop l.frame-index l.place) l.i ≡ spec.again l.body l.place l.i
