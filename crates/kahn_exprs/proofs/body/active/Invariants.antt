use Rattle.std.proofs.Common.{◌≡◌, drop}
use Rattle.kahn_exprs.specs.Body as spec
use Rattle.ls_places.specs.Places.{arms}
use Rattle.kahn_exprs.proofs.body.active.Given as goal

abbrev pub invariant-loop-frame : goal.invariant-loop-frame
invariant-loop-frame l = spec.active_now l.body l.here (arms (drop l.frame-index l.place)) l.i ≡ spec.active l.body l.place l.i
