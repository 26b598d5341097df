use Rattle.std.proofs.Common.{◌≡◌, drop}
use Rattle.kahn_exprs.specs.Body as spec
use Rattle.kahn_exprs.proofs.body.active_in.Given as goal

abbrev pub invariant-loop-m : goal.invariant-loop-m
invariant-loop-m l = spec.active_now l.body l.here (drop l.m-index l.all) l.i ≡ spec.active_now l.body l.initial.here l.all l.i
