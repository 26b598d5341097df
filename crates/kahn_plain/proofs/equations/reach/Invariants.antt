use Rattle.std.proofs.Common.{◌≡◌, drop}
use Rattle.kahn_exprs.specs.Body as spec
use Rattle.kahn_plain.proofs.equations.reach.Given as goal

abbrev pub invariant-loop-arm : goal.invariant-loop-arm
invariant-loop-arm l = spec.reach l.body (drop l.arm-index l.inner) l.i ≡ spec.reach l.body l.inner l.i
