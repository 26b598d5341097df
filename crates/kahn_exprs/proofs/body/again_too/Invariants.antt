use Rattle.std.proofs.Common.{◌≡◌, drop}
use Rattle.kahn_exprs.specs.Body as spec
use Rattle.kahn_exprs.proofs.body.again_too.Given as goal

abbrev pub invariant-loop-x : goal.invariant-loop-x
invariant-loop-x l = spec.too_now l.body l.so_far (drop l.x-index l.all) l.i ≡ spec.too_now l.body l.initial.so_far l.all l.i
