use Rattle.std.proofs.Common.{◌≡◌, drop}
use Rattle.kahn_exprs.specs.Streams as own
use Rattle.kahn_exprs.proofs.streams.param.Given as goal

abbrev pub invariant-loop-p : goal.invariant-loop-p
invariant-loop-p l = own.param l.lines l.x (drop l.p-index l.params) l.rest ≡ own.param l.lines l.x l.params l.args
