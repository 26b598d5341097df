use Rattle.std.proofs.Common.{◌≡◌, drop}
use Rattle.kahn_exprs.specs.Body as spec
use Rattle.kahn_plain.proofs.blocks.first_emitted.Given as goal

abbrev pub invariant-loop-x : goal.invariant-loop-x
invariant-loop-x l = record { counted : l.j ≡ l.x-index; so_far : spec.first_emitted l.body (drop l.x-index l.all) l.place l.j l.i ≡ spec.first_emitted l.body l.all l.place 0 l.i }
