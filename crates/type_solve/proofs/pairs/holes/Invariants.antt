use Rattle.std.proofs.Common.{◌≡◌, take, map}
use Rattle.type_rules.specs.Demands as spec
use Rattle.type_solve.proofs.pairs.holes.Given as goal

abbrev pub invariant-loop-place : goal.invariant-loop-place
invariant-loop-place l = l.list ≡ map (spec.hole l.own) (take l.place-index l.places)
