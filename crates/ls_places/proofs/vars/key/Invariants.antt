use Rattle.std.proofs.Common.{◌≡◌, ◌++◌, drop}
use Rattle.ls_places.specs.Keys as keys
use Rattle.ls_places.proofs.vars.key.Given as goal

abbrev pub invariant-loop-arm : goal.invariant-loop-arm
invariant-loop-arm l = l.key.items ++ keys.flat (drop l.arm-index l.list) ≡ keys.key l.x l.list
