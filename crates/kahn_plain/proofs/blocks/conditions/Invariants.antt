use Rattle.std.proofs.Common.{◌≡◌, ◌++◌, drop}
use Rattle.kahn_plain.specs.Equations as own
use Rattle.kahn_plain.proofs.blocks.conditions.Given as goal

abbrev pub invariant-loop-g : goal.invariant-loop-g
invariant-loop-g g l = l.done ++ own.conditions l.body (drop l.g-index l.all) ≡ own.conditions l.body l.all
