use Rattle.std.proofs.Common.{◌≡◌, ◌++◌, drop}
use Rattle.kahn_plain.specs.Equations as own
use Rattle.kahn_plain.proofs.blocks.guards.Given as goal

abbrev pub invariant-loop-s : goal.invariant-loop-s
invariant-loop-s g l = l.done ++ own.guards l.body (drop l.s-index l.states) ≡ own.guards l.body l.states
