use Rattle.std.proofs.Common.{◌≡◌, drop}
use Rattle.kahn_plain.specs.Equations as own
use Rattle.kahn_plain.proofs.blocks.by_guards.Given as goal

abbrev pub invariant-loop-g : goal.invariant-loop-g
invariant-loop-g l = own.by_guards l.states (own.in_state l.none.0 l.none.1) (drop l.g-index l.all) l.rest l.i ≡ own.by_guards l.states (own.in_state l.none.0 l.none.1) l.all l.conditions l.i
