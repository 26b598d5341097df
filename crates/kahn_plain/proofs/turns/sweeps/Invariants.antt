use Rattle.std.specs.Prelude.{false}
use Rattle.kahn_plain.specs.Turns as own
use Rattle.kahn_plain.proofs.turns.sweeps.Given as goal

abbrev pub invariant-loop-t : goal.invariant-loop-t
invariant-loop-t g l = own.Swept l.body l._t l.initial.rows false l.rows
