use Rattle.kahn_plain.specs.Turns.{Merged}
use Rattle.kahn_plain.proofs.turns.merge.Given as goal

abbrev pub invariant-loop-i : goal.invariant-loop-i
invariant-loop-i l = Merged l.key l.i l.cells l.initial.rows l.more l.rows
