use Rattle.kahn_plain.specs.Turns as own
use Rattle.kahn_plain.proofs.turns.renew_kind.Given as goal

abbrev pub invariant-loop-k : goal.invariant-loop-k
invariant-loop-k g l = own.Renewed l.body (own.OfKind l.kind l.from l.k) l.initial.rows l.more l.rows
