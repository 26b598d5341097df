use Rattle.std.proofs.Common.{◌≡◌, ◌++◌, drop, map}
use Rattle.kahn_exprs.specs.Instance as own
use Rattle.kahn_exprs.proofs.instance.+met.Given as goal

abbrev pub invariant-add_all_met-loop-ck : goal.invariant-add_all_met-loop-ck
invariant-add_all_met-loop-ck l =
    (l.j ≡ l.ck-index)
    × (l.done ++ own.rows_met l.body (own.pairs_all (map own.pairs (drop l.ck-index l.signature)) (drop l.ck-index l.all))
    ≡ l.initial.done ++ own.rows_met l.body (own.pairs_all (map own.pairs l.signature) l.all))
