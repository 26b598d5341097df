use Rattle.std.proofs.Common.{◌≡◌, drop, map, max}
use Rattle.type_rules.specs.Demands.{above}
use Rattle.type_rules.specs.Schemes.{vars, joined}
use Rattle.type_solve.proofs.terms.+above.Given as goal

abbrev pub invariant-above_all-loop-t : goal.invariant-above_all-loop-t
invariant-above_all-loop-t l = max l.most (above (joined (map vars (drop l.t-index l.all)))) ≡ above (joined (map vars l.all))
