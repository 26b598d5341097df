use Rattle.std.proofs.Common.{◌≡◌, ◌++◌, drop}
use Rattle.type_rules.specs.Demands as spec
use Rattle.type_solve.proofs.pairs.all_pairs.Given as goal

abbrev pub invariant-loop-demand : goal.invariant-loop-demand
invariant-loop-demand l = l.list ++ spec.pairs_from l.own l.first (drop l.demand-index l.demands) ≡ spec.pairs_from l.own 0 l.demands
