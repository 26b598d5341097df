use Rattle.std.proofs.Common.{◌≡◌, ◌+◌, drop}
use Rattle.type_rules.specs.Demands as spec
use Rattle.type_solve.proofs.pairs.widths.Given as goal

abbrev pub invariant-loop-demand : goal.invariant-loop-demand
invariant-loop-demand l = l.total + spec.widths (drop l.demand-index l.demands) ≡ spec.widths l.demands
