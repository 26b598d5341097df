use Rattle.std.proofs.Common.{◌≡◌, ◌+◌, ◌++◌, ◌∷◌, [], map, drop, take, length}
use Rattle.scope_rules.specs.Faults as spec
use Rattle.ls_scope.proofs.asked.any_claim.Given as goal

abbrev pub invariant-loop-asked : goal.invariant-loop-asked
invariant-loop-asked g l = spec.any_claim (g.F.ClaimFault.fault l.by) (drop l.asked-index l.asks) ≡ spec.any_claim (g.F.ClaimFault.fault l.by) l.asks
