use Rattle.std.proofs.Common.{◌≡◌, ◌+◌, ◌++◌, ◌∷◌, [], map, drop, take, length}
use Rattle.std.specs.List.{list_any, list_all}
use Rattle.scope_rules.specs.Faults as spec
use Rattle.ls_scope.proofs.twice.hides_param.Given as goal

abbrev pub invariant-loop-s : goal.invariant-loop-s
invariant-loop-s l = list_any (λ s. spec.among l.params s.var) (drop l.s-index l.sites) ≡ list_any (λ s. spec.among l.params s.var) l.sites
