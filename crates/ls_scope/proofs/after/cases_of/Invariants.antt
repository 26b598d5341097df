use Rattle.std.proofs.Common.{◌≡◌, ◌+◌, ◌++◌, ◌∷◌, [], map, drop, take, length}
use Rattle.scope_rules.specs.After as spec
use Rattle.ls_base.specs.declared.Name.{Name}
use Rattle.ls_scope.proofs.after.cases_of.Given as goal

abbrev pub invariant-loop-case : goal.invariant-loop-case
invariant-loop-case l = l.done ≡ map (λ (c : Name). spec.renumbered l.names l.theirs c.0) (take l.case-index l.cases)
