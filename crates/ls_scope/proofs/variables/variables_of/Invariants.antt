use Rattle.std.proofs.Common.{◌≡◌, ◌+◌, ◌++◌, ◌∷◌, [], map, drop, take, length}
use Rattle.scope_rules.specs.Faults as spec
use Rattle.ls_scope.specs.Keys.{key_of}
use Rattle.ls_scope.proofs.variables.variables_of.Given as goal

abbrev pub invariant-loop-s : goal.invariant-loop-s
invariant-loop-s l = (l.keys ≡ map key_of l.list) × (spec.first_sites l.list (drop l.s-index l.sites) ≡ spec.variables l.sites)
