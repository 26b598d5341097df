use Rattle.std.proofs.Common.{◌≡◌, ◌+◌, ◌++◌, ◌∷◌, [], map, drop, take, length}
use Rattle.scope_rules.specs.Faults as spec
use Rattle.ls_scope.specs.Keys.{key_of}
use Rattle.ls_scope.specs.Starts.{with_keys}
use Rattle.ls_scope.proofs.unbound.Equations.new.Given as goal

abbrev pub invariant-loop-s : goal.invariant-loop-s
invariant-loop-s l = with_keys l.keys (map key_of (spec.equation_sites (drop l.s-index l.sites))) ≡ with_keys [] (map key_of (spec.equation_sites l.sites))
