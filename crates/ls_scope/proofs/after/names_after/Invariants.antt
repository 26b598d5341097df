use Rattle.std.proofs.Common.{◌≡◌, ◌+◌, ◌++◌, ◌∷◌, [], map, drop, take, length}
use Rattle.scope_rules.specs.After as spec
use Rattle.ls_scope.proofs.after.names_after.Given as goal

abbrev pub invariant-loop-k : goal.invariant-loop-k
invariant-loop-k l = spec.joint l.names (drop l.k l.theirs) ≡ spec.joint l.own l.theirs
