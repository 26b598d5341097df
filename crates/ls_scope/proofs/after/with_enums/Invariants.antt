use Rattle.std.proofs.Common.{◌≡◌, ◌+◌, ◌++◌, ◌∷◌, [], map, drop, take, length}
use Rattle.scope_rules.specs.After as spec
use Rattle.ls_scope.proofs.after.with_enums.Given as goal

abbrev pub invariant-loop-e : goal.invariant-loop-e
invariant-loop-e l = l.known ≡ record { enums = map (spec.enum_as (spec.renumbered l.names l.theirs)) (take l.e-index l.enums); defs = [] }
