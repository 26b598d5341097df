use Rattle.std.proofs.Common.{◌≡◌, ◌+◌, ◌++◌, ◌∷◌, [], map, drop, take, length}
use Rattle.scope_rules.specs.After as spec
use Rattle.ls_scope.proofs.after.known_after.Given as goal

abbrev pub invariant-loop-sig : goal.invariant-loop-sig
invariant-loop-sig l = l.known ≡ record { enums = map (spec.enum_as (spec.renumbered l.names l.env.names)) l.env.enums; defs = map (spec.earlier_of (spec.renumbered l.names l.env.names)) (take l.sig-index l.env.sigs) }
