use Rattle.std.proofs.Common.{◌≡◌, ◌+◌, ◌++◌, ◌∷◌, [], map, drop, take, length}
use Rattle.scope_rules.specs.File as file
use Rattle.ls_scope.specs.Answer as answer
use Rattle.ls_scope.proofs.calls.resolve_all.Given as goal

abbrev pub invariant-loop-def : goal.invariant-loop-def
invariant-loop-def g l = (file.first_fault l.names l.known (drop l.def-index l.defs) ≡ file.first_fault l.names l.fn.before l.defs) × (l.done ++ answer.resolved_defs l.names l.known (drop l.def-index l.defs) ≡ answer.resolved_defs l.names l.fn.before l.defs)
