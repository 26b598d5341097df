use Rattle.std.proofs.Common.{◌≡◌, ◌+◌, ◌++◌, ◌∷◌, [], map, drop, take, length}
use Rattle.scope_rules.specs.Faults as spec
use Rattle.ls_scope.specs.Sight.{sight_of}
use Rattle.ls_scope.proofs.mixed.signals_of.Given as goal

abbrev pub invariant-loop-v : goal.invariant-loop-v
invariant-loop-v l = l.done ≡ map (spec.is_signal (sight_of l.sight)) (take l.v-index l.sight.vars.now)
