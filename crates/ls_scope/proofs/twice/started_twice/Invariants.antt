use Rattle.std.proofs.Common.{◌≡◌, ◌+◌, ◌++◌, ◌∷◌, [], map, drop, take, length}
use Rattle.scope_rules.specs.Faults as spec
use Rattle.std.proofs.Common.{false}
use Rattle.ls_scope.specs.Starts.{start_key}
use Rattle.ls_scope.proofs.twice.started_twice.Given as goal

abbrev pub invariant-loop-s : goal.invariant-loop-s
invariant-loop-s l = (spec.any_two spec.same_start (take l.s-index l.starts) ≡ false) × (l.seen ≡ map start_key (take l.s-index l.starts))
