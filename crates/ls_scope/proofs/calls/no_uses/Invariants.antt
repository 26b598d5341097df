use Rattle.std.proofs.Common.{◌≡◌, ◌+◌, ◌++◌, ◌∷◌, [], map, drop, take, length}
use Rattle.ls_scope.specs.Answer as answer
use Rattle.ls_scope.proofs.calls.no_uses.Given as goal

abbrev pub invariant-loop-param : goal.invariant-loop-param
invariant-loop-param l = l.done ++ answer.no_uses (drop l._param-index l.params) ≡ answer.no_uses l.params
