use Rattle.std.proofs.Common.{◌≡◌, ◌+◌, ◌++◌, ◌∷◌, [], map, drop, take, length}
use Rattle.ls_scope.specs.Arms as arms
use Rattle.ls_scope.proofs.arms.set_of.Given as goal

abbrev pub invariant-loop-case : goal.invariant-loop-case
invariant-loop-case l = arms.HasJust (take l.case-index l.cases) l.set
