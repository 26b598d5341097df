use Rattle.std.proofs.Common.{◌≡◌, ◌+◌, ◌++◌, ◌∷◌, [], map, drop, take, length}
use Rattle.ls_scope.specs.Marks as marks
use Rattle.ls_scope.proofs.marks.marks_of.Given as goal

abbrev pub invariant-loop-pat : goal.invariant-loop-pat
invariant-loop-pat l = l.done ++ marks.marks_from l.marks (drop l.pat-index l.params) (length l.names) ≡ marks.marks_from l.marks l.params 0
