use Rattle.std.proofs.Common.{◌≡◌, ◌+◌, ◌++◌, ◌∷◌, [], map, drop, take, length}
use Rattle.std.specs.List.{list_any, list_all}
use Rattle.ls_scope.specs.Mixed as mixed
use Rattle.ls_scope.proofs.mixed.any_mixed_start.Given as goal

abbrev pub invariant-loop-s : goal.invariant-loop-s
invariant-loop-s l = list_any (mixed.mixed_start l.vars l.signals) (drop l.s-index l.starts) ≡ list_any (mixed.mixed_start l.vars l.signals) l.starts
