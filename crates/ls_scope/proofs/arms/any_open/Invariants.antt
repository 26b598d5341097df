use Rattle.std.proofs.Common.{◌≡◌, ◌+◌, ◌++◌, ◌∷◌, [], map, drop, take, length}
use Rattle.std.specs.List.{list_any, list_all}
use Rattle.ls_scope.specs.Arms as arms
use Rattle.ls_scope.proofs.arms.any_open.Given as goal

abbrev pub invariant-loop-arms : goal.invariant-loop-arms
invariant-loop-arms l = list_any (arms.open_arms l.names l.known) (drop l.arms-index l.all) ≡ list_any (arms.open_arms l.names l.known) l.all
