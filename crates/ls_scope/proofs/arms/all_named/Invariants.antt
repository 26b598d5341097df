use Rattle.std.proofs.Common.{◌≡◌, ◌+◌, ◌++◌, ◌∷◌, [], map, drop, take, length}
use Rattle.std.specs.List.{list_any, list_all}
use Rattle.std.specs.Prelude.{is_some}
use Rattle.ls_scope.proofs.arms.all_named.Given as goal

abbrev pub invariant-loop-arm : goal.invariant-loop-arm
invariant-loop-arm l = list_all is_some (drop l.arm-index l.arms) ≡ list_all is_some l.arms
