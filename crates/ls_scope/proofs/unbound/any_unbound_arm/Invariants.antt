use Rattle.std.proofs.Common.{◌≡◌, ◌+◌, ◌++◌, ◌∷◌, [], map, drop, take, length}
use Rattle.std.specs.List.{list_any, list_all}
use Rattle.ls_scope.specs.Unbound as unbound
use Rattle.ls_scope.proofs.unbound.any_unbound_arm.Given as goal

abbrev pub invariant-loop-arms : goal.invariant-loop-arms
invariant-loop-arms l = list_any (unbound.unbound_arms l.names l.known) (drop l.arms-index l.all) ≡ list_any (unbound.unbound_arms l.names l.known) l.all
