use Rattle.std.proofs.Common.{◌≡◌, ◌+◌, ◌++◌, ◌∷◌, [], map, drop, take, length}
use Rattle.std.specs.List.{list_any, list_all}
use Rattle.ls_scope.specs.Unbound as unbound
use Rattle.ls_scope.proofs.unbound.any_unbound_start.Given as goal

abbrev pub invariant-loop-s : goal.invariant-loop-s
invariant-loop-s l = list_any (unbound.unbound_start l.equations) (drop l.s-index l.starts) ≡ list_any (unbound.unbound_start l.equations) l.starts
