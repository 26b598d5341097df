use Rattle.std.proofs.Common.{◌≡◌, ◌+◌, ◌++◌, ◌∷◌, [], map, drop, take, length}
use Rattle.std.specs.List.{list_any, list_all}
use Rattle.ls_scope.specs.Mixed as mixed
use Rattle.ls_scope.specs.Sight.{sight_of}
use Rattle.ls_scope.proofs.mixed.any_mixed_site.Given as goal

abbrev pub invariant-loop-s : goal.invariant-loop-s
invariant-loop-s l = list_any (mixed.mixed_site (sight_of l.sight) l.signals) (drop l.s-index l.sites) ≡ list_any (mixed.mixed_site (sight_of l.sight) l.signals) l.sites
