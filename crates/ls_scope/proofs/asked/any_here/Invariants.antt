use Rattle.std.proofs.Common.{◌≡◌, ◌+◌, ◌++◌, ◌∷◌, [], map, drop, take, length}
use Rattle.std.specs.List.{list_any, list_all}
use Rattle.ls_scope.proofs.asked.any_here.Given as goal

abbrev pub invariant-loop-claim : goal.invariant-loop-claim
invariant-loop-claim g l = list_any (g.F.ClaimFault.fault l.by l.place) (drop l.claim-index l.all) ≡ list_any (g.F.ClaimFault.fault l.by l.place) l.all
