use Rattle.std.proofs.Common.{length}
use Rattle.ls_scope.proofs.mixed.+same_place.Given as goal

abbrev pub decreases-same_place : goal.decreases-same_place
decreases-same_place l = length l.p.now
