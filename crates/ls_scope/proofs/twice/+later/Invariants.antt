use Rattle.std.proofs.Common.{length}
use Rattle.ls_scope.proofs.twice.+later.Given as goal

abbrev pub decreases-later : goal.decreases-later
decreases-later l = length l.p.now
