use Rattle.std.proofs.Common.{◌≡◌, take, map}
use Rattle.causality.specs.Ranks as spec
use Rattle.causality.proofs.ranks.ranks.Given as goal

abbrev pub invariant-loop-row : goal.invariant-loop-row
invariant-loop-row l = l.done ≡ map (spec.ranked l.d l.at) (take l.row-index l.rows)
