use Rattle.std.proofs.Common.{◌≡◌, drop}
use Rattle.ls_places.specs.Search as search
use Rattle.kahn_exprs.proofs.memory.arms_within.Given as goal

abbrev pub invariant-loop-a : goal.invariant-loop-a
invariant-loop-a l = search.arms_within (drop l._a-index l.list) l.rest ≡ search.arms_within l.list l.p
