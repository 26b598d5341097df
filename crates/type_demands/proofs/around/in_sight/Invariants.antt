use Rattle.std.proofs.Common.{◌≡◌}
use Rattle.type_demands.proofs.Sight.{best}
use Rattle.type_demands.proofs.around.in_sight.Given as goal

abbrev pub invariant-loop-end : goal.invariant-loop-end
invariant-loop-end g l = l.first ≡ best l.x l.here l.end l.given.vars.now 0
