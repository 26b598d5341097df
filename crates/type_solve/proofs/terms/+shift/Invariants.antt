use Rattle.std.proofs.Common.{◌≡◌, take, map}
use Rattle.type_rules.specs.Demands.{shifted}
use Rattle.type_solve.proofs.terms.+shift.Given as goal

abbrev pub invariant-shift_all-loop-t : goal.invariant-shift_all-loop-t
invariant-shift_all-loop-t l = l.done ≡ map (shifted l.first) (take l.t-index l.all)
