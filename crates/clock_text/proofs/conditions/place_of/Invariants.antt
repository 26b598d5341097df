use Rattle.std.proofs.Common.{◌≡◌, drop}
use Rattle.clock_text.specs.Texts as spec
use Rattle.clock_text.proofs.conditions.place_of.Given as goal

abbrev pub invariant-loop-at : goal.invariant-loop-at
invariant-loop-at l = spec.place_of l.m (drop l.at l.list) l.at ≡ spec.place_of l.m l.list 0
