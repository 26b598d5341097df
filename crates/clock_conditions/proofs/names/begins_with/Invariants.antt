use Rattle.std.proofs.Common.{◌≡◌, drop}
use Rattle.ls_places.specs.Search.{starts_with}
use Rattle.clock_conditions.proofs.names.begins_with.Given as goal

abbrev pub invariant-loop-at : goal.invariant-loop-at
invariant-loop-at l =
    starts_with (drop l.at l.arms) (drop l.at l.with) ≡ starts_with l.arms l.with
