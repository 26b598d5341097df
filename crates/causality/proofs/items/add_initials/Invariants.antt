use Rattle.std.proofs.Common.{◌≡◌, ◌++◌, ◌-◌, length, map}
use Rattle.ls_places.specs.Patterns.{joined}
use Rattle.ls_places.specs.Search.{count_up}
use Rattle.causality.specs.Items as spec
use Rattle.causality.proofs.items.add_initials.Given as goal

abbrev pub invariant-loop-k : goal.invariant-loop-k
invariant-loop-k l = l.out ++ joined (map (spec.initial_row_at l.d) (count_up (length l.d.places.vars - l.k) l.k)) ≡ l.initial.out ++ spec.initial_rows l.d
