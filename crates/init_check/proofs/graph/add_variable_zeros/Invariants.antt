use Rattle.std.proofs.Common.{◌≡◌, ◌++◌, ◌-◌, length, map}
use Rattle.init_check.specs.Rows as own
use Rattle.ls_places.specs.Patterns.{joined}
use Rattle.ls_places.specs.Search.{count_up}
use Rattle.init_check.proofs.graph.add_variable_zeros.Given as goal

abbrev pub invariant-loop-k : goal.invariant-loop-k
invariant-loop-k l = l.out ++ joined (map (own.variable_zero_nodes l.d) (count_up (length l.d.places.vars - l.k) l.k)) ≡ l.initial.out ++ joined (map (own.variable_zero_nodes l.d) (count_up (length l.d.places.vars) 0))
