use Rattle.std.proofs.Common.{◌≡◌, ◌++◌, ◌+◌, ◌-◌, map}
use Rattle.ls_places.specs.Search.{count_up}
use Rattle.causality.specs.Made as made
use Rattle.causality.proofs.nodes.add_made.Given as goal

abbrev pub invariant-loop-i : goal.invariant-loop-i
invariant-loop-i l = l.out ++ map (made.node_of l.kind) (count_up (l.many - l.i) (l.first + l.i)) ≡ l.initial.out ++ map (made.node_of l.kind) (count_up l.many l.first)
