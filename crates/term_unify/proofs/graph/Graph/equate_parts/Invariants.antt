use Rattle.std.proofs.Common.{◌≡◌, ◌++◌}
use Rattle.term_unify.specs.Graph.{pair_up}
use Rattle.term_unify.proofs.graph.Graph.equate_parts.Given as goal

abbrev pub invariant-loop-at : goal.invariant-loop-at
invariant-loop-at g l = l.pending.items ≡ l.initial.pending.items ++ pair_up l.m l.n l.at
