use Rattle.std.proofs.Common.{◌≡◌, ◌++◌, take}
use Rattle.term_unify.specs.Graph.{nodes}
use Rattle.term_unify.proofs.graph.add_parts.Given as goal

abbrev pub invariant-loop-at : goal.invariant-loop-at
invariant-loop-at g l = nodes l.terms.items ≡ nodes l.initial.terms.items ++ take l.at (g.T.Term.kids l.term)
