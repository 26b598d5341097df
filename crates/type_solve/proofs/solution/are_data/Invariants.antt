use Rattle.std.proofs.Common.{◌≡◌, true}
use Rattle.term_unify.specs.Terms.{first}
use Rattle.type_solve.specs.Solution as spec
use Rattle.type_solve.proofs.solution.are_data.Given as goal

abbrev pub invariant-loop-x : goal.invariant-loop-x
invariant-loop-x l = spec.are_data l.x (first l.by.list) ≡ true
