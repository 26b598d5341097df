use Rattle.std.proofs.Common.{◌≡◌, map, take}
use Rattle.term_unify.specs.Terms.{first}
use Rattle.ls_terms.specs.Types as spec
use Rattle.ls_terms.proofs.types.+put.Given as goal

abbrev pub invariant-put_all-loop-t : goal.invariant-put_all-loop-t
invariant-put_all-loop-t l = l.done ≡ map (spec.apply (first l.by.list)) (take l.t-index l.all)
