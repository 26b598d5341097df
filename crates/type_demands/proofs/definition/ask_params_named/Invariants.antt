use Rattle.std.proofs.Common.{◌≡◌, ◌++◌, drop}
use Rattle.type_demands.specs.Walks as spec
use Rattle.type_demands.proofs.definition.ask_params_named.Given as goal

abbrev pub invariant-loop-k : goal.invariant-loop-k
invariant-loop-k g l =
    l.out ++ spec.params_named g.C.CaseTypes.case_type l.given (drop l.k l.given.params.now) l.k ≡ l.initial.out ++ spec.params_named g.C.CaseTypes.case_type l.given l.given.params.now 0
