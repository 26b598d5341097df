use Rattle.std.proofs.Common.{◌≡◌, ◌++◌, drop}
use Rattle.type_demands.specs.Walks as spec
use Rattle.type_demands.proofs.definition.ask_params.Given as goal

abbrev pub invariant-loop-at : goal.invariant-loop-at
invariant-loop-at g l =
    l.out ++ spec.params_ask g.C.CaseTypes.case_type l.given (drop l.at l.params) (drop l.at l.marks) (drop l.at l.notes) l.k ≡ l.initial.out ++ spec.params_ask g.C.CaseTypes.case_type l.given l.params l.marks l.notes 0
