use Rattle.std.proofs.Common.{◌≡◌, ◌++◌, drop}
use Rattle.type_readings.specs.Readings as spec
use Rattle.type_rules.specs.Expressions as ex
use Rattle.type_readings.proofs.expressions.+ask.Given as goal

abbrev pub invariant-ask_streams-loop-e : goal.invariant-ask_streams-loop-e
invariant-ask_streams-loop-e g l =
    l.out ++ ex.streams (spec.readings g.C.CaseTypes.case_type l.given (drop l.e-index l.all)) ≡ l.initial.out ++ ex.streams (spec.readings g.C.CaseTypes.case_type l.given l.all)

abbrev pub invariant-ask_given-loop-at : goal.invariant-ask_given-loop-at
invariant-ask_given-loop-at g l =
    l.out ++ ex.given (drop l.at l.marks) (spec.readings g.C.CaseTypes.case_type l.given (drop l.at l.all)) ≡ l.initial.out ++ ex.given l.marks (spec.readings g.C.CaseTypes.case_type l.given l.all)

abbrev pub invariant-ask_applied-loop-e : goal.invariant-ask_applied-loop-e
invariant-ask_applied-loop-e g l =
    l.out ++ ex.applied (spec.readings g.C.CaseTypes.case_type l.given (drop l.e-index l.all)) ≡ l.initial.out ++ ex.applied (spec.readings g.C.CaseTypes.case_type l.given l.all)

abbrev pub invariant-ask_branches-loop-choice : goal.invariant-ask_branches-loop-choice
invariant-ask_branches-loop-choice g l =
    l.out ++ spec.branches g.C.CaseTypes.case_type l.given l.name (spec.choices g.C.CaseTypes.case_type l.given (drop l.choice-index l.all))
    ≡ l.initial.out ++ spec.branches g.C.CaseTypes.case_type l.given l.name (spec.choices g.C.CaseTypes.case_type l.given l.all)
