use Rattle.std.proofs.Common.{◌≡◌, drop}
use Rattle.type_demands.specs.Walks as spec
use Rattle.type_demands.proofs.bodies.+ask_equation.Given as goal

abbrev pub invariant-ask_equations-loop-eq : goal.invariant-ask_equations-loop-eq
invariant-ask_equations-loop-eq g l =
    spec.all (spec.equations g.C.CaseTypes.case_type l.given (drop l.eq-index l.all)) l.w l.asking ≡ spec.all (spec.equations g.C.CaseTypes.case_type l.given l.all) l.w l.initial.asking

abbrev pub invariant-ask_arms-loop-j : goal.invariant-ask_arms-loop-j
invariant-ask_arms-loop-j g l =
    spec.arms_from l.m l.j (spec.arms g.C.CaseTypes.case_type l.given (drop l.j l.all)) l.w l.asking ≡ spec.arms_from l.m 0 (spec.arms g.C.CaseTypes.case_type l.given l.all) l.w l.initial.asking

abbrev pub invariant-ask_tests-loop-j : goal.invariant-ask_tests-loop-j
invariant-ask_tests-loop-j g l =
    spec.arms_from l.m l.j (spec.tests g.C.CaseTypes.case_type l.given (drop l.j l.all)) l.w l.asking ≡ spec.arms_from l.m 0 (spec.tests g.C.CaseTypes.case_type l.given l.all) l.w l.initial.asking

abbrev pub invariant-ask_states-loop-j : goal.invariant-ask_states-loop-j
invariant-ask_states-loop-j g l =
    spec.arms_from l.m l.j (spec.states g.C.CaseTypes.case_type l.given (drop l.j l.all)) l.w l.asking ≡ spec.arms_from l.m 0 (spec.states g.C.CaseTypes.case_type l.given l.all) l.w l.initial.asking

abbrev pub invariant-ask_guards-loop-guard : goal.invariant-ask_guards-loop-guard
invariant-ask_guards-loop-guard g l =
    spec.all_guards (spec.guards g.C.CaseTypes.case_type l.given (drop l.guard-index l.all)) l.m l.j l.w l.asking ≡ spec.all_guards (spec.guards g.C.CaseTypes.case_type l.given l.all) l.m l.j l.w l.initial.asking
