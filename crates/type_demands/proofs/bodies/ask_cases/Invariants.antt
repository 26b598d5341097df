use Rattle.std.proofs.Common.{◌≡◌, ◌++◌, drop}
use Rattle.type_demands.specs.Walks as spec
use Rattle.type_demands.proofs.bodies.ask_cases.Given as goal

abbrev pub invariant-loop-arm : goal.invariant-loop-arm
invariant-loop-arm g l =
    l.out ++ spec.cases_have g.C.CaseTypes.case_type l.given l.place (drop l.arm-index l.arms) ≡ l.initial.out ++ spec.cases_have g.C.CaseTypes.case_type l.given l.place l.arms
