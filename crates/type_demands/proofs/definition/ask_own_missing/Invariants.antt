use Rattle.std.proofs.Common.{◌≡◌, ◌++◌, drop}
use Rattle.type_demands.specs.Walks as spec
use Rattle.type_demands.proofs.definition.ask_own_missing.Given as goal

abbrev pub invariant-loop-named : goal.invariant-loop-named
invariant-loop-named g l =
    l.out ++ spec.own_missing g.C.CaseTypes.case_type l.given l.at (drop l.named-index l.names) ≡ l.initial.out ++ spec.own_missing g.C.CaseTypes.case_type l.given l.k l.names
