use Rattle.std.proofs.Common.{◌≡◌, ◌++◌, drop}
use Rattle.type_demands.specs.Walks as spec
use Rattle.type_demands.proofs.definition.add_own.Given as goal

abbrev pub invariant-loop-named : goal.invariant-loop-named
invariant-loop-named g l =
    l.list ++ spec.own_parts g.C.CaseTypes.case_type l.given l.at (drop l.named-index l.names) ≡ l.initial.list ++ spec.own_parts g.C.CaseTypes.case_type l.given l.k l.names
