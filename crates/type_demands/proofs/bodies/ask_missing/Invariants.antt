use Rattle.std.proofs.Common.{◌≡◌, ◌++◌, drop}
use Rattle.type_demands.specs.Walks as spec
use Rattle.type_rules.specs.Bodies as bodies
use Rattle.type_demands.proofs.bodies.ask_missing.Given as goal

abbrev pub invariant-loop-named : goal.invariant-loop-named
invariant-loop-named g l =
    l.out ++ bodies.missing (spec.bound_at g.C.CaseTypes.case_type l.given l.w) (drop l.named-index l.names) ≡ l.initial.out ++ bodies.missing (spec.bound_at g.C.CaseTypes.case_type l.given l.w) l.names
