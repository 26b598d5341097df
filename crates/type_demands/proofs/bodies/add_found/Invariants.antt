use Rattle.std.proofs.Common.{◌≡◌, ◌++◌, drop}
use Rattle.type_demands.specs.Walks as spec
use Rattle.type_rules.specs.Bodies as bodies
use Rattle.type_demands.proofs.bodies.add_found.Given as goal

abbrev pub invariant-loop-named : goal.invariant-loop-named
invariant-loop-named g l =
    l.list ++ bodies.found (spec.bound_at g.C.CaseTypes.case_type l.given l.w) (drop l.named-index l.names) ≡ l.initial.list ++ bodies.found (spec.bound_at g.C.CaseTypes.case_type l.given l.w) l.names
