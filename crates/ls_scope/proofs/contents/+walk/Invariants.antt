use Rattle.std.proofs.Common.{◌≡◌, ◌+◌, ◌++◌, ◌∷◌, [], map, drop, take, length}
use Rattle.scope_rules.specs.Places as spec
use Rattle.ls_scope.specs.Told.{built}
use Rattle.ls_scope.proofs.contents.+walk.Given as goal

abbrev pub invariant-walk_all-loop-eq : goal.invariant-walk_all-loop-eq
invariant-walk_all-loop-eq g l = spec.walk_all g.row.N.Denot (map (spec.walk_of g.row.N.Denot) (drop l.eq-index l.all)) l.w (built l.found) ≡ spec.walk_all g.row.N.Denot (map (spec.walk_of g.row.N.Denot) l.all) l.w (built l.initial.found)

abbrev pub invariant-walk_arms-loop-j : goal.invariant-walk_arms-loop-j
invariant-walk_arms-loop-j g l = spec.arms_from g.row.N.Denot l.m l.j (spec.arm_walks g.row.N.Denot (map (spec.arm_of g.row.N.Denot) (drop l.j l.all))) l.w (built l.found) ≡ spec.arms_from g.row.N.Denot l.m 0 (spec.arm_walks g.row.N.Denot (map (spec.arm_of g.row.N.Denot) l.all)) l.w (built l.initial.found)

abbrev pub invariant-walk_tests-loop-j : goal.invariant-walk_tests-loop-j
invariant-walk_tests-loop-j g l = spec.arms_from g.row.N.Denot l.m l.j (spec.test_walks g.row.N.Denot (map (spec.test_of g.row.N.Denot) (drop l.j l.all))) l.w (built l.found) ≡ spec.arms_from g.row.N.Denot l.m 0 (spec.test_walks g.row.N.Denot (map (spec.test_of g.row.N.Denot) l.all)) l.w (built l.initial.found)

abbrev pub invariant-walk_states-loop-j : goal.invariant-walk_states-loop-j
invariant-walk_states-loop-j g l = spec.arms_from g.row.N.Denot l.m l.j (spec.state_walks g.row.N.Denot (map (spec.state_of g.row.N.Denot) (drop l.j l.all))) l.w (built l.found) ≡ spec.arms_from g.row.N.Denot l.m 0 (spec.state_walks g.row.N.Denot (map (spec.state_of g.row.N.Denot) l.all)) l.w (built l.initial.found)

abbrev pub invariant-walk_guards-loop-guard : goal.invariant-walk_guards-loop-guard
invariant-walk_guards-loop-guard g l = spec.walk_guards g.row.N.Denot (map (spec.guard_of g.row.N.Denot) (drop l.guard-index l.all)) l.m l.j l.w (built l.found) ≡ spec.walk_guards g.row.N.Denot (map (spec.guard_of g.row.N.Denot) l.all) l.m l.j l.w (built l.initial.found)
