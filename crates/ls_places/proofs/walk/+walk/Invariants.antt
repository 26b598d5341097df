use Rattle.std.proofs.Common.{◌≡◌, ◌++◌, drop, map}
use Rattle.ls_places.specs.Built.{built}
use Rattle.ls_places.specs.Places as spec
use Rattle.ls_places.proofs.walk.+walk.Given as goal

abbrev pub invariant-walk_all-loop-eq : goal.invariant-walk_all-loop-eq
invariant-walk_all-loop-eq g l =
    let walk = spec.walk_of g.row.N.Denot l.given.first (g.C.CasePlaces.place l.given.cases.now) (g.S.Signals.signal l.given.signals.now) in
    spec.walk_all g.row.N.Denot (map walk (drop l.eq-index l.all)) l.w (built l.found) ≡ spec.walk_all g.row.N.Denot (map walk l.all) l.w (built l.initial.found)

abbrev pub invariant-walk_arms-loop-j : goal.invariant-walk_arms-loop-j
invariant-walk_arms-loop-j g l =
    let one = spec.arm_of g.row.N.Denot l.given.first (g.C.CasePlaces.place l.given.cases.now) (g.S.Signals.signal l.given.signals.now) in
    spec.arms_from g.row.N.Denot l.m l.j (spec.arm_walks g.row.N.Denot (map one (drop l.j l.all))) l.w (built l.found)
    ≡ spec.arms_from g.row.N.Denot l.m 0 (spec.arm_walks g.row.N.Denot (map one l.all)) l.w (built l.initial.found)

abbrev pub invariant-walk_tests-loop-j : goal.invariant-walk_tests-loop-j
invariant-walk_tests-loop-j g l =
    let one = spec.test_of g.row.N.Denot l.given.first (g.C.CasePlaces.place l.given.cases.now) (g.S.Signals.signal l.given.signals.now) in
    spec.arms_from g.row.N.Denot l.m l.j (spec.test_walks g.row.N.Denot (map one (drop l.j l.all))) l.w (built l.found)
    ≡ spec.arms_from g.row.N.Denot l.m 0 (spec.test_walks g.row.N.Denot (map one l.all)) l.w (built l.initial.found)

abbrev pub invariant-walk_states-loop-j : goal.invariant-walk_states-loop-j
invariant-walk_states-loop-j g l =
    let one = spec.state_of g.row.N.Denot l.given.first (g.C.CasePlaces.place l.given.cases.now) (g.S.Signals.signal l.given.signals.now) in
    (spec.arms_from g.row.N.Denot l.m l.j (spec.state_walks g.row.N.Denot (map one (drop l.j l.all))) l.w (built l.found)
    ≡ spec.arms_from g.row.N.Denot l.m 0 (spec.state_walks g.row.N.Denot (map one l.all)) l.w (built l.initial.found))
    × ((l.strong ++ spec.strongs_from g.row.N.Denot l.m l.j (map one (drop l.j l.all)) l.w (built l.found)
    ≡ spec.strongs_from g.row.N.Denot l.m 0 (map one l.all) l.w (built l.initial.found))
    × (l.weak ++ spec.weaks_from g.row.N.Denot l.m l.j (map one (drop l.j l.all)) l.w (built l.found)
    ≡ spec.weaks_from g.row.N.Denot l.m 0 (map one l.all) l.w (built l.initial.found)))

abbrev pub invariant-walk_guards-loop-guard : goal.invariant-walk_guards-loop-guard
invariant-walk_guards-loop-guard g l =
    let one = spec.guard_of g.row.N.Denot l.given.first (g.C.CasePlaces.place l.given.cases.now) (g.S.Signals.signal l.given.signals.now) in
    (spec.walk_guards g.row.N.Denot (map one (drop l.guard-index l.all)) l.m l.j l.w (built l.found) ≡ spec.walk_guards g.row.N.Denot (map one l.all) l.m l.j l.w (built l.initial.found))
    × (l.done ++ spec.transitions g.row.N.Denot (map one (drop l.guard-index l.all)) l.m l.j l.w (built l.found) ≡ spec.transitions g.row.N.Denot (map one l.all) l.m l.j l.w (built l.initial.found))
