use Rattle.std.specs.Prelude.{OnOk}
use Rattle.std.proofs.Common.{◌≡◌, sym, subst}
use Rattle.ls_places.proofs.Equations.{match_is, present_is}
use Rattle.ls_places.proofs.Layers.{name_is}
use Rattle.ls_places.proofs.Turns.{guarded, transited, stated, strong_stated, weak_stated}
use Rattle.ls_places.specs.Built.{built}
use Rattle.ls_places.specs.Places as spec
use Rattle.ls_places.proofs.walk.+walk.Goals as goal

pub walk_guards-loop-guard-preserved : goal.walk_guards-loop-guard-preserved
walk_guards-loop-guard-preserved g t c =
    let one = spec.guard_of g.row.N.Denot c.args.given.now.first (g.C.CasePlaces.place c.args.given.now.cases.now) (g.S.Signals.signal c.args.given.now.signals.now) in (
      guarded g.row.N.Denot one c.args.all.now c.loop-guard.guard-index c.guard-item.result c.args.m c.args.j c.args.w.now (built c.loop-guard.found) (built c.walk_guard.new.found) _
          c.loop-guard-test.true (sym c.guard-item.is) c.loop-guard.invariant.0 c.in_ok-walk_guard.ensures.found,
      transited g.row.N.Denot one c.args.all.now c.loop-guard.guard-index c.guard-item.result c.args.m c.args.j c.args.w.now (built c.loop-guard.found) (built c.walk_guard.new.found)
          c.loop-guard.done c.push.new.self _ c.in_ok-walk_guard.field-0 c.loop-guard-test.true (sym c.guard-item.is) c.loop-guard.invariant.1 c.in_ok-walk_guard.ensures.found
          c.in_ok-walk_guard.ensures.transition c.in_ok-push.ensures.ok,
    )

pub walk_states-loop-j-preserved : goal.walk_states-loop-j-preserved
walk_states-loop-j-preserved g t c =
    let one = spec.state_of g.row.N.Denot c.args.given.now.first (g.C.CasePlaces.place c.args.given.now.cases.now) (g.S.Signals.signal c.args.given.now.signals.now) in
    let name = name_is g.row.N.Denot c.args.given.now.first (g.C.CasePlaces.place c.args.given.now.cases.now) (g.S.Signals.signal c.args.given.now.signals.now) c.index-all-j.result in (
      stated g.row.N.Denot one c.args.all.now c.loop-j.j c.index-all-j.result c.args.m c.args.w.now (built c.loop-j.found) (built c.walk_state.new.found) _
          c.loop-j-test.true (sym c.index-all-j.is) c.loop-j.invariant.0 c.in_ok-guards.ensures.found,
      (
        strong_stated g.row.N.Denot one c.args.all.now c.loop-j.j c.index-all-j.result c.args.m c.args.w.now (built c.loop-j.found) (built c.walk_state.new.found)
            c.loop-j.strong c.push.new.self _ _ c.in_ok-guards.guards.0 c.loop-j-test.true (sym c.index-all-j.is) c.loop-j.invariant.1.0 c.in_ok-guards.ensures.found name c.in_ok-guards.ensures.strong c.in_ok-push.ensures.ok,
        weak_stated g.row.N.Denot one c.args.all.now c.loop-j.j c.index-all-j.result c.args.m c.args.w.now (built c.loop-j.found) (built c.walk_state.new.found)
            c.loop-j.weak c.push-in-loop-j.new.self _ _ c.in_ok-guards.guards.1 c.loop-j-test.true (sym c.index-all-j.is) c.loop-j.invariant.1.1 c.in_ok-guards.ensures.found name c.in_ok-guards.ensures.weak c.in_ok-push-2.ensures.ok,
      ),
    )

pub walk_equation-returns-in_ok-m-in-Match : goal.walk_equation-returns-in_ok-m-in-Match
walk_equation-returns-in_ok-m-in-Match g t c =
    subst (λ z. OnOk c.walk_arms.result (built c.walk_arms.new.found ≡ z))
    (match_is g.row.N.Denot c.args.given.now.first (g.C.CasePlaces.place c.args.given.now.cases.now) (g.S.Signals.signal c.args.given.now.signals.now) c.args.eq.now c.in-Match.e c.in-Match.arms c.as_slice-in-Match.result.now
    c.as_slice-in-Match-2.result.now c.in_ok-m-in-Match.m c.args.w.now (built c.args.found.now) (built c.open_match.new.found) c.in-Match.is c.as_slice-in-Match.ensures.value
    c.as_slice-in-Match-2.ensures.value c.in_ok-m-in-Match.ensures.number c.in_ok-m-in-Match.ensures.found) c.walk_arms.ensures

pub walk_equation-returns-in_ok-walk_tests-in-Present : goal.walk_equation-returns-in_ok-walk_tests-in-Present
walk_equation-returns-in_ok-walk_tests-in-Present g t c =
    subst (λ z. OnOk c.walk_other.result (built c.walk_other.new.found ≡ z))
    (present_is g.row.N.Denot c.args.given.now.first (g.C.CasePlaces.place c.args.given.now.cases.now) (g.S.Signals.signal c.args.given.now.signals.now) c.args.eq.now c.in-Present.tests c.as_slice-in-Present.result.now
    c.as_slice-in-Present-2.result.now c.in-Present.other c.in_ok-m-in-Present.m c.len.result c.args.w.now (built c.args.found.now) (built c.open_present.new.found) (built c.walk_tests.new.found) c.in-Present.is
    c.as_slice-in-Present.ensures.value c.as_slice-in-Present-2.ensures.value c.in_ok-m-in-Present.ensures.number c.len.ensures.value c.in_ok-m-in-Present.ensures.found c.in_ok-walk_tests-in-Present.ensures)
    c.walk_other.ensures
