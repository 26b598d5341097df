use Rattle.std.specs.Prelude.{OnOk}
use Rattle.std.proofs.Common.{◌≡◌, sym, subst}
use Rattle.ls_scope.proofs.Equations.{reset_is, match_is, present_is, automaton_is, guarded}
use Rattle.ls_scope.specs.Told.{built}
use Rattle.scope_rules.specs.Places as spec
use Rattle.ls_scope.proofs.contents.+walk.Goals as goal

pub walk_guards-loop-guard-preserved : goal.walk_guards-loop-guard-preserved
walk_guards-loop-guard-preserved g t c =
    guarded g.row.N.Denot (spec.guard_of g.row.N.Denot) c.args.all.now c.loop-guard.guard-index c.guard-item.result c.args.m c.args.j c.args.w.now (built c.loop-guard.found) (built c.walk_guard.new.found) _
    c.loop-guard-test.true (sym c.guard-item.is) c.loop-guard.invariant c.in_ok-walk_guard.ensures

pub walk_equation-returns-in_ok-read-in-Reset : goal.walk_equation-returns-in_ok-read-in-Reset
walk_equation-returns-in_ok-read-in-Reset g t c =
    subst (λ z. OnOk c.walk_all.result (built c.walk_all.new.found ≡ z))
    (reset_is g.row.N.Denot c.args.eq.now c.in-Reset.eqs c.as_slice.result.now c.in-Reset.e c.args.w.now (built c.args.found.now) (built c.read-in-Reset.new.found)
    c.in-Reset.is c.as_slice.ensures.value c.in_ok-read-in-Reset.ensures) c.walk_all.ensures

pub walk_equation-returns-in_ok-m-in-Match : goal.walk_equation-returns-in_ok-m-in-Match
walk_equation-returns-in_ok-m-in-Match g t c =
    subst (λ z. OnOk c.walk_arms.result (built c.walk_arms.new.found ≡ z))
    (match_is g.row.N.Denot c.args.eq.now c.in-Match.e c.in-Match.arms c.as_slice-in-Match.result.now c.as_slice-in-Match-2.result.now c.in_ok-m-in-Match.m c.args.w.now (built c.args.found.now) (built c.open_match.new.found)
    c.in-Match.is c.as_slice-in-Match.ensures.value c.as_slice-in-Match-2.ensures.value c.in_ok-m-in-Match.ensures.number c.in_ok-m-in-Match.ensures.found) c.walk_arms.ensures

pub walk_equation-returns-in_ok-walk_tests-in-Present : goal.walk_equation-returns-in_ok-walk_tests-in-Present
walk_equation-returns-in_ok-walk_tests-in-Present g t c =
    subst (λ z. OnOk c.walk_other.result (built c.walk_other.new.found ≡ z))
    (present_is g.row.N.Denot c.args.eq.now c.in-Present.tests c.as_slice-in-Present.result.now c.as_slice-in-Present-2.result.now c.in-Present.other c.in_ok-m-in-Present.m c.len.result c.args.w.now (built c.args.found.now)
    (built c.read_tests.new.found) (built c.count_names.new.found) (built c.walk_tests.new.found) c.in-Present.is c.as_slice-in-Present.ensures.value c.as_slice-in-Present-2.ensures.value c.len.ensures.value
    c.in_ok-read_tests-in-Present.ensures c.in_ok-m-in-Present.ensures.number c.in_ok-m-in-Present.ensures.found c.in_ok-walk_tests-in-Present.ensures) c.walk_other.ensures

pub walk_equation-returns-in_ok-m-in-Automaton : goal.walk_equation-returns-in_ok-m-in-Automaton
walk_equation-returns-in_ok-m-in-Automaton g t c =
    subst (λ z. OnOk c.walk_states.result (built c.walk_states.new.found ≡ z))
    (automaton_is g.row.N.Denot c.args.eq.now c.in-Automaton.states c.as_slice-in-Automaton.result.now c.as_slice-in-Automaton-2.result.now c.in_ok-m-in-Automaton.m c.args.w.now (built c.args.found.now) (built c.open_automaton.new.found)
    c.in-Automaton.is c.as_slice-in-Automaton.ensures.value c.as_slice-in-Automaton-2.ensures.value c.in_ok-m-in-Automaton.ensures.number c.in_ok-m-in-Automaton.ensures.found) c.walk_states.ensures
