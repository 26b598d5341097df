use Rattle.type_demands.proofs.Blocks.{clock_told, reset_told, match_told, present_told, automaton_told, guard_told, handler_told, state_told, ok_to, ok_map}
use Rattle.type_demands.proofs.bodies.+ask_equation.Goals as goal

pub ask_equation-returns-in_ok-name-in-Clock : goal.ask_equation-returns-in_ok-name-in-Clock
ask_equation-returns-in_ok-name-in-Clock g t c =
    clock_told g.C.CaseTypes.case_type c.args.given.now c.args.eq.now c.in-Clock.x c.in-Clock.e c.args.w.now c.args.asking.now c.name.new.asking c.ask_named.new.out c.in-Clock.is c.in_ok-ask_named-in-Clock.ensures c.in_ok-name-in-Clock.ensures.named

pub ask_equation-returns-in_ok-ask_bool-in-Reset : goal.ask_equation-returns-in_ok-ask_bool-in-Reset
ask_equation-returns-in_ok-ask_bool-in-Reset g t c =
    ok_to c.ask_equations.result c.ask_equations.new.asking _ _ c.ask_equations.ensures
    (reset_told g.C.CaseTypes.case_type c.args.given.now c.args.eq.now c.in-Reset.eqs c.as_slice.result.now c.in-Reset.e c.args.w.now c.args.asking.now c.ask_bool.new.out c.in-Reset.is c.as_slice.ensures.value c.in_ok-ask_bool-in-Reset.ensures)

pub ask_equation-returns-in_ok-m-in-Match : goal.ask_equation-returns-in_ok-m-in-Match
ask_equation-returns-in_ok-m-in-Match g t c =
    ok_to c.ask_arms.result c.ask_arms.new.asking _ _ c.ask_arms.ensures
    (match_told g.C.CaseTypes.case_type c.args.given.now c.args.eq.now c.in-Match.e c.in-Match.arms c.as_slice-in-Match.result.now c.as_slice-in-Match-2.result.now c.in_ok-m-in-Match.m c.args.w.now c.args.asking.now c.open_match.new.asking c.in-Match.is
    c.as_slice-in-Match.ensures.value c.as_slice-in-Match-2.ensures.value c.in_ok-m-in-Match.ensures.number c.in_ok-m-in-Match.ensures.opened)

pub ask_equation-returns-in_ok-ask_tests-in-Present : goal.ask_equation-returns-in_ok-ask_tests-in-Present
ask_equation-returns-in_ok-ask_tests-in-Present g t c =
    ok_to c.ask_other.result c.ask_other.new.asking _ _ c.ask_other.ensures
    (present_told g.C.CaseTypes.case_type c.args.given.now c.args.eq.now c.in-Present.tests c.as_slice-in-Present.result.now c.in-Present.other c.in_ok-m-in-Present.m c.len.result c.args.w.now c.args.asking.now c.name-in-Present.new.asking c.ask_tests.new.asking
    c.in-Present.is c.as_slice-in-Present.ensures.value c.in_ok-m-in-Present.ensures.number c.len.ensures.value c.in_ok-m-in-Present.ensures.named c.in_ok-ask_tests-in-Present.ensures)

pub ask_equation-returns-in_ok-m-in-Automaton : goal.ask_equation-returns-in_ok-m-in-Automaton
ask_equation-returns-in_ok-m-in-Automaton g t c =
    ok_to c.ask_states.result c.ask_states.new.asking _ _ c.ask_states.ensures
    (automaton_told g.C.CaseTypes.case_type c.args.given.now c.args.eq.now c.in-Automaton.states c.as_slice-in-Automaton.result.now c.in_ok-m-in-Automaton.m c.args.w.now c.args.asking.now c.two_names.new.asking c.in-Automaton.is
    c.as_slice-in-Automaton.ensures.value c.in_ok-m-in-Automaton.ensures.number c.in_ok-m-in-Automaton.ensures.named)

pub ask_guard-returns : goal.ask_guard-returns
ask_guard-returns g t c =
    ok_map c.ask_bool.result _ _
    (guard_told g.C.CaseTypes.case_type c.args.given.now c.args.guard.now c.args.m c.args.j c.in_ok-inside.inside c.args.w.now c.args.asking.now c.ask_equations.new.asking c.as_slice.result.now c.ask_bool.new.out c.in_ok-inside.ensures
    c.as_slice.ensures.value c.in_ok-ask_equations.ensures)
    c.ask_bool.ensures

pub ask_handler-returns : goal.ask_handler-returns
ask_handler-returns g t c =
    ok_to c.ask_equations-2.result c.ask_equations-2.new.asking _ _ c.ask_equations-2.ensures
    (handler_told g.C.CaseTypes.case_type c.args.given.now c.args.handler.now c.args.m c.args.j c.in_ok-local.local c.in_ok-shared.shared c.args.w.now c.args.asking.now c.ask_equations.new.asking c.as_slice.result.now c.as_slice-2.result.now
    c.in_ok-local.ensures c.in_ok-shared.ensures c.as_slice.ensures.value c.as_slice-2.ensures.value c.in_ok-ask_equations.ensures)

pub ask_state-returns : goal.ask_state-returns
ask_state-returns g t c =
    ok_to c.ask_guards-2.result c.ask_guards-2.new.asking _ _ c.ask_guards-2.ensures
    (state_told g.C.CaseTypes.case_type c.args.given.now c.args.state.now c.args.m c.args.j c.args.w.now c.args.asking.now c.ask_handler.new.asking c.ask_guards.new.asking c.as_slice.result.now c.as_slice-2.result.now
    c.as_slice.ensures.value c.as_slice-2.ensures.value c.in_ok-ask_handler.ensures c.in_ok-ask_guards.ensures)
