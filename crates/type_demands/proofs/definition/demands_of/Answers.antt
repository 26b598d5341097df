use Rattle.std.proofs.Common.{◌++◌, length, ap, ◌∙◌}
use Rattle.type_demands.specs.Walks as spec
use Rattle.type_demands.proofs.Names.{definition_told}
use Rattle.type_demands.proofs.Blocks.{if_ok_to}
use Rattle.type_demands.proofs.definition.demands_of.Goals as goal

pub returns : goal.returns
returns g c =
    let P = spec.params_named g.C.CaseTypes.case_type c.args.given.now c.args.given.now.params.now 0 in
    let V = spec.vars_named g.C.CaseTypes.case_type c.args.given.now c.args.given.now.vars.now (length c.args.given.now.params.now) in
    let Q = spec.params_ask g.C.CaseTypes.case_type c.args.given.now c.as_slice.result.now c.args.marks.now c.args.notes.now 0 in
    let B = spec.body_asks g.C.CaseTypes.case_type c.args.given.now c.len.result c.args.body.now in
    if_ok_to c.ask_body.result _ _ c.ask_body.ensures
    (ap (λ z. z ++ B)
    (c.in_ok-ask_params.ensures
    ∙ ap (λ z. z ++ Q) (c.in_ok-ask_vars_named.ensures ∙ ap (λ z. z ++ V) (c.in_ok-ask_params_named.ensures ∙ ap (λ z. z ++ P) c.new-out.ensures)))
    ∙ (λ i. ((P ++ V) ++ spec.params_ask g.C.CaseTypes.case_type c.args.given.now (c.as_slice.ensures.value i) c.args.marks.now c.args.notes.now 0) ++ spec.body_asks g.C.CaseTypes.case_type c.args.given.now (c.len.ensures.value i) c.args.body.now)
    ∙ definition_told g.C.CaseTypes.case_type c.args.given.now (record { params = c.args.params.now; marks = c.args.marks.now; notes = c.args.notes.now; body = c.args.body.now }) c.requires.names c.requires.marks)
