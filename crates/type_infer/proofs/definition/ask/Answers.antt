use Rattle.std.proofs.Common.{ap, ap₂, ◌∙◌, ◌+◌}
use Rattle.type_rules.specs.Definitions.{param_names}
use Rattle.type_infer.proofs.Inferred.{asked_by}
use Rattle.type_infer.proofs.definition.ask.Goals as goal

pub returns-clause-demands : goal.returns-clause-demands
returns-clause-demands g c =
    asked_by (g.C.CaseTypes.case_type c.args.cases.now) c.args.sigs.now c.args.def.now c.in_ok-vars.vars c.in_ok-names.names c.in_ok-first.first c.as_slice-4.result.now c.as_slice-7.result.now
    c.in_ok-numbered.numbered.notes c.as_slice-8.result.now c.in_ok-numbered.numbered.body c.in_ok-demands.demands (c.in_ok-names.ensures ∙ ap param_names c.as_slice.ensures.value) c.in_ok-vars.ensures
    (c.in_ok-first.ensures ∙ ap₂ (λ a b. a + b) c.len.ensures.value c.len-2.ensures.value) c.as_slice-4.ensures.value c.in_ok-numbered.ensures.notes c.in_ok-numbered.ensures.body c.as_slice-7.ensures.value
    c.as_slice-8.ensures.value c.in_ok-demands.ensures
