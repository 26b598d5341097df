use Rattle.std.specs.Prelude.{IfOk}
use Rattle.std.proofs.Common.{◌∙◌, ap, length, subst, sym}
use Rattle.ls_places.specs.declared.definition.Definition.{Definition}
use Rattle.case_tables.specs.Cases.{place}
use Rattle.init_rules.specs.Files.{data_marks}
use Rattle.init_rules.specs.Nodes.{Standing}
use Rattle.init_rules.proofs.Below.{definition_stands}
use Rattle.init_check.specs.Judged.{Decided}
use Rattle.init_check.proofs.Known.{marks_long}
use Rattle.init_check.proofs.file.judge_let.Goals as goal

pub decide-requires-clause-stands : goal.decide-requires-clause-stands
decide-requires-clause-stands c = subst Standing (sym c.in_ok-d.ensures) (definition_stands (place c.args.cases.now) c.args.params.now c.args.notes.now c.args.body.now)

pub decide-requires-clause-params : goal.decide-requires-clause-params
decide-requires-clause-params c =
    ap length (c.as_slice-2.ensures.value ∙ c.in_ok-known.ensures ∙ ap (λ z. data_marks z c.args.marks.now) c.as_slice.ensures.value) ∙ marks_long c.args.params.now c.args.marks.now
    ∙ sym (ap (λ (z : Definition). length z.params) c.in_ok-d.ensures)

pub returns : goal.returns
returns c =
    subst (λ (z : Definition). IfOk c.decide.result (Decided z c.args.sigs.now (data_marks c.args.params.now c.args.marks.now))) c.in_ok-d.ensures
    (subst (λ z. IfOk c.decide.result (Decided c.in_ok-d.d c.args.sigs.now z))
    (c.as_slice-2.ensures.value ∙ c.in_ok-known.ensures ∙ ap (λ z. data_marks z c.args.marks.now) c.as_slice.ensures.value) c.decide.ensures)
