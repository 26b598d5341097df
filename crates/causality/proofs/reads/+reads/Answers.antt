use Rattle.std.specs.Prelude.{OnOk}
use Rattle.std.proofs.Common.{◌≡◌, ◌++◌, ◌∙◌, ap, subst}
use Rattle.causality_rules.specs.Reads.{read_by, restart_rows}
use Rattle.causality.specs.Walks as own
use Rattle.causality.proofs.Forms as forms
use Rattle.causality.proofs.reads.+reads.Goals as goal

pub add_expr-returns : goal.add_expr-returns
add_expr-returns t c =
    subst (λ z. OnOk c.add_form.result (c.add_form.new.out ≡ z))
    (forms.expr_pushed c.args.d.now c.definition.result.now c.args.e.now c.get.result.now c.args.out.now c.add_clock.new.out c.definition.ensures c.get.ensures c.in_ok-add_clock.ensures)
    c.add_form.ensures

pub add_form-returns-in-Op : goal.add_form-returns-in-Op
add_form-returns-in-Op t c =
    subst (λ z. OnOk c.add_all.result (c.add_all.new.out ≡ c.args.out.now ++ z))
    (forms.op_rows c.args.d.now c.args.note.now c.args.form.now c.in-Op.field-0 c.in-Op.args c.as_slice.result.now c.in-Op.is c.as_slice.ensures.value) c.add_all.ensures

pub add_form-returns-in-Tuple : goal.add_form-returns-in-Tuple
add_form-returns-in-Tuple t c =
    subst (λ z. OnOk c.add_all-in-Tuple.result (c.add_all-in-Tuple.new.out ≡ c.args.out.now ++ z))
    (forms.tuple_rows c.args.d.now c.args.note.now c.args.form.now c.in-Tuple.all c.as_slice-in-Tuple.result.now c.in-Tuple.is c.as_slice-in-Tuple.ensures.value) c.add_all-in-Tuple.ensures

pub add_form-returns-in_ok-add_restarts-in-Fby : goal.add_form-returns-in_ok-add_restarts-in-Fby
add_form-returns-in_ok-add_restarts-in-Fby t c =
    subst (λ z. OnOk c.add_expr.result (c.add_expr.new.out ≡ z))
    (ap (λ z. z ++ read_by c.args.d.now c.in-Fby.a) (c.in_ok-add_restarts-in-Fby.ensures ∙ ap (λ z. c.args.out.now ++ restart_rows z) c.as_slice-in-Fby.ensures.value)
    ∙ forms.fby_rows c.args.d.now c.args.note.now c.args.form.now c.args.out.now c.in-Fby.a c.in-Fby.field-1 c.in-Fby.is) c.add_expr.ensures

pub add_form-returns-in_ok-add_expr-in-Init : goal.add_form-returns-in_ok-add_expr-in-Init
add_form-returns-in_ok-add_expr-in-Init t c =
    subst (λ z. OnOk c.add_expr-in-Init-2.result (c.add_expr-in-Init-2.new.out ≡ z))
    (ap (λ z. z ++ read_by c.args.d.now c.in-Init.b) (c.in_ok-add_expr-in-Init.ensures
    ∙ ap (λ z. z ++ read_by c.args.d.now c.in-Init.a) (c.in_ok-add_restarts-in-Init.ensures ∙ ap (λ z. c.args.out.now ++ restart_rows z) c.as_slice-in-Init.ensures.value))
    ∙ forms.init_rows c.args.d.now c.args.note.now c.args.form.now c.args.out.now c.in-Init.a c.in-Init.b c.in-Init.is) c.add_expr-in-Init-2.ensures

pub add_form-returns-in_ok-add_bound-in-When : goal.add_form-returns-in_ok-add_bound-in-When
add_form-returns-in_ok-add_bound-in-When t c =
    subst (λ z. OnOk c.add_expr-in-When.result (c.add_expr-in-When.new.out ≡ z))
    (ap (λ z. z ++ read_by c.args.d.now c.in-When.e) c.in_ok-add_bound-in-When.ensures
    ∙ forms.when_rows c.args.d.now c.args.note.now c.args.form.now c.args.out.now c.in-When.e c.in-When.field-1 c.in-When.field-2 c.in-When.is) c.add_expr-in-When.ensures

pub add_form-returns-in_ok-add_bound-in-Merge : goal.add_form-returns-in_ok-add_bound-in-Merge
add_form-returns-in_ok-add_bound-in-Merge t c =
    subst (λ z. OnOk c.add_choices.result (c.add_choices.new.out ≡ z))
    (ap (λ z. z ++ own.choice_rows c.args.d.now c.as_slice-in-Merge.result.now) c.in_ok-add_bound-in-Merge.ensures
    ∙ forms.merge_rows c.args.d.now c.args.note.now c.args.form.now c.args.out.now c.in-Merge.field-0 c.in-Merge.choices c.as_slice-in-Merge.result.now c.in-Merge.is c.as_slice-in-Merge.ensures.value)
    c.add_choices.ensures

pub add_form-returns-in-None : goal.add_form-returns-in-None
add_form-returns-in-None t c =
    c.in_ok-add_all-in-Call.ensures ∙ ap (λ z. z ++ own.all_rows c.args.d.now c.as_slice-in-Call.result.now) c.in_ok-add_bound-in-Call.ensures
    ∙ forms.call_none c.args.d.now c.args.note.now c.args.form.now c.args.out.now _ _ c.in-Call.args c.as_slice-in-Call.result.now c.in-Call.every c.in-Call.is c.in-None.is c.as_slice-in-Call.ensures.value

pub add_form-returns-in-Some : goal.add_form-returns-in-Some
add_form-returns-in-Some t c =
    subst (λ z. OnOk c.add_expr-in-Some.result (c.add_expr-in-Some.new.out ≡ z))
    (ap (λ z. z ++ read_by c.args.d.now c.in-Some.e) (c.in_ok-add_all-in-Call.ensures ∙ ap (λ z. z ++ own.all_rows c.args.d.now c.as_slice-in-Call.result.now) c.in_ok-add_bound-in-Call.ensures)
    ∙ forms.call_some c.args.d.now c.args.note.now c.args.form.now c.args.out.now _ _ c.in-Call.args c.as_slice-in-Call.result.now c.in-Call.every c.in-Some.e c.in-Call.is c.in-Some.is c.as_slice-in-Call.ensures.value)
    c.add_expr-in-Some.ensures
