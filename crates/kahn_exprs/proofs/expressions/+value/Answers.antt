use Rattle.std.specs.Prelude.{map}
use Rattle.std.proofs.Common.{◌∙◌, ap, subst, sym}
use Rattle.kahn_model.specs.Alike.{ArgAlike, ArgsAlike}
use Rattle.kahn_model.specs.Functions.{args_said}
use Rattle.kahn_exprs.specs.Instance.{clocks_noted}
use Rattle.kahn_exprs.specs.Body as spec
use Rattle.kahn_exprs.specs.Context.{arg_of, args_of}
use Rattle.kahn_exprs.specs.Values as val
use Rattle.kahn_exprs.proofs.FormsAlike.{asked_alike, call_alike, case_is_alike, fby_alike, init_alike, last_alike, leaf_alike, merge_alike, op_alike, pre_alike, tuple_alike, var_alike, when_alike}
use Rattle.kahn_exprs.proofs.ValuesAlike.{mapped_next, ok_alike, row_is, value_alike, values_next}
use Rattle.kahn_exprs.proofs.expressions.+value.Goals as goal

pub branch_rows-loop-choice-preserved : goal.branch_rows-loop-choice-preserved
branch_rows-loop-choice-preserved g t c =
    mapped_next (λ z. val.row c.args.body.now c.args.place.now z.1) c.args.all.now c.loop-choice.choice-index c.choice-item.result c.loop-choice.done _ c.in_ok-row.field-0
    c.loop-choice-test.true (sym c.choice-item.is) c.loop-choice.invariant c.in_ok-row.ensures c.in_ok-push.ensures.ok

pub exprs_rows-loop-e-preserved : goal.exprs_rows-loop-e-preserved
exprs_rows-loop-e-preserved g t c =
    mapped_next (val.row c.args.body.now c.args.place.now) c.args.all.now c.loop-e.e-index c.e-item.result c.loop-e.done _ c.in_ok-row.field-0
    c.loop-e-test.true (sym c.e-item.is) c.loop-e.invariant c.in_ok-row.ensures c.in_ok-push.ensures.ok

pub values-loop-e-preserved : goal.values-loop-e-preserved
values-loop-e-preserved g t c =
    values_next c.args.body.now c.args.place.now c.args.all.now c.loop-e.e-index c.e-item.result c.loop-e.done _ c.in_ok-value.field-0
    c.loop-e-test.true (sym c.e-item.is) c.loop-e.invariant c.in_ok-value.ensures c.in_ok-push.ensures.ok

pub form_value-returns-in-Leaf : goal.form_value-returns-in-Leaf
form_value-returns-in-Leaf g t c = ok_alike c.args.body.now.lines c.ruled.result _ _ c.ruled.ensures
    (leaf_alike c.args.body.now c.args.place.now c.args.form.now c.args.note.now c.in-Leaf.leaf c.in-Leaf.is)

pub form_value-returns-in-Case : goal.form_value-returns-in-Case
form_value-returns-in-Case g t c = ok_alike c.args.body.now.lines c.ruled-in-Case.result _ _ c.ruled-in-Case.ensures
    (case_is_alike c.args.body.now c.args.place.now c.args.form.now c.args.note.now c.in-Case.field-0 c.in-Case.is)

pub form_value-returns-in-Var : goal.form_value-returns-in-Var
form_value-returns-in-Var g t c = ok_alike c.args.body.now.lines c.used.result _ _ c.used.ensures
    (var_alike c.args.body.now c.args.place.now c.args.form.now c.args.note.now c.in-Var.x c.in-Var.is)

pub form_value-returns-in-Last : goal.form_value-returns-in-Last
form_value-returns-in-Last g t c = ok_alike c.args.body.now.lines c.ruled-in-Last.result _ _ c.ruled-in-Last.ensures
    (last_alike c.args.body.now c.args.place.now c.args.form.now c.args.note.now c.in-Last.field-0 c.in-Last.is)

pub form_value-returns-in_ok-c-in-Asked : goal.form_value-returns-in_ok-c-in-Asked
form_value-returns-in_ok-c-in-Asked g t c = ok_alike c.args.body.now.lines c.ruled-in-Asked.result _ _ c.ruled-in-Asked.ensures
    (asked_alike c.args.body.now c.args.place.now c.args.form.now c.args.note.now c.in-Asked.x c.as_slice.result c.in-Asked.is (c.as_slice.ensures.value ∙ c.in_ok-c-in-Asked.ensures))

pub form_value-returns-in_ok-all-in-Op : goal.form_value-returns-in_ok-all-in-Op
form_value-returns-in_ok-all-in-Op g t c = ok_alike c.args.body.now.lines c.ruled-in-Op.result _ _ c.ruled-in-Op.ensures
    (op_alike c.args.body.now c.args.place.now c.args.form.now c.args.note.now c.in-Op.op c.in-Op.args c.as_slice-in-Op-2.result c.in-Op.is
    (c.as_slice-in-Op-2.ensures.value ∙ c.in_ok-all-in-Op.ensures ∙ ap (val.rows c.args.body.now c.args.place.now) c.as_slice-in-Op.ensures.value))

pub form_value-returns-in_ok-all-in-Tuple : goal.form_value-returns-in_ok-all-in-Tuple
form_value-returns-in_ok-all-in-Tuple g t c = ok_alike c.args.body.now.lines c.ruled-in-Tuple.result _ _ c.ruled-in-Tuple.ensures
    (tuple_alike c.args.body.now c.args.place.now c.args.form.now c.args.note.now c.in-Tuple.args c.as_slice-in-Tuple-2.result c.in-Tuple.is
    (c.as_slice-in-Tuple-2.ensures.value ∙ c.in_ok-all-in-Tuple.ensures ∙ ap (val.rows c.args.body.now c.args.place.now) c.as_slice-in-Tuple.ensures.value))

pub form_value-returns-in_ok-cells-in-Pre : goal.form_value-returns-in_ok-cells-in-Pre
form_value-returns-in_ok-cells-in-Pre g t c = ok_alike c.args.body.now.lines c.ruled-in-Pre.result _ _ c.ruled-in-Pre.ensures
    (pre_alike c.args.body.now c.args.place.now c.args.form.now c.args.note.now c.in-Pre.e c.as_slice-in-Pre.result c.in-Pre.is (c.as_slice-in-Pre.ensures.value ∙ c.in_ok-cells-in-Pre.ensures))

pub form_value-returns-in_ok-y-in-Fby : goal.form_value-returns-in_ok-y-in-Fby
form_value-returns-in_ok-y-in-Fby g t c = ok_alike c.args.body.now.lines c.ruled-in-Fby.result _ _ c.ruled-in-Fby.ensures
    (fby_alike c.args.body.now c.args.place.now c.args.form.now c.args.note.now c.in-Fby.a c.in-Fby.b c.as_slice-in-Fby.result c.as_slice-in-Fby-2.result c.in-Fby.is
    (c.as_slice-in-Fby.ensures.value ∙ c.in_ok-x-in-Fby.ensures) (c.as_slice-in-Fby-2.ensures.value ∙ c.in_ok-y-in-Fby.ensures))

pub form_value-returns-in_ok-y-in-Init : goal.form_value-returns-in_ok-y-in-Init
form_value-returns-in_ok-y-in-Init g t c = ok_alike c.args.body.now.lines c.ruled-in-Init.result _ _ c.ruled-in-Init.ensures
    (init_alike c.args.body.now c.args.place.now c.args.form.now c.args.note.now c.in-Init.a c.in-Init.b c.as_slice-in-Init.result c.as_slice-in-Init-2.result c.in-Init.is
    (c.as_slice-in-Init.ensures.value ∙ c.in_ok-x-in-Init.ensures) (c.as_slice-in-Init-2.ensures.value ∙ c.in_ok-y-in-Init.ensures))

pub form_value-returns-in_ok-row-in-When : goal.form_value-returns-in_ok-row-in-When
form_value-returns-in_ok-row-in-When g t c =
    when_alike c.args.body.now c.args.place.now c.args.form.now c.args.note.now c.in-When.e c.in-When.field-1 c.in-When.field-2 c.in_ok-row-in-When.field-0 c.in-When.is c.in_ok-row-in-When.ensures

pub form_value-returns-in_ok-all-in-Merge : goal.form_value-returns-in_ok-all-in-Merge
form_value-returns-in_ok-all-in-Merge g t c = ok_alike c.args.body.now.lines c.ruled-in-Merge.result _ _ c.ruled-in-Merge.ensures
    (merge_alike c.args.body.now c.args.place.now c.args.form.now c.args.note.now c.in-Merge.x c.in-Merge.choices c.as_slice-in-Merge-2.result c.as_slice-in-Merge-3.result c.as_slice-in-Merge-4.result c.in-Merge.is
    (c.as_slice-in-Merge-2.ensures.value ∙ c.in_ok-c-in-Merge.ensures) c.as_slice-in-Merge-3.ensures.value
    (c.as_slice-in-Merge-4.ensures.value ∙ c.in_ok-all-in-Merge.ensures ∙ ap (val.branch_rows c.args.body.now c.args.place.now) c.as_slice-in-Merge.ensures.value))

pub form_value-returns-in_ok-f-in-Call : goal.form_value-returns-in_ok-f-in-Call
form_value-returns-in_ok-f-in-Call g t c =
    let b = c.args.body.now in
    let p = c.args.place.now in
    ok_alike b.lines c.called.result _ _ c.called.ensures
    (call_alike b p c.args.form.now c.args.note.now c.in-Call.run' c.in-Call.name c.in-Call.args c.in-Call.every (args_of c.in_ok-all-in-Call.all) c.in_ok-restarts-in-Call.restarts
    c.in_ok-clocks-in-Call.clocks (arg_of c.in_ok-f-in-Call.f) c.in-Call.is
    (subst (λ z. ArgsAlike b.lines (args_of c.in_ok-all-in-Call.all) (args_said (map (spec.said b p) z))) c.as_slice-in-Call.ensures.value c.in_ok-all-in-Call.ensures)
    c.in_ok-restarts-in-Call.ensures (c.in_ok-clocks-in-Call.ensures ∙ ap clocks_noted c.as_slice-in-Call-2.ensures.value) c.in_ok-f-in-Call.ensures)

pub value-returns : goal.value-returns
value-returns g t c =
    let b = c.args.body.now in
    let p = c.args.place.now in
    let e = c.args.e.now in
    value_alike b p e (arg_of c.in_ok-arg.arg) c.on_clock.result
    (subst (λ z. ArgAlike b.lines (arg_of c.in_ok-arg.arg) (spec.said_form b p z e.note)) c.get.ensures c.in_ok-arg.ensures) c.on_clock.ensures

pub row-returns : goal.row-returns
row-returns g t c = row_is c.args.body.now c.args.place.now c.args.e.now c.in_ok-arg.arg c.stream_row.result c.in_ok-arg.ensures c.stream_row.ensures
