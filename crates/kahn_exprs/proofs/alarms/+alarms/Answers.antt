use Rattle.std.specs.Prelude.{None, Some}
use Rattle.std.proofs.Common.{◌∙◌, ap, subst, sym}
use Rattle.ls_ast.specs.declared.tree.Form.TheOpen.{Form-F}
use Rattle.ls_ast.specs.declared.tree.Form.TheVariants as form
use Rattle.kahn_model.specs.Alike.{RowAlike}
use Rattle.kahn_model.specs.Table.{cell_in}
use Rattle.kahn_exprs.specs.Alarms as own
use Rattle.kahn_exprs.proofs.AlarmsAlike.{appended_next, branched, call_parts, listed, one_part, parts_is, row_of_parts, two_parts, with_every, without_every}
use Rattle.kahn_exprs.proofs.alarms.+alarms.Goals as goal

pub add_alarms-loop-e-preserved : goal.add_alarms-loop-e-preserved
add_alarms-loop-e-preserved g t c =
    appended_next (own.alarm_row c.args.body.now c.args.place.now) c.args.all.now c.loop-e.e-index c.e-item.result c.args.done.now c.loop-e.done _ c.in_ok-alarm_row.field-0
    c.loop-e-test.true (sym c.e-item.is) c.loop-e.invariant c.in_ok-alarm_row.ensures c.in_ok-push.ensures.ok

pub add_branch_alarms-loop-choice-preserved : goal.add_branch_alarms-loop-choice-preserved
add_branch_alarms-loop-choice-preserved g t c =
    appended_next (λ z. own.alarm_row c.args.body.now c.args.place.now z.1) c.args.all.now c.loop-choice.choice-index c.choice-item.result c.args.done.now c.loop-choice.done _ c.in_ok-alarm_row.field-0
    c.loop-choice-test.true (sym c.choice-item.is) c.loop-choice.invariant c.in_ok-alarm_row.ensures c.in_ok-push.ensures.ok

pub alarm_row-returns : goal.alarm_row-returns
alarm_row-returns g t c =
    row_of_parts c.args.body.now c.args.place.now c.args.e.now c.get.result.now c.as_slice.result.now c.as_slice-2.result.now c.any_row.result c.get.ensures
    (subst (λ z. RowAlike c.args.body.now.lines (cell_in z) (own.own_alarm c.args.body.now c.args.place.now c.get.result.now c.args.e.now.note)) (sym c.as_slice.ensures.value) c.in_ok-now.ensures)
    (c.as_slice-2.ensures.value ∙ c.in_ok-parts.ensures ∙ ap (own.parts_alarms c.args.body.now c.args.place.now) (c.get-2.ensures ∙ sym c.get.ensures)) c.any_row.ensures

pub parts_alarms-returns-in_ok-add_alarms-in-Op : goal.parts_alarms-returns-in_ok-add_alarms-in-Op
parts_alarms-returns-in_ok-add_alarms-in-Op g t c =
    listed c.args.body.now c.args.place.now c.in-Op.args c.as_slice.result.now c.new-done.result c.add_alarms.new.done c.as_slice.ensures.value c.new-done.ensures c.in_ok-add_alarms-in-Op.ensures
    ∙ sym (parts_is c.args.body.now c.args.place.now c.args.form.now (form.Op c.in-Op.field-0 c.in-Op.args) (Form-F.Op c.in-Op.field-0 c.in-Op.args) c.in-Op.is (form.rolls-Op c.in-Op.field-0 c.in-Op.args))

pub parts_alarms-returns-in_ok-add_alarms-in-Tuple : goal.parts_alarms-returns-in_ok-add_alarms-in-Tuple
parts_alarms-returns-in_ok-add_alarms-in-Tuple g t c =
    listed c.args.body.now c.args.place.now c.in-Tuple.args c.as_slice-in-Tuple.result.now c.new-done.result c.add_alarms-in-Tuple.new.done c.as_slice-in-Tuple.ensures.value c.new-done.ensures c.in_ok-add_alarms-in-Tuple.ensures
    ∙ sym (parts_is c.args.body.now c.args.place.now c.args.form.now (form.Tuple c.in-Tuple.args) (Form-F.Tuple c.in-Tuple.args) c.in-Tuple.is (form.rolls-Tuple c.in-Tuple.args))

pub parts_alarms-returns-in_ok-push-in-Fby-2 : goal.parts_alarms-returns-in_ok-push-in-Fby-2
parts_alarms-returns-in_ok-push-in-Fby-2 g t c =
    two_parts c.args.body.now c.args.place.now c.in-Fby.a c.in-Fby.b c.new-done.result c.push-in-Fby.new.self c.push-in-Fby-2.new.self c.in_ok-alarm_row-in-Fby.field-0 c.in_ok-alarm_row-in-Fby-2.field-0 c.new-done.ensures c.in_ok-alarm_row-in-Fby.ensures c.in_ok-push-in-Fby.ensures.ok
    c.in_ok-alarm_row-in-Fby-2.ensures c.in_ok-push-in-Fby-2.ensures.ok
    ∙ sym (parts_is c.args.body.now c.args.place.now c.args.form.now (form.Fby c.in-Fby.a c.in-Fby.b) (Form-F.Fby c.in-Fby.a c.in-Fby.b) c.in-Fby.is (form.rolls-Fby c.in-Fby.a c.in-Fby.b))

pub parts_alarms-returns-in_ok-push-in-Init-2 : goal.parts_alarms-returns-in_ok-push-in-Init-2
parts_alarms-returns-in_ok-push-in-Init-2 g t c =
    two_parts c.args.body.now c.args.place.now c.in-Init.a c.in-Init.b c.new-done.result c.push-in-Init.new.self c.push-in-Init-2.new.self c.in_ok-alarm_row-in-Init.field-0 c.in_ok-alarm_row-in-Init-2.field-0 c.new-done.ensures c.in_ok-alarm_row-in-Init.ensures c.in_ok-push-in-Init.ensures.ok
    c.in_ok-alarm_row-in-Init-2.ensures c.in_ok-push-in-Init-2.ensures.ok
    ∙ sym (parts_is c.args.body.now c.args.place.now c.args.form.now (form.Init c.in-Init.a c.in-Init.b) (Form-F.Init c.in-Init.a c.in-Init.b) c.in-Init.is (form.rolls-Init c.in-Init.a c.in-Init.b))

pub parts_alarms-returns-in_ok-push-in-When : goal.parts_alarms-returns-in_ok-push-in-When
parts_alarms-returns-in_ok-push-in-When g t c =
    one_part c.args.body.now c.args.place.now c.in-When.e c.new-done.result c.push-in-When.new.self c.in_ok-alarm_row-in-When.field-0 c.new-done.ensures c.in_ok-alarm_row-in-When.ensures c.in_ok-push-in-When.ensures.ok
    ∙ sym (parts_is c.args.body.now c.args.place.now c.args.form.now (form.When c.in-When.e c.in-When.field-1 c.in-When.field-2) (Form-F.When c.in-When.e c.in-When.field-1 c.in-When.field-2) c.in-When.is (form.rolls-When c.in-When.e c.in-When.field-1 c.in-When.field-2))

pub parts_alarms-returns-in_ok-add_branch_alarms-in-Merge : goal.parts_alarms-returns-in_ok-add_branch_alarms-in-Merge
parts_alarms-returns-in_ok-add_branch_alarms-in-Merge g t c =
    branched c.args.body.now c.args.place.now c.in-Merge.choices c.as_slice-in-Merge.result.now c.new-done.result c.add_branch_alarms.new.done c.as_slice-in-Merge.ensures.value c.new-done.ensures c.in_ok-add_branch_alarms-in-Merge.ensures
    ∙ sym (parts_is c.args.body.now c.args.place.now c.args.form.now (form.Merge c.in-Merge.field-0 c.in-Merge.choices) (Form-F.Merge c.in-Merge.field-0 c.in-Merge.choices) c.in-Merge.is (form.rolls-Merge c.in-Merge.field-0 c.in-Merge.choices))

pub parts_alarms-returns-in-None : goal.parts_alarms-returns-in-None
parts_alarms-returns-in-None g t c =
    without_every c.args.body.now c.args.place.now c.in-Call.args c.as_slice-in-Call.result.now c.new-done.result c.add_alarms-in-Call.new.done c.as_slice-in-Call.ensures.value c.new-done.ensures
    c.in_ok-add_alarms-in-Call.ensures
    ∙ sym (call_parts c.args.body.now c.args.place.now c.args.form.now c.in-Call.run' c.in-Call.head c.in-Call.args None (c.in-Call.is ∙ ap (form.Call c.in-Call.run' c.in-Call.head c.in-Call.args) c.in-None.is))

pub parts_alarms-returns-in_ok-push-in-Some : goal.parts_alarms-returns-in_ok-push-in-Some
parts_alarms-returns-in_ok-push-in-Some g t c =
    with_every c.args.body.now c.args.place.now c.in-Call.args c.as_slice-in-Call.result.now c.in-Some.e c.new-done.result c.add_alarms-in-Call.new.done c.push-in-Some.new.self c.in_ok-alarm_row-in-Some.field-0
    c.as_slice-in-Call.ensures.value c.new-done.ensures c.in_ok-add_alarms-in-Call.ensures c.in_ok-alarm_row-in-Some.ensures c.in_ok-push-in-Some.ensures.ok
    ∙ sym (call_parts c.args.body.now c.args.place.now c.args.form.now c.in-Call.run' c.in-Call.head c.in-Call.args (Some c.in-Some.e) (c.in-Call.is ∙ ap (form.Call c.in-Call.run' c.in-Call.head c.in-Call.args) c.in-Some.is))
