use Rattle.std.specs.Prelude.{map, refl}
use Rattle.std.proofs.Common.{◌∙◌, ap, subst, sym}
use Rattle.ls_ast.specs.declared.tree.Form.TheOpen.{Form-F}
use Rattle.ls_ast.specs.declared.tree.Form.TheVariants as form
use Rattle.kahn_model.specs.Alike.{ArgsAlike}
use Rattle.kahn_model.specs.Functions.{args_said}
use Rattle.kahn_exprs.specs.Alarms as own
use Rattle.kahn_exprs.specs.Body as spec
use Rattle.kahn_exprs.specs.Context.{arg_of, args_of}
use Rattle.kahn_exprs.specs.Instance.{clocks_noted}
use Rattle.kahn_exprs.specs.Values as val
use Rattle.kahn_exprs.proofs.AlarmsAlike.{call_form, name_form, operator_form, quiet_form, row_alike, alike_then}
use Rattle.kahn_exprs.proofs.alarms.own_alarms.Goals as goal

pub returns-in_ok-all-in-Op : goal.returns-in_ok-all-in-Op
returns-in_ok-all-in-Op g c = row_alike c.args.body.now.lines c.operator_alarms.result _ _ c.operator_alarms.ensures
    (operator_form c.args.body.now c.args.place.now c.args.form.now c.args.note.now c.in-Op.op c.in-Op.args c.as_slice-in-Op.result.now c.in-Op.is
    (c.as_slice-in-Op.ensures.value ∙ c.in_ok-all-in-Op.ensures ∙ ap (val.rows c.args.body.now c.args.place.now) c.as_slice.ensures.value))

pub returns-in-Var : goal.returns-in-Var
returns-in-Var g c = alike_then c.args.body.now.lines c.used_alarms.result _ _ c.used_alarms.ensures
    (name_form c.args.body.now c.args.place.now c.args.form.now c.args.note.now c.in-Var.x c.in-Var.is)

pub returns-in_ok-f-in-Call : goal.returns-in_ok-f-in-Call
returns-in_ok-f-in-Call g c =
    let b = c.args.body.now in
    let p = c.args.place.now in
    alike_then b.lines c.called_alarms.result _ _ c.called_alarms.ensures
    (call_form b p c.args.form.now c.args.note.now c.in-Call.run' c.in-Call.name c.in-Call.args c.in-Call.every (args_of c.as_slice-in-Call-3.result.now) c.in_ok-restarts-in-Call.restarts
    c.in_ok-clocks-in-Call.clocks (arg_of c.in_ok-f-in-Call.f) c.in-Call.is
    (subst (λ zs. ArgsAlike b.lines (args_of zs) (args_said (map (spec.said b p) c.in-Call.args))) (sym c.as_slice-in-Call-3.ensures.value)
    (subst (λ z. ArgsAlike b.lines (args_of c.in_ok-all-in-Call.all) (args_said (map (spec.said b p) z))) c.as_slice-in-Call.ensures.value c.in_ok-all-in-Call.ensures))
    c.in_ok-restarts-in-Call.ensures (c.in_ok-clocks-in-Call.ensures ∙ ap clocks_noted c.as_slice-in-Call-2.ensures.value) c.in_ok-f-in-Call.ensures)

pub returns-in-Leaf : goal.returns-in-Leaf
returns-in-Leaf g c = row_alike c.args.body.now.lines c.quiet_row.result own.no_alarm _ c.quiet_row.ensures
    (quiet_form c.args.body.now c.args.place.now c.args.form.now (form.Leaf c.in-Leaf.field-0) (Form-F.Leaf c.in-Leaf.field-0) c.args.note.now c.in-Leaf.is (form.rolls-Leaf c.in-Leaf.field-0) (λ i. refl))

pub returns-in-Case : goal.returns-in-Case
returns-in-Case g c = row_alike c.args.body.now.lines c.quiet_row-in-Case.result own.no_alarm _ c.quiet_row-in-Case.ensures
    (quiet_form c.args.body.now c.args.place.now c.args.form.now (form.Case c.in-Case.field-0) (Form-F.Case c.in-Case.field-0) c.args.note.now c.in-Case.is (form.rolls-Case c.in-Case.field-0) (λ i. refl))

pub returns-in-Last : goal.returns-in-Last
returns-in-Last g c = row_alike c.args.body.now.lines c.quiet_row-in-Last.result own.no_alarm _ c.quiet_row-in-Last.ensures
    (quiet_form c.args.body.now c.args.place.now c.args.form.now (form.Last c.in-Last.field-0) (Form-F.Last c.in-Last.field-0) c.args.note.now c.in-Last.is (form.rolls-Last c.in-Last.field-0) (λ i. refl))

pub returns-in-Asked : goal.returns-in-Asked
returns-in-Asked g c = row_alike c.args.body.now.lines c.quiet_row-in-Asked.result own.no_alarm _ c.quiet_row-in-Asked.ensures
    (quiet_form c.args.body.now c.args.place.now c.args.form.now (form.Asked c.in-Asked.field-0) (Form-F.Asked c.in-Asked.field-0) c.args.note.now c.in-Asked.is (form.rolls-Asked c.in-Asked.field-0) (λ i. refl))

pub returns-in-Tuple : goal.returns-in-Tuple
returns-in-Tuple g c = row_alike c.args.body.now.lines c.quiet_row-in-Tuple.result own.no_alarm _ c.quiet_row-in-Tuple.ensures
    (quiet_form c.args.body.now c.args.place.now c.args.form.now (form.Tuple c.in-Tuple.field-0) (Form-F.Tuple c.in-Tuple.field-0) c.args.note.now c.in-Tuple.is (form.rolls-Tuple c.in-Tuple.field-0) (λ i. refl))

pub returns-in-Pre : goal.returns-in-Pre
returns-in-Pre g c = row_alike c.args.body.now.lines c.quiet_row-in-Pre.result own.no_alarm _ c.quiet_row-in-Pre.ensures
    (quiet_form c.args.body.now c.args.place.now c.args.form.now (form.Pre c.in-Pre.field-0) (Form-F.Pre c.in-Pre.field-0) c.args.note.now c.in-Pre.is (form.rolls-Pre c.in-Pre.field-0) (λ i. refl))

pub returns-in-Fby : goal.returns-in-Fby
returns-in-Fby g c = row_alike c.args.body.now.lines c.quiet_row-in-Fby.result own.no_alarm _ c.quiet_row-in-Fby.ensures
    (quiet_form c.args.body.now c.args.place.now c.args.form.now (form.Fby c.in-Fby.field-0 c.in-Fby.field-1) (Form-F.Fby c.in-Fby.field-0 c.in-Fby.field-1) c.args.note.now c.in-Fby.is (form.rolls-Fby c.in-Fby.field-0 c.in-Fby.field-1) (λ i. refl))

pub returns-in-Init : goal.returns-in-Init
returns-in-Init g c = row_alike c.args.body.now.lines c.quiet_row-in-Init.result own.no_alarm _ c.quiet_row-in-Init.ensures
    (quiet_form c.args.body.now c.args.place.now c.args.form.now (form.Init c.in-Init.field-0 c.in-Init.field-1) (Form-F.Init c.in-Init.field-0 c.in-Init.field-1) c.args.note.now c.in-Init.is (form.rolls-Init c.in-Init.field-0 c.in-Init.field-1) (λ i. refl))

pub returns-in-When : goal.returns-in-When
returns-in-When g c = row_alike c.args.body.now.lines c.quiet_row-in-When.result own.no_alarm _ c.quiet_row-in-When.ensures
    (quiet_form c.args.body.now c.args.place.now c.args.form.now (form.When c.in-When.field-0 c.in-When.field-1 c.in-When.field-2) (Form-F.When c.in-When.field-0 c.in-When.field-1 c.in-When.field-2) c.args.note.now c.in-When.is (form.rolls-When c.in-When.field-0 c.in-When.field-1 c.in-When.field-2) (λ i. refl))

pub returns-in-Merge : goal.returns-in-Merge
returns-in-Merge g c = row_alike c.args.body.now.lines c.quiet_row-in-Merge.result own.no_alarm _ c.quiet_row-in-Merge.ensures
    (quiet_form c.args.body.now c.args.place.now c.args.form.now (form.Merge c.in-Merge.field-0 c.in-Merge.field-1) (Form-F.Merge c.in-Merge.field-0 c.in-Merge.field-1) c.args.note.now c.in-Merge.is (form.rolls-Merge c.in-Merge.field-0 c.in-Merge.field-1) (λ i. refl))
