use Rattle.std.specs.Prelude.{refl}
use Rattle.ls_sig.specs.declared.binder.Binder.TheVariants as binder
use Rattle.kahn_exprs.specs.Alarms as own
use Rattle.kahn_exprs.proofs.AlarmsAlike.{row_alike, unused}
use Rattle.kahn_exprs.proofs.alarms.used_alarms.Goals as goal

pub returns-in-Var : goal.returns-in-Var
returns-in-Var g c = row_alike c.args.body.now.lines c.quiet_row.result own.no_alarm _ c.quiet_row.ensures
    (unused c.args.body.now c.args.place.now c.args.note.now c.args.x (binder.Var c.in-Var.field-0) c.in-Var.is (λ i. refl))

pub returns-in-Param : goal.returns-in-Param
returns-in-Param g c = row_alike c.args.body.now.lines c.quiet_row-in-Param.result own.no_alarm _ c.quiet_row-in-Param.ensures
    (unused c.args.body.now c.args.place.now c.args.note.now c.args.x (binder.Param c.in-Param.field-0) c.in-Param.is (λ i. refl))

pub returns-in-Nothing : goal.returns-in-Nothing
returns-in-Nothing g c = row_alike c.args.body.now.lines c.quiet_row-in-Nothing.result own.no_alarm _ c.quiet_row-in-Nothing.ensures
    (unused c.args.body.now c.args.place.now c.args.note.now c.args.x binder.Nothing c.in-Nothing.is (λ i. refl))

pub returns-in-Case : goal.returns-in-Case
returns-in-Case g c = row_alike c.args.body.now.lines c.quiet_row-in-Case.result own.no_alarm _ c.quiet_row-in-Case.ensures
    (unused c.args.body.now c.args.place.now c.args.note.now c.args.x (binder.Case c.in-Case.field-0 c.in-Case.field-1) c.in-Case.is (λ i. refl))
