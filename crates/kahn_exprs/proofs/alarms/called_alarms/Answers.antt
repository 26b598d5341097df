use Rattle.std.proofs.Common.{◌∙◌, sym}
use Rattle.kahn_exprs.specs.Alarms as own
use Rattle.kahn_exprs.specs.Context as around
use Rattle.kahn_exprs.proofs.AlarmsAlike.{called_is, only_passed, row_alike}
use Rattle.kahn_exprs.proofs.alarms.called_alarms.Goals as goal

pub returns-then-is_function : goal.returns-then-is_function
returns-then-is_function g c = row_alike c.args.body.now.lines c.quiet_row.result own.no_alarm _ c.quiet_row.ensures
    (only_passed c.args.body.now c.args.place.now c.args.note.now (around.arg_of c.args.f.now) (around.args_of c.args.args.now) c.args.every.now (sym c.is_function.ensures ∙ c.if-is_function.true))

pub returns : goal.returns
returns g c = row_alike c.args.body.now.lines c.yes_row.result (own.yes_at c.as_slice.result.now) _ c.yes_row.ensures
    (called_is c.args.body.now c.args.place.now c.args.note.now (around.arg_of c.args.f.now) (around.args_of c.args.args.now) c.args.every.now c.as_slice.result.now _
    (sym c.is_function.ensures ∙ c.if-is_function.false) c.in_ok-at.ensures (c.as_slice.ensures.value ∙ c.in_ok-cells.ensures))
