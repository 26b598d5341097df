-- Where a body is alarmed.
use Rattle.std.specs.Prelude.{Bool, List, Some}
use Rattle.ls_places.specs.declared.places.Whole.{Whole}
use Rattle.ls_sig.specs.declared.binder.Note.{Note}
use Rattle.kahn_model.specs.declared.cell.Cell.{Cell}
use Rattle.kahn_model.specs.Alarm
use Rattle.kahn_model.specs.Alarm.{yes_cell}
use Rattle.kahn_model.specs.Rows.{Row, know}
use Rattle.kahn_exprs.specs.declared.body.Body.{Body}
use Rattle.kahn_exprs.specs.Body as spec

module _ (b : Body) where
  -- by the table that stands
  abbrev pub any_alarm : List (Whole Note) → Row Bool
  any_alarm = Alarm.any_alarm (spec.cases b) b.defs.now (spec.call b) (spec.alarmed b) b.def.now (spec.around b) (spec.table b)

  -- by its own table
  abbrev pub alarms : Row Cell
  alarms i = know (Alarm.alarm_in (spec.cases b) b.defs.now b.lines (spec.call b) (spec.alarmed b) (Some b.def.now) (spec.around b) i) yes_cell
