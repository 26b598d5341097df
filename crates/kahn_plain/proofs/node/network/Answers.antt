use Rattle.std.proofs.Common.{◌∙◌, ap}
use Rattle.kahn_model.specs.Alarm
use Rattle.ls_places.specs.Definitions.{case_place}
use Rattle.kahn_model.specs.Table
use Rattle.kahn_model.specs.Table.{written_row}
use Rattle.kahn_plain.specs.Node as own
use Rattle.kahn_plain.proofs.node.network.Goals as goal

pub returns-clause-row : goal.returns-clause-row
returns-clause-row c = c.in_ok-row.ensures
    ∙ ap (λ z. written_row c.args.lines 0 (Table.network (case_place c.args.file.now) c.args.defs.now c.args.lines c.args.k (own.streams z))) c.as_slice.ensures.value

pub returns-clause-alarms : goal.returns-clause-alarms
returns-clause-alarms c = c.in_ok-alarms.ensures
    ∙ ap (λ z. written_row c.args.lines 0 (Alarm.network_alarm (case_place c.args.file.now) c.args.defs.now c.args.lines c.args.k (own.streams z))) c.as_slice-2.ensures.value
