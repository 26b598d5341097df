use Rattle.std.proofs.Common.{◌≡◌, ◌∙◌}
use Rattle.ls_places.specs.Definitions.{case_place}
use Rattle.kahn_model.specs.Alarm as alarm
use Rattle.kahn_model.specs.Program as program
use Rattle.kahn_model.specs.Table as rows
use Rattle.kahn_plain.specs.Node as own
use Rattle.kahn_plain.proofs.Run.{file_alarms, file_row}
use Rattle.kahn_plain.proofs.Sweeps.{ok_map}
use Rattle.kahn_plain.proofs.program.program_network.Goals as goal

pub returns-clause-row : goal.returns-clause-row
returns-clause-row c =
    ok_map c.network.result (λ r. r.row ≡ rows.written_row c.args.lines 0 (rows.network (case_place c.in_ok-cases.cases) c.as_slice.result.now c.args.lines c.args.k (own.streams c.args.args)))
    (λ r. r.row ≡ rows.written_row c.args.lines 0 (program.network c.args.file.now c.args.lines c.args.k (own.streams c.args.args))) c.network.ensures.row
    (λ r p. p ∙ file_row c.args.file.now c.in_ok-cases.cases c.as_slice.result.now c.args.lines c.args.k c.args.args c.in_ok-cases.ensures (c.as_slice.ensures.value ∙ c.in_ok-defs.ensures.definitions))

pub returns-clause-alarms : goal.returns-clause-alarms
returns-clause-alarms c =
    ok_map c.network.result (λ r. r.alarms ≡ rows.written_row c.args.lines 0 (alarm.network_alarm (case_place c.in_ok-cases.cases) c.as_slice.result.now c.args.lines c.args.k (own.streams c.args.args)))
    (λ r. r.alarms ≡ rows.written_row c.args.lines 0 (program.alarms c.args.file.now c.args.lines c.args.k (own.streams c.args.args))) c.network.ensures.alarms
    (λ r p. p ∙ file_alarms c.args.file.now c.in_ok-cases.cases c.as_slice.result.now c.args.lines c.args.k c.args.args c.in_ok-cases.ensures (c.as_slice.ensures.value ∙ c.in_ok-defs.ensures.definitions))
