use Rattle.std.proofs.Common.{◌∙◌}
use Rattle.ls_places.specs.Definitions.{case_place}
use Rattle.kahn_plain.proofs.Run.{alarms_are}
use Rattle.kahn_plain.proofs.Standing.{ok_same}
use Rattle.kahn_plain.proofs.node.node_alarms.Goals as goal

pub returns : goal.returns
returns c =
    ok_same c.yes_row.result _ _ (alarms_are (case_place c.args.file.now) c.args.defs.now c.args.lines c.meanings_go_by_their_lines.ensures.alarms c.args.k c.args.args.now
    c.in_ok-context.context c.as_slice.result.now c.in_ok-context.ensures (c.as_slice.ensures.value ∙ c.in_ok-cells.ensures)) c.yes_row.ensures
