use Rattle.std.proofs.Common.{◌∙◌, ap}
use Rattle.ls_places.specs.declared.definition.Definition.{Definition}
use Rattle.kahn_exprs.specs.Standing.{table}
use Rattle.kahn_plain.proofs.CallDepth.{alarms_are}
use Rattle.kahn_plain.proofs.Standing.{ok_same}
use Rattle.kahn_plain.proofs.alarmed.body_alarms.Goals as goal

pub returns : goal.returns
returns g c =
    ok_same c.alarm_cells.result _ _ (alarms_are c.args.body.now (table c.in_ok-known.known) c.as_slice-exprs.result.now c.as_slice.result.now c.in_ok-known.ensures.table
    (c.as_slice-exprs.ensures.value ∙ ap (λ (d : Definition). d.places.exprs) c.definition.ensures) (c.as_slice.ensures.value ∙ c.in_ok-any.ensures)) c.alarm_cells.ensures
