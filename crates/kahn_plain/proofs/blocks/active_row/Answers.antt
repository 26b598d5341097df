use Rattle.std.proofs.Common.{◌∙◌}
use Rattle.kahn_plain.proofs.Rights.{active_is}
use Rattle.kahn_plain.proofs.Standing.{ok_same}
use Rattle.kahn_plain.proofs.blocks.active_row.Goals as goal

pub returns : goal.returns
returns g c = ok_same c.active_cells.result _ _
    (active_is c.args.body.now c.args.m c.args.states.now c.args.place.now c.as_slice.result.now (c.as_slice.ensures.value ∙ c.in_ok-guard_rows.ensures)) c.active_cells.ensures
