use Rattle.std.proofs.Common.{◌∙◌}
use Rattle.kahn_plain.proofs.Rights.{match_is}
use Rattle.kahn_plain.proofs.Standing.{ok_same}
use Rattle.kahn_plain.proofs.blocks.match_on.Goals as goal

pub returns : goal.returns
returns g c = ok_same c.match_cells.result _ _
    (match_is c.args.body.now c.args.whole.now c.args.all.now c.as_slice.result.now c.as_slice-2.result.now (c.as_slice-2.ensures.value ∙ c.in_ok-cells.ensures) c.as_slice.ensures.value)
    c.match_cells.ensures
