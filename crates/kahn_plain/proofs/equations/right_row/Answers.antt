use Rattle.std.proofs.Common.{◌∙◌}
use Rattle.kahn_plain.proofs.Rights.{part_is, pattern_is}
use Rattle.kahn_plain.proofs.Standing.{ok_same}
use Rattle.kahn_plain.proofs.equations.right_row.Goals as goal

pub returns-in_ok-cells-in-Part : goal.returns-in_ok-cells-in-Part
returns-in_ok-cells-in-Part g c = ok_same c.part_row.result _ _
    (part_is c.args.body.now c.args.x c.args.place.now c.args.right.now c.in-Part.p c.in-Part.k c.as_slice.result.now c.in-Part.is (c.as_slice.ensures.value ∙ c.in_ok-cells-in-Part.ensures))
    c.part_row.ensures

pub returns-in_ok-cells-in-Pattern : goal.returns-in_ok-cells-in-Pattern
returns-in_ok-cells-in-Pattern g c = ok_same c.part_row-in-Pattern.result _ _
    (pattern_is c.args.body.now c.args.x c.args.place.now c.args.right.now c.in-Pattern.y c.in-Pattern.p c.as_slice-in-Pattern.result.now c.in-Pattern.is
    (c.as_slice-in-Pattern.ensures.value ∙ c.in_ok-cells-in-Pattern.ensures)) c.part_row-in-Pattern.ensures
