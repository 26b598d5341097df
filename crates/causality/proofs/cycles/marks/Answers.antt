use Rattle.std.proofs.Common.{◌∙◌, ap, false, length}
use Rattle.std.proofs.Math.ListN.{replicate}
use Rattle.causality.specs.Cycles as spec
use Rattle.causality.proofs.Pushed.{blank_is}
use Rattle.causality.proofs.cycles.marks.Goals as goal

pub loop-k-init : goal.loop-k-init
loop-k-init c =
    ap (λ z. spec.marks_with z c.args.rows.now)
    (c.in_ok-marks.ensures.items_if_clones_equal (λ y h. h) ∙ ap (λ z. replicate z false) c.len.ensures.value ∙ blank_is (length c.args.d.now.places.resets))
