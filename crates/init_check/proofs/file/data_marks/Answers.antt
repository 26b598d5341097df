use Rattle.std.proofs.Common.{◌∙◌, ap}
use Rattle.init_check.specs.Judged.{is_known_data}
use Rattle.init_check.proofs.Known.{marks_next}
use Rattle.init_check.proofs.file.data_marks.Goals as goal

pub loop-i-preserved : goal.loop-i-preserved
loop-i-preserved c =
    marks_next c.args.params.now c.args.marks.now c.loop-i.i c.loop-i.done c.push.new.self _ c.is_data.result c.loop-i-test.true c.in_ok-push.ensures.ok
    (c.is_data.ensures ∙ ap is_known_data c.nth.ensures) c.loop-i.invariant
