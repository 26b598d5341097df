use Rattle.std.proofs.Common.{◌∙◌, sym}
use Rattle.kahn_plain.proofs.CallDepth.{any_next}
use Rattle.kahn_plain.proofs.alarmed.any_alarm.Goals as goal

pub loop-back-preserved : goal.loop-back-preserved
loop-back-preserved g c =
    c.in_ok-done-2.ensures ∙ any_next c.args.body.now c.args.all.now c.loop-back.back c.index-all-all.result c.as_slice.result.now c.as_slice-in-loop-back.result.now c.as_slice-in-loop-back-2.result.now
    c.loop-back-test.true (sym c.index-all-all.is) (c.as_slice-in-loop-back.ensures.value ∙ c.in_ok-one.ensures) c.as_slice.ensures.value (c.as_slice-in-loop-back-2.ensures.value ∙ c.loop-back.invariant)
