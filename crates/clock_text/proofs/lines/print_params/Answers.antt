use Rattle.std.proofs.Common.{ap, sym}
use Rattle.clock_text.proofs.Turns.{param_turn}
use Rattle.clock_text.specs.Texts as spec
use Rattle.text_write.proofs.Writing.{halfway_start, prints_as}
use Rattle.clock_text.proofs.lines.print_params.Goals as goal

pub loop-i-init : goal.loop-i-init
loop-i-init g c = halfway_start c.args.ok (g.K.Sink.written c.args.out.now) (g.K.Sink.count c.args.out.now) (spec.params_text (spec.spelling c.args.by.now) c.args.marks.now 0 c.as_slice-list.result.now)

pub loop-i-preserved : goal.loop-i-preserved
loop-i-preserved g c =
    let s = spec.spelling c.args.by.now in
    param_turn s c.args.marks.now c.as_slice-list.result.now c.loop-i.i c.index-list-i.result _ _ _ _ _ _ _ _ _ _ c.loop-i-test.true (sym c.index-list-i.is)
    (prints_as _ _ _ _ _ _ _ _ c.print_param-so_far.ensures (ap (λ b. spec.param_text s b c.loop-i.i c.index-list-i.result) (sym c.is_clock.ensures))) c.loop-i.invariant
