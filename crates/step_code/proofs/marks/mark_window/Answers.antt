use Rattle.std.proofs.Common.{◌+◌, ◌-◌, ◌<◌, ◌∙◌, sym, ap, length, arith}
use Rattle.std.specs.Prelude.{◌==◌, slice_index_or}
use Rattle.step_code.specs.Marks.{called_if, is_among}
use Rattle.step_code.proofs.MarkLemmas.{any_from-more, called-more}
use Rattle.step_code.proofs.marks.mark_window.Goals as goal

pub loop-at-preserved : goal.loop-at-preserved
loop-at-preserved c = record {
  size = c.mark_covered.ensures.0 ∙ c.loop-at.invariant.size;
  each = λ k d here.
      let was : k < length c.loop-at.marks = omega (arith, here, c.loop-at.invariant.size) in
      let end = c.args.window + c.args.width in
      let later = is_among (c.loop-at.at + 1) (end - (c.loop-at.at + 1)) k in
      c.loop-at.invariant.each k d here
      ∙ ap (λ t. called_if (slice_index_or c.loop-at.marks k d) t t) (any_from-more (λ j. j == k) c.loop-at.at end c.loop-at-test.true)
      ∙ sym (called-more (slice_index_or c.loop-at.marks k d) (c.loop-at.at == k) (c.loop-at.at == k) later later)
      ∙ ap (λ m. called_if m later later) (sym (c.mark_covered.ensures.1 k d was));
}
