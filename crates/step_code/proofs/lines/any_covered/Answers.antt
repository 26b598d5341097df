use Rattle.std.proofs.Common.{◌+◌, ◌-◌, ◌∙◌, sym}
use Rattle.std.specs.Prelude.{◌||◌}
use Rattle.step_code.specs.Marks.{around as told}
use Rattle.step_code.specs.Valid as valid
use Rattle.step_code.proofs.MarkLemmas.{any_from-more}
use Rattle.step_code.proofs.lines.any_covered.Goals as goal

pub loop-at-preserved : goal.loop-at-preserved
loop-at-preserved c =
    c.loop-at.invariant
    ∙ any_from-more (valid.is_covered (told c.args.around.now) c.args.earlier.now) c.loop-at.at (c.args.window + c.args.width) c.loop-at-test.true
    ∙ (λ i. (sym c.is_covered.ensures ∙ c.if-is_covered.false) i
    || valid.any_from (valid.is_covered (told c.args.around.now) c.args.earlier.now) (c.loop-at.at + 1) (c.args.window + c.args.width - (c.loop-at.at + 1)))
