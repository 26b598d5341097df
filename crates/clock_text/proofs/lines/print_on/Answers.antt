use Rattle.std.proofs.Common.{ap, ◌∙◌}
use Rattle.clock_text.proofs.Shows.{on_is}
use Rattle.clock_text.specs.Texts as spec
use Rattle.text_write.proofs.Writing.{prints_more, prints_as}
use Rattle.text_write.specs.Pieces.{opening, closing}
use Rattle.clock_text.proofs.lines.print_on.Goals as goal

pub returns : goal.returns
returns g c =
    prints_as _ _ _ _ _ _ _ (spec.on_text (spec.spelling c.args.by.now) c.args.m c.args.k)
    (prints_more _ _ _ _ _ _ _ _ _ _ _
    (prints_more _ _ _ _ _ _ _ _ _ _ _ (prints_more _ _ _ _ _ _ _ _ _ _ _ (prints_more _ _ _ _ _ _ _ _ _ _ _ c.put-begun.ensures c.put-cased.ensures) c.put-opened.ensures) c.put-named.ensures)
    c.put.ensures)
    (on_is (spec.spelling c.args.by.now) c.args.m c.args.k c.enum_at-of.result c.before_name.result.now c.opening.result.now c.as_slice.result.now c.closing.result.now c.enum_at-of.ensures c.before_name.ensures
    (c.opening.ensures ∙ ap opening c.is_some-is_enum.ensures) (c.as_slice.ensures.value ∙ c.clock_name.ensures) (c.closing.ensures ∙ ap closing c.is_some-is_enum.ensures))
