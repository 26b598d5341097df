use Rattle.std.proofs.Common.{◌++◌, ◌∙◌, ap, sym}
use Rattle.std.specs.Prelude.{codes}
use Rattle.clock_text.specs.Texts as spec
use Rattle.text_write.proofs.Writing.{prints_more, prints_as}
use Rattle.clock_text.proofs.lines.print_param.Goals as goal

pub returns-then-not-named : goal.returns-then-not-named
returns-then-not-named g c =
    let s = spec.spelling c.args.by.now in
    prints_as _ _ _ _ _ _ _ (spec.param_text s c.args.named c.args.i c.args.t.now) (prints_more _ _ _ _ _ _ _ _ _ _ _ c.print_term-printed.ensures c.put.ensures)
    (ap (λ b. spec.param_text s b c.args.i c.args.t.now) c.if-not-named.true)

pub returns : goal.returns
returns g c =
    let s = spec.spelling c.args.by.now in
    prints_as _ _ _ _ _ _ _ (spec.param_text s c.args.named c.args.i c.args.t.now)
    (prints_more _ _ _ _ _ _ _ _ _ _ _
    (prints_more _ _ _ _ _ _ _ _ _ _ _ (prints_more _ _ _ _ _ _ _ _ _ _ _ (prints_more _ _ _ _ _ _ _ _ _ _ _ c.put-opened.ensures c.put-told.ensures) c.put-parted.ensures) c.print_term-printed-2.ensures)
    c.put-2.ensures)
    (ap (λ b. spec.param_text s b c.args.i c.args.t.now) c.if-not-named.false
    ∙ (λ i. (((codes "(" ++ sym (c.as_slice.ensures.value ∙ c.clock_name.ensures) i) ++ codes " : ") ++ spec.shown s c.args.t.now) ++ codes ") -> "))
