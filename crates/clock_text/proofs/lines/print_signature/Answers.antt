use Rattle.std.proofs.Common.{◌++◌, sym}
use Rattle.std.specs.Prelude.{codes}
use Rattle.clock_text.specs.Texts as spec
use Rattle.text_write.proofs.Writing.{prints_more, prints_as}
use Rattle.clock_text.proofs.lines.print_signature.Goals as goal

pub returns : goal.returns
returns g c =
    let s = spec.spelling c.args.by.now in
    prints_as _ _ _ _ _ _ _ (spec.line_by s c.args.sig.now)
    (prints_more _ _ _ _ _ _ _ _ _ _ _
    (prints_more _ _ _ _ _ _ _ _ _ _ _ (prints_more _ _ _ _ _ _ _ _ _ _ _ (prints_more _ _ _ _ _ _ _ _ _ _ _ c.put-begun.ensures c.put-named.ensures) c.put-told.ensures) c.print_params-listed.ensures)
    c.print_term.ensures)
    (λ i. (((codes "val " ++ sym c.spelled.ensures i) ++ codes " :: ") ++ spec.params_text s (sym c.as_slice.ensures.value i) 0 c.args.sig.now.clocks) ++ spec.shown s c.args.sig.now.result_clock)
