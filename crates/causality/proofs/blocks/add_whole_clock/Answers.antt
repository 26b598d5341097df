use Rattle.std.specs.Prelude.{OnOk}
use Rattle.std.proofs.Common.{◌≡◌, ◌++◌, ◌∙◌, ap, subst, sym}
use Rattle.ls_places.specs.Clocks.{bare}
use Rattle.ls_places.specs.Search.{nth}
use Rattle.causality_rules.specs.Reads.{clock_rows}
use Rattle.causality.proofs.Graphed.{clock_missing, clock_present, nothing_after}
use Rattle.causality.proofs.blocks.add_whole_clock.Goals as goal

pub returns-in-None : goal.returns-in-None
returns-in-None c =
    nothing_after c.args.out.now ∙ ap (λ z. c.args.out.now ++ z) (sym (clock_missing c.args.d.now c.args.s.now c.args.k (c.in-None.ensures ∙ ap (λ z. nth z c.args.k) c.as_slice.ensures.value)))

pub returns-in-Some : goal.returns-in-Some
returns-in-Some c =
    let d = c.args.d.now in
    let w = c.in-Some.w.now in
    subst (λ z. OnOk c.add_clock.result (c.add_clock.new.out ≡ c.args.out.now ++ z))
    (ap (clock_rows d) (c.bare.ensures ∙ ap (λ z. bare z w.expr.note.ck) c.len.ensures.value)
    ∙ sym (clock_present d c.args.s.now c.args.k w (c.in-Some.ensures ∙ ap (λ z. nth z c.args.k) c.as_slice.ensures.value))) c.add_clock.ensures
