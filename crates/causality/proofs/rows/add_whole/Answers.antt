use Rattle.std.specs.Prelude.{OnOk}
use Rattle.std.proofs.Common.{◌≡◌, ◌++◌, ◌∙◌, ap, append_assoc, subst, sym}
use Rattle.ls_places.specs.Search.{nth}
use Rattle.ls_places.specs.declared.definition.Definition.{Definition}
use Rattle.causality_rules.specs.Reads.{place_rows, read_by}
use Rattle.causality.proofs.Graphed.{nothing_after, whole_missing, whole_present}
use Rattle.causality.proofs.rows.add_whole.Goals as goal

pub returns-in-None : goal.returns-in-None
returns-in-None c =
    let exprs = c.as_slice.ensures.value ∙ ap (λ (z : Definition). z.places.exprs) c.definition.ensures in
    nothing_after c.args.out.now ∙ ap (λ z. c.args.out.now ++ z) (sym (whole_missing c.args.d.now c.args.k (c.in-None.ensures ∙ ap (λ z. nth z c.args.k) exprs)))

pub returns-in_ok-add_place-in-Some : goal.returns-in_ok-add_place-in-Some
returns-in_ok-add_place-in-Some c =
    let d = c.args.d.now in
    let w = c.in-Some.whole.now in
    let exprs = c.as_slice.ensures.value ∙ ap (λ (z : Definition). z.places.exprs) c.definition.ensures in
    subst (λ z. OnOk c.add_expr.result (c.add_expr.new.out ≡ z))
    (ap (λ z. z ++ read_by d w.expr) (c.in_ok-add_place-in-Some.ensures ∙ ap (λ z. c.args.out.now ++ place_rows z) c.as_slice-in-Some.ensures.value)
    ∙ append_assoc c.args.out.now (place_rows w.place) (read_by d w.expr)
    ∙ ap (λ z. c.args.out.now ++ z) (sym (whole_present d c.args.k w (c.in-Some.ensures ∙ ap (λ z. nth z c.args.k) exprs)))) c.add_expr.ensures
