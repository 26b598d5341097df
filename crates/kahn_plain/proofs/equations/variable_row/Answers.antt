use Rattle.std.proofs.Common.{◌∙◌, ap}
use Rattle.ls_places.specs.Search.{nth}
use Rattle.ls_places.specs.declared.definition.Definition.{Definition}
use Rattle.kahn_plain.proofs.Rights.{found_within, variable_is}
use Rattle.kahn_plain.proofs.Standing.{ok_same}
use Rattle.kahn_plain.proofs.equations.variable_row.Goals as goal

pub by_sites-requires-clause-range : goal.by_sites-requires-clause-range
by_sites-requires-clause-range g c = found_within c.args.body.now.def.now.places.vars c.args.x c.in-Some.w.now
    (c.in-Some.ensures ∙ ap (λ z. nth z c.args.x) (c.as_slice.ensures.value ∙ ap (λ (d : Definition). d.places.vars) c.definition.ensures))

pub returns-in_ok-cells-in-Some : goal.returns-in_ok-cells-in-Some
returns-in_ok-cells-in-Some g c = ok_same c.on_variable.result _ _ (variable_is c.args.body.now c.args.x c.in-Some.w.now c.as_slice-in-Some.result.now
    (c.as_slice-in-Some.ensures.value ∙ c.in_ok-cells-in-Some.ensures)
    (c.in-Some.ensures ∙ ap (λ z. nth z c.args.x) (c.as_slice.ensures.value ∙ ap (λ (d : Definition). d.places.vars) c.definition.ensures))) c.on_variable.ensures
