use Rattle.std.specs.Prelude.{[], unwrap_or}
use Rattle.std.proofs.Common.{◌≡◌, ◌∙◌, ap, subst, sym}
use Rattle.ls_places.specs.Search as spec
use Rattle.ls_places.specs.declared.definition.Definition.{Definition}
use Rattle.kahn_cells.proofs.Maps.{narrow_is}
use Rattle.kahn_cells.proofs.prepared.Prepared.home.Goals as goal

pub returns-in-None : goal.returns-in-None
returns-in-None c =
    subst (λ (z : Definition). [] ≡ spec.home_of c.args.w z.places.exprs) c.self.view_is
    (ap (λ z. unwrap_or z []) (c.in-None.ensures.value ∙ c.self.invariant.clocks_are.homes c.args.w) ∙ sym (narrow_is (spec.places_of c.args.w c.self.inside.def.places.exprs)))

pub returns-in-Some : goal.returns-in-Some
returns-in-Some c =
    subst (λ (z : Definition). c.as_slice.result.now ≡ spec.home_of c.args.w z.places.exprs) c.self.view_is
    (c.as_slice.ensures.value ∙ ap (λ z. unwrap_or z []) (c.in-Some.ensures.value ∙ c.self.invariant.clocks_are.homes c.args.w)
    ∙ sym (narrow_is (spec.places_of c.args.w c.self.inside.def.places.exprs)))
