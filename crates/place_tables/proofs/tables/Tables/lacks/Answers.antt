use Rattle.std.proofs.Common.{◌≡◌, ◌<◌, length, subst, sym}
use Rattle.ls_places.specs.Search as spec
use Rattle.ls_places.specs.declared.definition.Definition.{Definition}
use Rattle.place_tables.proofs.Lacking.{lacks_at, lacks_past}
use Rattle.place_tables.proofs.tables.Tables.lacks.Goals as goal

pub returns-in-Some : goal.returns-in-Some
returns-in-Some c =
    subst (λ (z : Definition). c.in-Some.lacks.now ≡ spec.lacks z (spec.sites_of c.args.x z.places.sites)) c.self.view_is
    (lacks_at c.self.inside.def c.self.inside.numbers.sites c.self.inside.lacks c.args.x c.in-Some.lacks.now c.self.invariant.lacking_are c.self.invariant.numbers_are.sites
    (subst (λ (z : Definition). c.args.x < length z.places.vars) (sym c.self.view_is) c.requires) c.in-Some.ensures.value)

pub returns-in-None : goal.returns-in-None
returns-in-None c =
    lacks_past c.self.inside.def c.self.inside.numbers.sites c.self.inside.lacks c.args.x c.self.invariant.lacking_are
    (subst (λ (z : Definition). c.args.x < length z.places.vars) (sym c.self.view_is) c.requires) c.in-None.ensures.value
