use Rattle.std.proofs.Common.{◌∙◌, ap}
use Rattle.ls_places.specs.Places as spec
use Rattle.ls_places.proofs.Found.{found_at}
use Rattle.ls_places.proofs.vars.Variables.place_of.Goals as goal

pub returns-in-Some : goal.returns-in-Some
returns-in-Some c =
    c.in-Some.ensures.index
    ∙ found_at (λ k. k.items) c.self.inside.keys.keys c.self.inside.list c.args.x c.args.list.now c.as_slice.result.now c.self.invariant (c.as_slice.ensures.value ∙ c.in_ok-key.ensures)
    ∙ ap (λ l. spec.place_of c.args.x c.args.list.now l 0) c.self.view_is

pub returns : goal.returns
returns c =
    c.in-None.ensures.index
    ∙ found_at (λ k. k.items) c.self.inside.keys.keys c.self.inside.list c.args.x c.args.list.now c.as_slice.result.now c.self.invariant (c.as_slice.ensures.value ∙ c.in_ok-key.ensures)
    ∙ ap (λ l. spec.place_of c.args.x c.args.list.now l 0) c.self.view_is
