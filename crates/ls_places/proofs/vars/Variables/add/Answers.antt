use Rattle.std.proofs.Common.{◌∙◌, ap}
use Rattle.ls_places.specs.Keys.{key}
use Rattle.ls_places.specs.Places as spec
use Rattle.ls_places.proofs.Found.{key_added, if_ok}
use Rattle.ls_places.proofs.vars.Variables.add.Goals as goal

pub invariant_of-self-2 : goal.invariant_of-self-2
invariant_of-self-2 c =
    let none = ap (λ l. spec.place_of c.args.variable.name c.args.variable.list l 0) c.self.view_is ∙ c.requires in
    let put = if_ok c.insert.result _ (c.insert.ensures.succeeds c.in_ok-reserve.ensures.ok) c.insert.ensures.keys in
    key_added (λ k. k.items) c.self.inside.keys.keys c.reserve.new.self.keys c.insert.new.self.keys c.in_ok-key.key c.self.inside.list c.push.new.self c.args.variable
    c.self.invariant (c.in_ok-key.ensures ∙ ap (key c.args.variable.name) c.as_slice.ensures.value) none c.in_ok-push.ensures.ok
    c.in_ok-reserve.ensures.keys put
