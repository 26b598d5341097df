use Rattle.std.proofs.Common.{◌≡◌, ◌∙◌, ap, subst}
use Rattle.ls_places.specs.Search as spec
use Rattle.ls_places.specs.declared.definition.Definition.{Definition}
use Rattle.block_tables.specs.Signals as signals
use Rattle.block_tables.proofs.Seen.{signal_found}
use Rattle.block_tables.proofs.tables.BlockTables.signal_at.Goals as goal

pub returns : goal.returns
returns c =
    let p = c.args.p.now in
    let vars = c.self.inside.tables.places.vars in
    subst (λ (z : Definition). c.signal_among.result ≡ spec.signal_at z c.args.x p) c.self.view_is
    (c.signal_among.ensures ∙ ap (λ z. signals.signal_among p z c.group.result.now) (c.as_slice.ensures.value ∙ ap (λ (z : Definition). z.places.vars) c.definition.ensures)
    ∙ ap (signals.signal_among p vars) (c.group.ensures.value ∙ c.self.invariant.vars_are c.args.x) ∙ signal_found c.args.x p vars)
