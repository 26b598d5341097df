use Rattle.std.specs.Prelude.{◌≡◌, ◌++◌, ◌∷◌, [], map, IfOk}
use Rattle.std.proofs.Common.{ap, ◌∙◌, subst}
use Rattle.ls_base.specs.declared.Name.{Name}
use Rattle.scope_rules.specs.After.{renumbered}
use Rattle.ls_scope.proofs.after.with_enum_of.Goals as goal

pub returns : goal.returns
returns c =
    subst (λ z. IfOk c.with_enum.result (λ r. r ≡ record { enums = c.args.known.enums ++ z ∷ []; defs = c.args.known.defs }))
    (λ i. (c.renumbered.ensures i, (c.in_ok-cases.ensures ∙ ap (map (λ (x : Name). renumbered c.args.names.now c.args.theirs.now x.0)) c.as_slice.ensures.value) i))
    c.with_enum.ensures
