use Rattle.std.specs.Prelude.{◌≡◌, IfOk, refl}
use Rattle.std.proofs.Common.{subst, ◌∙◌}
use Rattle.ls_scope.proofs.Scenes.{mixed_is}
use Rattle.ls_scope.proofs.definition.is_mixed.Goals as goal

pub returns : goal.returns
returns g c =
    subst (λ z. IfOk c.mixed_by.result (λ r. r ≡ z))
    (mixed_is c.args.it.now c.requires.shows
    (record { vars = c.args.it.now.sight.vars; signals = c.as_slice.result; singles = c.as_slice-2.result; marks = c.args.marks; known = c.args.it.now.judged.now.known })
    refl (c.as_slice.ensures.value ∙ c.in_ok-signals.ensures) (c.as_slice-2.ensures.value ∙ c.in_ok-singles.ensures) c.requires.marks refl)
    c.mixed_by.ensures
