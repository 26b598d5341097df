use Rattle.std.specs.Prelude.{◌≡◌, ◌+◌, ◌++◌, ◌∷◌}
use Rattle.std.proofs.Common.{ap, ◌∙◌, drop, arith}
use Rattle.std.proofs.lemmas.Grind.{common_steps}
use Rattle.scope_rules.specs.Places.{names_of}
use Rattle.ls_scope.proofs.Signals.{singles_next}
use Rattle.ls_scope.proofs.mixed.singles_of.Goals as goal

pub loop-pat-preserved : goal.loop-pat-preserved
loop-pat-preserved c =
    let e : drop c.loop-pat.pat-index c.args.params.now ≡ c.pat-item.result ∷ drop (c.loop-pat.pat-index + 1) c.args.params.now = grind (arith, common_steps) in
    singles_next c.args.params.now c.loop-pat.pat-index c.pat-item.result c.loop-pat.done _ _ _ _ e c.is_name.ensures
    (c.as_slice.ensures.value ∙ c.in_ok-add_names.ensures ∙ ap (λ z. z ++ names_of c.pat-item.result) c.new-names.ensures)
    c.in_ok-add_singles.ensures c.loop-pat.invariant
