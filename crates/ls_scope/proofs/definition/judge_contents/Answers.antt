use Rattle.std.specs.Prelude.{map, refl}
use Rattle.std.proofs.Common.{ap, ◌∙◌}
use Rattle.scope_rules.specs.Faults.{asked_by}
use Rattle.ls_scope.specs.Told.{told}
use Rattle.ls_scope.proofs.Outcomes.{shows}
use Rattle.ls_scope.proofs.definition.judge_contents.Goals as goal

pub judge_scene-requires : goal.judge_scene-requires
judge_scene-requires g c =
    shows _ c.requires refl
    (c.as_slice-2.ensures.value ∙ c.in_ok-asks.ensures
    ∙ ap (λ z. map (asked_by (record { params = c.args.params.now; vars = c.args.vars.now; defs = c.args.d.now.known.now.defs })) (map told z)) c.as_slice.ensures.value)
