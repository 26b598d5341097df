use Rattle.std.specs.Prelude.{◌≡◌, ◌+◌, ◌++◌, ◌∷◌, []}
use Rattle.std.proofs.Common.{take, arith}
use Rattle.std.proofs.lemmas.Grind.{common_steps}
use Rattle.scope_rules.specs.After.{enum_as, renumbered}
use Rattle.ls_scope.proofs.Renumbered.{enums_next}
use Rattle.ls_scope.proofs.after.with_enums.Goals as goal

pub loop-e-preserved : goal.loop-e-preserved
loop-e-preserved c =
    let more : take (c.loop-e.e-index + 1) c.args.enums.now ≡ take c.loop-e.e-index c.args.enums.now ++ c.e-item.result ∷ [] = grind (arith, common_steps) in
    enums_next (enum_as (renumbered c.args.names.now c.args.theirs.now)) c.args.enums.now c.loop-e.e-index c.e-item.result c.loop-e.known _ more c.loop-e.invariant c.in_ok-next.ensures
