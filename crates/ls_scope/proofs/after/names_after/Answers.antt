use Rattle.std.proofs.Common.{◌≡◌, ◌∙◌, ap, drop, ◌+◌}
use Rattle.scope_rules.specs.After.{joint}
use Rattle.ls_scope.proofs.NameLaws.{joint_step}
use Rattle.ls_scope.proofs.after.names_after.Goals as goal

pub loop-k-preserved : goal.loop-k-preserved
loop-k-preserved c =
    ap (λ z. joint z (drop (c.loop-k.k + 1) c.args.env.now.names)) c.in_ok-add_spelling.ensures
    ∙ joint_step c.loop-k.names c.args.env.now.names c.loop-k.k ∙ c.loop-k.invariant
