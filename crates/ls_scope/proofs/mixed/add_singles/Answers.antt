use Rattle.ls_scope.proofs.Signals.{singles_more}
use Rattle.ls_scope.proofs.mixed.add_singles.Goals as goal

pub loop-name-preserved : goal.loop-name-preserved
loop-name-preserved c = singles_more c.args.single c.args.names.now c.loop-name._name-index c.loop-name.done _ _ c.loop-name-test.true c.in_ok-push.ensures.ok c.loop-name.invariant
