use Rattle.std.proofs.Common.{◌∙◌, ◌+◌, ap, drop}
use Rattle.ls_places.specs.Search as search
use Rattle.kahn_exprs.proofs.Here.{within_next}
use Rattle.kahn_exprs.proofs.memory.arms_within.Goals as goal

pub loop-a-preserved : goal.loop-a-preserved
loop-a-preserved c =
    ap (search.arms_within (drop (c.loop-a._a-index + 1) c.args.list.now)) c.inner_arms-rest.ensures
    ∙ within_next c.args.list.now c.loop-a._a-index (0, 0) c.loop-a.rest.now _ c.loop-a-test.true c.loop-a.invariant
