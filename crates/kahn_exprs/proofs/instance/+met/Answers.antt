use Rattle.std.proofs.Common.{sym, ap, ◌+◌}
use Rattle.kahn_exprs.proofs.Meeting.{ended, met_one}
use Rattle.kahn_exprs.proofs.instance.+met.Goals as goal

pub add_all_met-returns-in-None : goal.add_all_met-returns-in-None
add_all_met-returns-in-None t c =
    ended c.args.body.now c.args.signature.now c.args.all.now c.loop-ck.ck-index c.loop-ck.j c.loop-ck.done _ c.loop-ck.invariant.0 c.in-None.ensures c.loop-ck.invariant.1

pub add_all_met-loop-ck-preserved : goal.add_all_met-loop-ck-preserved
add_all_met-loop-ck-preserved t c = (
  ap (λ z. z + 1) c.loop-ck.invariant.0,
  met_one c.args.body.now c.args.signature.now c.args.all.now c.loop-ck.ck-index c.loop-ck.j c.ck-item.result c.in-Some.t.now c.loop-ck.done _ _ c.loop-ck-test.true (sym c.ck-item.is)
      c.loop-ck.invariant.0 c.in-Some.ensures c.in_ok-add_met-in-Some.ensures c.loop-ck.invariant.1,
)
