use Rattle.std.proofs.Common.{sym}
use Rattle.kahn_cells.proofs.Binds.{binds_next}
use Rattle.kahn_cells.proofs.search.+binds.Goals as goal

pub any_binds-returns-then-binds : goal.any_binds-returns-then-binds
any_binds-returns-then-binds t c = binds_next c.args.all.now c.loop-p.p-index c.p-item.result c.args.x _ _ _ c.loop-p-test.true (sym c.p-item.is) c.binds.ensures c.if-binds.true c.loop-p.invariant

pub any_binds-loop-p-preserved : goal.any_binds-loop-p-preserved
any_binds-loop-p-preserved t c = binds_next c.args.all.now c.loop-p.p-index c.p-item.result c.args.x _ _ _ c.loop-p-test.true (sym c.p-item.is) c.binds.ensures c.if-binds.false c.loop-p.invariant
