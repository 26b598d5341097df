use Rattle.std.proofs.Common.{sym}
use Rattle.clock_pairs.proofs.Named.{owned_turn}
use Rattle.clock_pairs.proofs.index.+add_names.Goals as goal

pub add_all_names-loop-pat-preserved : goal.add_all_names-loop-pat-preserved
add_all_names-loop-pat-preserved t c =
    owned_turn c.args.i c.args.all.now c.loop-pat.pat-index c.pat-item.result c.loop-pat.list.list c.add_names.new.list.list _ c.loop-pat-test.true (sym c.pat-item.is) c.in_ok-add_names.ensures c.loop-pat.invariant
