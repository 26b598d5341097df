use Rattle.place_tables.specs.Groups as own
use Rattle.place_tables.proofs.Grouping.{keys_next}
use Rattle.place_tables.proofs.Lists.{get_any}
use Rattle.place_tables.proofs.groups.add_keys.Goals as goal

pub loop-x-preserved : goal.loop-x-preserved
loop-x-preserved c = keys_next c.args.keys.now c.loop-x.x-index _ c.args.k (own.group c.loop-x.groups) (own.group c.add_item.new.groups)
    (λ y. own.keyed c.args.k y c.args.keys.now (own.group c.args.groups.now y)) c.loop-x-test.true (get_any c.args.keys.now c.loop-x.x-index _ c.loop-x-test.true)
    c.in_ok-add_item.ensures c.loop-x.invariant
