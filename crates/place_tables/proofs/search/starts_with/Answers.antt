use Rattle.place_tables.proofs.Lists.{starts_empty}
use Rattle.place_tables.proofs.search.starts_with.Goals as goal

pub returns-in-empty : goal.returns-in-empty
returns-in-empty c = starts_empty c.loop-c.rest.now c.args.q.now c.loop-c.c-index _ c.in-empty.len_below c.loop-c-test.true c.loop-c.invariant
