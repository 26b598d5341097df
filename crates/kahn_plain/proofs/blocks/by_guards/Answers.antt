use Rattle.kahn_plain.specs.Equations as own
use Rattle.kahn_plain.proofs.Guards.{guards_empty, guards_more, guards_unknown}
use Rattle.kahn_plain.proofs.blocks.by_guards.Goals as goal

pub returns-in-empty : goal.returns-in-empty
returns-in-empty c =
    guards_empty c.args.states.now (own.in_state c.args.none.0 c.args.none.1) c.args.i c.args.all.now c.loop-g.g-index c.loop-g.rest.now _ c.in-empty.len_below c.loop-g-test.true c.loop-g.invariant

pub returns-in-None : goal.returns-in-None
returns-in-None c =
    guards_unknown c.args.states.now (own.in_state c.args.none.0 c.args.none.1) c.args.i c.args.all.now c.loop-g.g-index c.loop-g.rest.now c.cells-item.result c.as_slice.result.now _
    c.loop-g-test.true c.in-len1-up.len_at_least c.cells-item.is c.as_slice.ensures.value c.in-None.ensures c.loop-g.invariant

pub loop-g-preserved : goal.loop-g-preserved
loop-g-preserved c =
    guards_more c.args.states.now (own.in_state c.args.none.0 c.args.none.1) c.args.i c.args.all.now c.loop-g.g-index c.loop-g.rest.now c.cells-item.result c.as_slice.result.now c.in-Some.c.now _
    c.loop-g-test.true c.in-len1-up.len_at_least c.cells-item.is c.as_slice.ensures.value c.in-Some.ensures c.if-is_case.ensures c.loop-g.invariant
