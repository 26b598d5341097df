use Rattle.kahn_plain.proofs.Sweeps.{swept_done, swept_more, swept_none, turn_mono}
use Rattle.kahn_plain.proofs.turns.sweeps.Goals as goal

pub loop-t-init : goal.loop-t-init
loop-t-init g c =
    let b = c.args.body.now in
    swept_none b (turn_mono b c.turns_are_monotone.ensures.turn c.turns_are_monotone.ensures.meaning) c.args.rows.now c.requires.low

pub returns-then-not-branch : goal.returns-then-not-branch
returns-then-not-branch g c =
    let b = c.args.body.now in
    swept_done b (turn_mono b c.turns_are_monotone.ensures.turn c.turns_are_monotone.ensures.meaning) c.rows_may_be_made_one_by_one.ensures.settled
    c.args.times c.args.rows.now c.loop-t.rows c.sweep.new.rows c.in_ok-sweep.field-0 c.in_ok-sweep.ensures c.if-not-branch.true

pub loop-t-preserved : goal.loop-t-preserved
loop-t-preserved g c =
    let b = c.args.body.now in
    swept_more b (turn_mono b c.turns_are_monotone.ensures.turn c.turns_are_monotone.ensures.meaning)
    c.loop-t._t c.args.rows.now c.loop-t.rows c.sweep.new.rows c.in_ok-sweep.field-0 c.loop-t.invariant c.in_ok-sweep.ensures
