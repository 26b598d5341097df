use Rattle.kahn_exprs.specs.Standing as standing
use Rattle.kahn_plain.proofs.Sweeps.{known_more, some_is}
use Rattle.kahn_plain.proofs.turns.is_full.Goals as goal

pub loop-i-preserved : goal.loop-i-preserved
loop-i-preserved c = λ j p. known_more (standing.table c.args.rows.now c.args.key) c.loop-i.i c.loop-i.invariant
    (some_is (standing.table c.args.rows.now c.args.key c.loop-i.i) c.in-Some.field-0.now c.in-Some.ensures) j p
