use Rattle.ls_terms.specs.declared.types.TypeTerm.TheVariants as t
use Rattle.type_readings.proofs.Turns.{repeat_turn}
use Rattle.type_readings.proofs.operators.bools.Goals as goal

pub loop-k-preserved : goal.loop-k-preserved
loop-k-preserved c = repeat_turn t.Bool c.loop-k.k c.args.count c.loop-k.list c.push.new.self _ c.loop-k-test.true c.in_ok-push.ensures.ok c.loop-k.invariant
