use Rattle.case_tables.proofs.Casing.{gathered}
use Rattle.case_tables.proofs.cases.Cases.new.Goals as goal

pub returns : goal.returns
returns g c = gathered c.loop-def.places.list c.args.defs.now c.loop-def.def-index c.loop-def-test.false c.loop-def.invariant
