use Rattle.std.proofs.Common.{sym}
use Rattle.ls_front.proofs.Counted.{constructors_turn}
use Rattle.ls_front.proofs.enums.enum_constructors.Goals as goal

pub loop-def-preserved : goal.loop-def-preserved
loop-def-preserved g c =
    constructors_turn c.args.defs.now c.loop-def.def-index c.def-item.result c.loop-def.list c.add_constructors.new.list _ c.loop-def-test.true (sym c.def-item.is) c.in_ok-add_constructors.ensures c.loop-def.invariant
