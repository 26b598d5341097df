use Rattle.std.proofs.Common.{sym}
use Rattle.ls_front.proofs.Counted.{enum_turn}
use Rattle.ls_front.proofs.enums.enum_names.Goals as goal

pub loop-def-preserved : goal.loop-def-preserved
loop-def-preserved g c =
    enum_turn c.args.defs.now c.loop-def.def-index c.def-item.result c.loop-def.list c.add_enum.new.list _ c.loop-def-test.true (sym c.def-item.is) c.in_ok-add_enum.ensures c.loop-def.invariant
