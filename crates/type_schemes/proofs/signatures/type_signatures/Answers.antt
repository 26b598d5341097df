use Rattle.std.proofs.Common.{sym}
use Rattle.type_schemes.proofs.Firsts.{signature_turn}
use Rattle.type_schemes.proofs.signatures.type_signatures.Goals as goal

pub loop-def-preserved : goal.loop-def-preserved
loop-def-preserved c =
    signature_turn c.as_slice-defs.result.now c.loop-def.def-index c.def-item.result c.loop-def.list c.add_signature.new.list _ c.loop-def-test.true (sym c.def-item.is) c.in_ok-add_signature.ensures c.loop-def.invariant
