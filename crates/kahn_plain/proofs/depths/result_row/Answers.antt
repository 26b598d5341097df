use Rattle.kahn_exprs.specs.Standing.{table}
use Rattle.kahn_plain.proofs.CallDepth.{result_is}
use Rattle.kahn_plain.proofs.Standing.{ok_same}
use Rattle.kahn_plain.proofs.depths.result_row.Goals as goal

pub returns : goal.returns
returns g c =
    ok_same c.row.result _ _ (result_is c.args.body.now (table c.in_ok-known.known) c.definition.result.now c.in_ok-known.ensures.table c.definition.ensures) c.row.ensures
