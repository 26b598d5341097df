use Rattle.ls_places.specs.Definitions.{case_place}
use Rattle.kahn_plain.proofs.Run.{network_is}
use Rattle.kahn_plain.proofs.Standing.{ok_same}
use Rattle.kahn_plain.proofs.node.node_row.Goals as goal

pub returns : goal.returns
returns c =
    ok_same c.meaning.result _ _ (network_is (case_place c.args.file.now) c.args.defs.now c.args.lines c.meanings_go_by_their_lines.ensures.meaning c.args.k c.args.args.now
    c.in_ok-context.context c.in_ok-context.ensures) c.meaning.ensures
