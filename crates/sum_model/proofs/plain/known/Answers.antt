use Rattle.std.proofs.Common.{arith, ◌∙◌, ap, ◌≡◌, map, Some}
use Rattle.std.proofs.lemmas.Grind.{common_steps}
use Rattle.sum_model.specs.RunningSum.{row_in}
use Rattle.sum_model.proofs.RunningSumLemmas.{row_in-known}
use Rattle.sum_model.proofs.plain.known.Goals as goal

pub returns-clause-cells : goal.returns-clause-cells
returns-clause-cells c =
    let whole : c.loop-x.row.items ≡ map Some c.args.inputs.now = grind (arith, common_steps) in
    ap row_in whole ∙ row_in-known c.args.inputs.now
