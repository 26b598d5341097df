use Rattle.std.proofs.Common.{arith}
use Rattle.sum_model.specs.RunningSum.{row_in}
use Rattle.sum_model.proofs.RunningSumLemmas.{row_in-made}
use Rattle.sum_model.proofs.plain.next_table.Goals as goal

pub returns-clause-cells : goal.returns-clause-cells
returns-clause-cells c = row_in-made c.args.body c.args.inputs.now (row_in c.args.table.now) c.loop-i.next.items (omega arith) (λ k h. c.loop-i.invariant.cells k (omega arith))
