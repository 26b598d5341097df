use Rattle.std.proofs.Common.{rules, ◌≡◌, ◌∙◌, w64}
use Rattle.std.proofs.Math.Facts.{to_z-of_z}
use Rattle.sum_model.specs.Running.{result_at}
use Rattle.sum_model.proofs.RunningLemmas.{row_made}
use Rattle.sum_model.proofs.machine.Machine.advance.Goals as goal

pub returns-clause-row : goal.returns-clause-row
returns-clause-row c =
    let value : c.value_of-value.result ≡ result_at c.args.self.now.body c.args.self.now.memory c.args.input = search rules in
    row_made _ _ _ _ c.self.invariant.row c.set.ensures (to_z-of_z {w = w64} (record { sfits = c.value_of-value.type_inv }) ∙ value)
