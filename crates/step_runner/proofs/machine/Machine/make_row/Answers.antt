use Rattle.std.proofs.Common.{◌∙◌, ap, subst, length}
use Rattle.std.specs.Prelude.{All}
use Rattle.line_io.specs.Rows.{IsWritable}
use Rattle.step_code.specs.Steps.{form_of}
use Rattle.step_runner.specs.Running.{Running}
use Rattle.step_runner.proofs.StepLemmas.{outputs_need, row_of_outputs}
use Rattle.step_runner.proofs.machine.Machine.make_row.Goals as goal

pub set_row-requires-clause-outputs : goal.set_row-requires-clause-outputs
set_row-requires-clause-outputs c =
    outputs_need c.self.inside.code _ c.as_slice.result.now (ap length c.deref.ensures.value ∙ c.self.invariant.slots) c.as_slice.ensures.value

pub returns-clause-writable : goal.returns-clause-writable
returns-clause-writable c =
    subst (λ (r : Running). All (IsWritable (form_of r.code)) c.set_row.new.row) c.self.view_is
    (row_of_outputs c.self.inside.code c.self.inside.slots.items c.deref.result.now c.as_slice.result.now c.set_row.new.row c.self.invariant.known c.deref.ensures.value c.as_slice.ensures.value c.set_row.ensures)
