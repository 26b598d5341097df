-- What the parts of a machine have to do with one another.
use Rattle.std.specs.Prelude.{◌≡◌, length, All}
use Rattle.step_code.specs.Steps.{form_of}
use Rattle.step_runner.specs.Ranges.{IsKnown}
use Rattle.step_runner.specs.declared.machine.Machine.TheInside.{Inside}

pub record IsRunning (m : Inside) : Type 0 where
  pub form : m.form ≡ form_of m.code
  pub slots : length m.slots.items ≡ length m.code.slots
  pub row : length m.row ≡ length m.code.outputs
  pub known : All (λ leaf. IsKnown m.code.cases leaf) m.slots.items
