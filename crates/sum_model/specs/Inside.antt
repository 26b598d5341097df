-- What the parts of a machine have to do with one another.
use Rattle.std.specs.Prelude.{◌≡◌, length}
use Rattle.sum_model.specs.Running.{int_form}
use Rattle.sum_model.specs.declared.machine.Machine.TheInside.{Inside}

pub record IsRunning (m : Inside) : Type 0 where
  pub form : m.form ≡ int_form
  pub row : length m.row ≡ 1
