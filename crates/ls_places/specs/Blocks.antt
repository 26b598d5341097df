-- What a block keeps of each of its arms.
use Rattle.std.specs.Prelude.{ℕ, Option, option_map}
use Rattle.ls_ast.specs.declared.tree.Arm.{Arm}
use Rattle.ls_ast.specs.declared.tree.Test.{Test}
use Rattle.ls_places.specs.Places.{named_case}

module _ {N : Type 0} where
  -- the place of its constructor
  abbrev pub case_of : (ℕ → Option ℕ) → Arm N → Option ℕ
  case_of cases a = named_case cases (option_map (λ c. c.0) a.case)

  -- the name of its signal
  abbrev pub signal_of : Test N → ℕ
  signal_of t = t.signal.0
