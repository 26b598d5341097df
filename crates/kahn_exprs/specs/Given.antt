-- Function values without their arguments.
use Rattle.std.specs.Prelude.{List, [], ◌∷◌, ◌++◌}
use Rattle.kahn_model.specs.Functions.{Arg, stream, def, given}

abbrev pub base_of : Arg → Arg
base_of (given f x) = base_of f
base_of (stream row) = stream row
base_of (def k clocks) = def k clocks

-- the arguments that it was given, the first one first
abbrev pub given_to : Arg → List Arg
given_to (given f x) = given_to f ++ x ∷ []
given_to _ = []
