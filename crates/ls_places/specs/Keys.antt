-- The key of a variable, which it is found by: its name, and the arms around its list.
use Rattle.std.specs.Prelude.{ℕ, List, [], ◌∷◌}
use Rattle.ls_places.specs.declared.places.Variable.{Variable}
use Rattle.ls_places.specs.Places.{InnerArm}

abbrev pub flat : List InnerArm → List ℕ
flat [] = []
flat (a ∷ p) = a.0 ∷ a.1 ∷ flat p

abbrev pub key : ℕ → List InnerArm → List ℕ
key x p = x ∷ flat p

abbrev pub key_of : Variable → List ℕ
key_of v = key v.name v.list
