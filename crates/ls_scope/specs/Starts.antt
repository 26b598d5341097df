-- Keys of initial equations, and keys that come one after the other.
use Rattle.std.specs.Prelude.{ℕ, List, [], ◌∷◌}
use Rattle.scope_rules.specs.Places.{Place}
use Rattle.ls_scope.specs.Keys.{key, with_key}

abbrev pub start_key : ℕ × Place → List ℕ
start_key s = key s.0 s.1

abbrev pub with_keys : List (List ℕ) → List (List ℕ) → List (List ℕ)
with_keys done [] = done
with_keys done (k ∷ ks) = with_keys (with_key done k) ks
