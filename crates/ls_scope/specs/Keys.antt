-- The key of a variable, which it is found by: its name, and the arms around its list.
use Rattle.std.specs.Prelude.{ℕ, List, [], ◌∷◌, ◌++◌, Option, Some, None, nat_eq, nat_le, if◌then◌else◌}
use Rattle.std.specs.List.{list_any}
use Rattle.std.specs.Cmp.Lexicographic.{pointwise}
use Rattle.scope_rules.specs.Places.{Place}
use Rattle.scope_rules.specs.declared.places.Site.{Site}
use Rattle.scope_rules.specs.Faults.{place_where}

abbrev pub flat : Place → List ℕ
flat [] = []
flat (a ∷ p) = a.0 ∷ a.1 ∷ flat p

abbrev pub key : ℕ → Place → List ℕ
key x p = x ∷ flat p

abbrev pub key_of : Site → List ℕ
key_of s = key s.var s.list

-- the lower of two places
abbrev pub earlier : Option ℕ → Option ℕ → Option ℕ
earlier None b = b
earlier (Some i) None = Some i
earlier (Some i) (Some j) = Some (if nat_le i j then i else j)

abbrev pub place_in : List (List ℕ) → List ℕ → Option ℕ
place_in keys k = place_where (pointwise nat_eq k) keys

-- the first place of the keys that begin with `start` and go on along a place, `best` being what is found so far
abbrev pub along : List (List ℕ) → List ℕ → Place → Option ℕ → Option ℕ
along keys start [] best = best
along keys start (a ∷ p) best = along keys (start ++ flat (a ∷ [])) p (earlier best (place_in keys (start ++ flat (a ∷ []))))

abbrev pub first_seen : List (List ℕ) → ℕ → Place → Option ℕ
first_seen keys x p = along keys (x ∷ []) p (place_in keys (x ∷ []))

-- keys with one that is added: it goes last, unless it is there
abbrev pub with_key : List (List ℕ) → List ℕ → List (List ℕ)
with_key keys k = if list_any (pointwise nat_eq k) keys then keys else keys ++ k ∷ []
