-- Where the last binding of a name and a list stands.
use Rattle.std.specs.Prelude.{ℕ, not, Bool, true, false, List, [], ◌∷◌, Option, Some, None, option_map, nat_eq, Vec}
use Rattle.std.specs.Global.{Global}
use Rattle.std.specs.Map.{lookup}
use Rattle.std.specs.Cmp.Lexicographic.{pointwise}
use Rattle.scope_rules.specs.Places.{Place, later}
use Rattle.scope_rules.specs.declared.places.Site.{Site}
use Rattle.ls_scope.specs.Keys.{key_of}

abbrev pub after_place : Option Place → Place → Bool
after_place None q = false
after_place (Some p) q = not (later p q)

-- what is found last
abbrev pub or_this : {A : Type 0} → Option A → Bool → A → Option A
or_this (Some y) b x = Some y
or_this None true x = Some x
or_this None false x = None

abbrev pub last_where : {A : Type 0} → (A → Bool) → List A → Option A
last_where f [] = None
last_where f (x ∷ xs) = or_this (last_where f xs) (f x) x

abbrev pub has_key : List ℕ → Site → Bool
has_key k s = pointwise nat_eq k (key_of s)

-- where the last binding under a key stands
abbrev pub last_place : List ℕ → List Site → Option Place
last_place k all = option_map (λ s. s.inner) (last_where (has_key k) all)

-- what a table tells under a key
abbrev pub told : List (Vec ℕ Global × Place) → List ℕ → Option Place
told es k = lookup (λ y. pointwise nat_eq k y.items) es
