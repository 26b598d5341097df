-- The constructors of a file with their places.
use Rattle.std.specs.Prelude.{ℕ, zero, suc, List, [], ◌∷◌, ◌++◌, Option, Some}
use Rattle.ls_ast.specs.declared.tree.DefOf.{DefOf}
use Rattle.ls_ast.specs.declared.tree.DefOf.TheVariants as item
use Rattle.ls_base.specs.declared.Name.{Name}
use Rattle.term_unify.specs.Terms.{first}
use Rattle.case_tables.specs.declared.cases.Cases.{Cases}

abbrev pub places_from : List Name → ℕ → List (ℕ × ℕ)
places_from [] k = []
places_from (x ∷ xs) k = (x.0, k) ∷ places_from xs (suc k)

module _ {N : Type 0} where
  abbrev pub places_of : DefOf N → List (ℕ × ℕ)
  places_of (item.Cases line name cases) = places_from cases 0
  places_of (item.Let line node name params marks notes body) = []

  abbrev pub places : List (DefOf N) → List (ℕ × ℕ)
  places [] = []
  places (d ∷ ds) = places_of d ++ places ds

-- the names of `false` and `true` are 0 and 1
abbrev pub place_at : List (ℕ × ℕ) → ℕ → Option ℕ
place_at list zero = Some 0
place_at list (suc zero) = Some 1
place_at list (suc (suc x)) = first list (suc (suc x))

-- where a constructor stands by the table
abbrev pub place : Cases → ℕ → Option ℕ
place it x = place_at it.places.list x
