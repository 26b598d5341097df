-- The names that a definition's maps list.
use Rattle.std.specs.Prelude.{ℕ, suc, List, [], ◌∷◌, ◌++◌}
use Rattle.ls_ast.specs.declared.tree.Pat.{Pat}
use Rattle.ls_places.specs.Patterns.{names_of}
use Rattle.ls_places.specs.declared.places.Named.{Named}
use Rattle.ls_places.specs.declared.places.Named.TheVariants as named

-- each name with the number of its parameter
abbrev pub owned : ℕ → List ℕ → List (ℕ × ℕ)
owned i [] = []
owned i (x ∷ xs) = (x, i) ∷ owned i xs

abbrev pub owners : List Pat → ℕ → List (ℕ × ℕ)
owners [] i = []
owners (p ∷ ps) i = owned i (names_of p) ++ owners ps (suc i)

abbrev pub brought_by : Named → ℕ → List (ℕ × ℕ)
brought_by (named.Clock x) m = (x, m) ∷ []
brought_by (named.Match k all p) m = []
brought_by (named.Present xs p) m = []
brought_by (named.Active all p) m = []
brought_by (named.Tested all p) m = []

-- the variables that bring clock names, each with the number of the name
abbrev pub brought : List Named → ℕ → List (ℕ × ℕ)
brought [] m = []
brought (n ∷ ns) m = brought_by n m ++ brought ns (suc m)
