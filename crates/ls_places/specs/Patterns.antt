-- The names of a pattern.
use Rattle.std.specs.Prelude.{ℕ, ◌==◌, ◌||◌, Bool, false, List, [], ◌∷◌, ◌++◌}
use Rattle.ls_ast.specs.declared.tree.Pat.{Pat, fold-Pat}
use Rattle.ls_ast.specs.declared.tree.Pat.TheOpen.{Pat-F}

-- the items of several lists, in order
abbrev pub joined : {A : Type 0} → List (List A) → List A
joined [] = []
joined (xs ∷ rest) = xs ++ joined rest

abbrev pub pattern_names : Pat-F (List ℕ) → List ℕ
pattern_names Pat-F.Any = []
pattern_names Pat-F.Unit = []
pattern_names (Pat-F.Var name) = name.0 ∷ []
pattern_names (Pat-F.Tuple parts) = joined parts

-- the names that a pattern binds, in the order of the text
abbrev pub names_of : Pat → List ℕ
names_of = fold-Pat (List ℕ) pattern_names

-- whether a name, or a number, is one of these
abbrev pub has_name : ℕ → List ℕ → Bool
has_name x [] = false
has_name x (y ∷ ys) = x == y || has_name x ys
