-- Marks in a table.
use Rattle.std.specs.Prelude.{◌≡◌, ℕ, ◌+◌, ◌==◌, Bool, true, false, List, [], ◌∷◌, length, Option, Some, None, nat_eq, if◌then◌else◌}
use Rattle.indexmap.specs.IndexMap.{get}
use Rattle.ls_ast.specs.declared.tree.Mark.{Mark}
use Rattle.ls_ast.specs.declared.tree.Mark.TheVariants as mark
use Rattle.ls_ast.specs.declared.tree.Pat.{Pat}
use Rattle.scope_rules.specs.declared.claims.Asked.{Asked}
use Rattle.ls_scope.specs.declared.marks.Marks.{Marks}
use Rattle.scope_rules.specs.Places.{is_name, names_of}
use Rattle.scope_rules.specs.Faults.{first_mark, mark_or_data}

abbrev pub told : Marks → ℕ → Option Mark
told m k = get nat_eq m.table k

abbrev pub mark_for : ℕ → Mark → ℕ → Option Mark
mark_for k m i = if k == i then Some m else None

-- it has the first mark that is given to each name
abbrev pub Gives : List Asked → Marks → Type 0
Gives asks m = (k : ℕ) → told m k ≡ first_mark k asks

abbrev pub mark_from : Marks → Bool → ℕ → Mark
mark_from m true k = mark_or_data (told m k)
mark_from m false k = mark.Data

abbrev pub marks_from : Marks → List Pat → ℕ → List Mark
marks_from m [] k = []
marks_from m (p ∷ ps) k = mark_from m (is_name p) k ∷ marks_from m ps (k + length (names_of p))
