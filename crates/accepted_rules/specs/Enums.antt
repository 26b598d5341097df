-- The enumerations of a file.
use Rattle.std.specs.Prelude.{List, [], ◌∷◌}
use Rattle.ls_ast.specs.declared.tree.DefOf.{DefOf}
use Rattle.ls_base.specs.declared.Name.{Name}

-- their names, in the order of their numbers
abbrev pub enum_names : {N : Type 0} → List (DefOf N) → List Name
enum_names [] = []
enum_names (DefOf.Cases line name cases ∷ ds) = name ∷ enum_names ds
enum_names (DefOf.Let line node name params marks notes body ∷ ds) = enum_names ds

-- and their constructors
abbrev pub enum_constructors : {N : Type 0} → List (DefOf N) → List (List Name)
enum_constructors [] = []
enum_constructors (DefOf.Cases line name cases ∷ ds) = cases ∷ enum_constructors ds
enum_constructors (DefOf.Let line node name params marks notes body ∷ ds) = enum_constructors ds
