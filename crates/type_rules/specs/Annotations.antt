-- Annotations of a definition and its erasure.
use Rattle.std.specs.Prelude.{ℕ, zero, suc, List, [], ◌∷◌, ◌++◌}
use Rattle.ls_terms.specs.declared.types.TypeTerm.{TypeTerm}
use Rattle.ls_terms.specs.declared.types.TypeTerm.TheVariants as t
use Rattle.ls_sig.specs.declared.binder.TypeNote.{TypeNote}
use Rattle.ls_sig.specs.declared.binder.Use.{Use}
use Rattle.tree_notes.specs.Order.{notes_body}
use Rattle.type_rules.specs.Definitions.{Definition}

-- the note without its type
abbrev pub erase : TypeNote → Use
erase n = record { bound = n.bound }

abbrev pub notes_types : List TypeNote → List TypeTerm
notes_types [] = []
notes_types (n ∷ ns) = n.ty ∷ notes_types ns

-- the types of the notes of a definition, in the order of the walk
abbrev pub definition_types : Definition TypeNote → List TypeTerm
definition_types a = notes_types (a.notes ++ notes_body TypeNote a.body)

-- the type of a place, where these are the types of the first places
abbrev pub type_at : List TypeTerm → ℕ → TypeTerm
type_at [] k = t.Unit
type_at (x ∷ xs) zero = x
type_at (x ∷ xs) (suc k) = type_at xs k
