-- The fresh annotation, as a definition has it with what stands where in its body.
use Rattle.std.specs.Prelude.{◌≡◌, ℕ, List, length, Option}
use Rattle.ls_ast.specs.declared.tree.BodyOf.{BodyOf}
use Rattle.ls_ast.specs.declared.tree.Mark.{Mark}
use Rattle.ls_ast.specs.declared.tree.Pat.{Pat}
use Rattle.ls_places.specs.Places.{find}
use Rattle.ls_sig.specs.Notes.{is_signal}
use Rattle.ls_sig.specs.declared.binder.Note.{Note}
use Rattle.ls_sig.specs.declared.binder.TypeNote.{TypeNote}
use Rattle.clock_rules.specs.declared.scheme.ClockScheme.{ClockScheme}
use Rattle.clock_rules.specs.Fresh.{fresh_notes, fresh_body, fresh_vars, fresh_blocks}
use Rattle.clock_fresh.specs.declared.fresh.Fresh.{Fresh}

module _ (schemes : List ClockScheme) (cases : ℕ → Option ℕ) (params : List Pat) (marks : List Mark) (types : List TypeNote) (tree : BodyOf TypeNote) where
  pub record IsFresh (r : Fresh) : Type 0 where
    pub notes : r.notes ≡ (fresh_notes schemes cases params marks types tree).0
    pub body : r.body ≡ (fresh_body schemes cases params marks types tree).0
    pub places : r.places ≡ find Note (length params) cases (λ e. is_signal e.note.ty) (fresh_body schemes cases params marks types tree).0
    pub vars : r.vars ≡ (fresh_vars schemes cases params marks types tree).0
    pub blocks : r.blocks ≡ (fresh_blocks schemes cases params marks types tree).0
    pub next : r.next ≡ (fresh_blocks schemes cases params marks types tree).1
