-- A file with the binder of each use of a name and the mark of each parameter.
use Rattle.std.specs.Prelude.{ℕ, List, [], ◌∷◌, ◌++◌, map, length}
use Rattle.ls_base.specs.declared.Name.{Name}
use Rattle.ls_base.specs.declared.Line.{Line}
use Rattle.ls_sig.specs.declared.binder.Binder.{Binder}
use Rattle.ls_sig.specs.declared.binder.Use.{Use}
use Rattle.ls_ast.specs.declared.tree.Pat.{Pat}
use Rattle.ls_ast.specs.declared.tree.BodyOf.{BodyOf}
use Rattle.ls_ast.specs.declared.tree.DefOf.{DefOf}
use Rattle.tree_notes.specs.Numbered.{number_body}
use Rattle.scope_rules.specs.declared.notes.UseNotes.{UseNotes}
use Rattle.scope_rules.specs.Notes.{no_use, use_at, after}
use Rattle.scope_rules.specs.Places.{Reading, reads, tests, joined}
use Rattle.scope_rules.specs.Claims.{Known, uses}
use Rattle.scope_rules.specs.Faults.{Sight, binder_at, case_place, case_binder, Judged, sight, contents, marks}
use Rattle.scope_rules.specs.File.{known_after}

-- what a constructor means
abbrev pub case_of : Known → ℕ → Binder
case_of k c = case_binder (case_place 0 k.enums c)

-- the notes of parameters
abbrev pub no_uses : List Pat → List Use
no_uses [] = []
no_uses (p ∷ ps) = no_use ∷ no_uses ps

module _ {N : Type 0} where
  -- the notes of an expression of a body; a test has none
  abbrev pub reading_uses : Sight → Known → Reading N → List Use
  reading_uses h k (reads e s p) = uses (binder_at h p) (case_of k) e
  reading_uses h k (tests x p) = []

  -- the notes of a body, in the order of the text
  abbrev pub body_uses : Judged N → List Use
  body_uses d = joined (map (reading_uses (sight d) d.known) (contents d).readings)

  -- a body with these notes, in the order of the text
  abbrev pub with_uses : List Use → BodyOf N → BodyOf Use
  with_uses all b = (number_body (λ (it : UseNotes) (n : N). use_at it) (λ (it : UseNotes) (n : N). after it) b (record { list = all; next = 0 })).0

  -- the body with the binder of each use of a name
  abbrev pub resolved_body : Judged N → BodyOf Use
  resolved_body d = with_uses (body_uses d) d.body

module _ {N : Type 0} (names : List (List ℕ)) where
  abbrev pub resolved_let : Line → Judged N → Name → DefOf Use
  resolved_let line d f = DefOf.Let line d.node f d.params (marks d) (no_uses d.params) (resolved_body d)

  -- the definition with its binders and marks
  abbrev pub resolved_def : Known → DefOf N → DefOf Use
  resolved_def k (DefOf.Cases line t cs) = DefOf.Cases line t cs
  resolved_def k (DefOf.Let line node f params ms ns body) =
      resolved_let line (record { names = names; known = k; title = f.0; node = node; params = params; body = body }) f

  abbrev pub resolved_defs : Known → List (DefOf N) → List (DefOf Use)
  resolved_defs k [] = []
  resolved_defs k (d ∷ ds) = resolved_def k d ∷ resolved_defs (known_after names k d) ds
