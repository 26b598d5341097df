-- The types of a file, definition by definition.
use Rattle.std.specs.Prelude.{◌≡◌, ℕ, List, ◌∷◌, ◌++◌, Option}
use Rattle.ls_ast.specs.declared.tree.DefOf.{DefOf}
use Rattle.ls_ast.specs.declared.tree.DefOf.TheVariants as d
use Rattle.ls_base.specs.declared.Line.{Line}
use Rattle.ls_sig.specs.declared.binder.TypeNote.{TypeNote}
use Rattle.ls_sig.specs.declared.binder.Use.{Use}
use Rattle.ls_sig.specs.declared.sigs.Sig.{Sig}
use Rattle.ls_terms.specs.declared.types.TypeTerm.{TypeTerm}
use Rattle.type_infer.specs.Inference.{NoneObeys}
use Rattle.type_rules.specs.Definitions.{Definition}
use Rattle.type_rules.specs.Files.{LetOf, Judged, Typed, lets, in_place}
use Rattle.type_rules.specs.Laws.{AreFunctionsIn, annotated_let}
pub use Rattle.type_rules.specs.Laws.{AreFunctionsAll}

-- an annotated definition as one of a file
abbrev pub definition_of : LetOf TypeNote → DefOf TypeNote
definition_of a = d.Let a.line a.node a.name a.def.params a.def.marks a.def.notes a.def.body

module _ (case_type : ℕ → Option TypeTerm) (limit : ℕ) (sigs : List Sig) where
  -- a `let` is typed; a type has no types
  abbrev pub IsTyped : DefOf Use → DefOf TypeNote → Type 0
  IsTyped (d.Cases line name cases) r = r ≡ d.Cases line name cases
  IsTyped (d.Let line node name params marks notes body) r =
      let def : Definition Use = record { params = params; marks = marks; notes = notes; body = body } in
      AreFunctionsIn case_type sigs def
      → (f : ℕ → TypeTerm) × Typed case_type limit sigs def f × (r ≡ definition_of (annotated_let case_type sigs (record { line = line; node = node; name = name; def = def }) f))

  -- the definition begins at this line, and no annotation within the limit obeys the rules
  abbrev pub IsIll : DefOf Use → Line → Type 0
  IsIll (d.Cases line name cases) at' = ⊥
  IsIll (d.Let line node name params marks notes body) at' =
      (line ≡ at') × NoneObeys case_type limit sigs (record { params = params; marks = marks; notes = notes; body = body })

  -- the definitions are judged, and these are they with their types
  abbrev pub AreTyped : List (DefOf Use) → List (DefOf TypeNote) → Type 0
  AreTyped ds rs = (as' : List (LetOf TypeNote)) × (ss : List Sig) × Judged case_type limit sigs (lets ds) as' ss × (rs ≡ in_place ds as')
