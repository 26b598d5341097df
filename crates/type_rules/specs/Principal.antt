-- Principal annotations of a definition whose places are numbered.
use Rattle.std.specs.Prelude.{◌≡◌, ℕ, ◌+◌, ◌<◌, true, List, [], ◌∷◌, ◌++◌, length, slice_get, Option, ◌⊎◌}
use Rattle.ls_ast.specs.declared.tree.Mark.{Mark}
use Rattle.ls_terms.specs.declared.types.TypeTerm.{TypeTerm}
use Rattle.ls_terms.specs.declared.types.TypeTerm.TheVariants as t
use Rattle.ls_sig.specs.declared.binder.Binder.{Binder}
use Rattle.ls_sig.specs.declared.binder.TypeNote.{TypeNote}
use Rattle.ls_places.specs.declared.places.Variable.{Variable}
use Rattle.ls_sig.specs.declared.sigs.Sig.{Sig}
use Rattle.tree_notes.specs.Each.{Each}
use Rattle.type_rules.specs.declared.demand.Demand.{Demand}
use Rattle.type_rules.specs.Schemes.{vars, is_data, put}
use Rattle.type_rules.specs.Demands.{Meets}
use Rattle.type_rules.specs.Expressions.{is_functional}
use Rattle.type_rules.specs.Places.{body_places}
use Rattle.type_rules.specs.Numbers.{Placed, bound_of, place_of}
use Rattle.type_rules.specs.Definitions.{Definition, with_notes, param_names, name_marks, mark_in, names_type, definition_asks, Obeys}

-- a number is in a list
abbrev pub Among : ℕ → List ℕ → Type 0
Among k [] = ⊥
Among k (x ∷ xs) = (x ≡ k) ⊎ Among k xs

abbrev pub note_places : List Placed → List ℕ
note_places [] = []
note_places (n ∷ ns) = place_of n ∷ note_places ns

-- the note with the type of its place
abbrev pub typed_by : (ℕ → TypeTerm) → Placed → TypeNote
typed_by f n = record { bound = bound_of n; ty = f (place_of n) }

module _ (sigs : List Sig) (case_type : ℕ → Option TypeTerm) (vs : List Variable) (d : Definition Placed) where
  -- what the definition asks; the places of names come first, then those of notes
  abbrev pub asks_of : List (Demand ℕ)
  asks_of = definition_asks sigs case_type bound_of place_of vs (λ k. k) d

  -- the definition annotated by a type for each place
  abbrev pub annotated : (ℕ → TypeTerm) → Definition TypeNote
  annotated f = with_notes (typed_by f) d

  abbrev pub names_here : List ℕ
  names_here = param_names d.params

  abbrev pub marks_here : ℕ → Mark
  marks_here k = mark_in (slice_get (name_marks d.params d.marks) k)

  abbrev pub types_here : Binder → Option ℕ
  types_here = names_type sigs case_type (length names_here) (length vs) (λ k. k)

  -- the place of a name, a parameter or an expression
  abbrev pub IsPlace : ℕ → Type 0
  IsPlace k = (k < length names_here + length vs) ⊎ Among k (note_places d.notes ++ body_places place_of d.body)

  -- an annotation gives each place a type, and nothing else one that matters
  abbrev pub IsAnnotation : (ℕ → TypeTerm) → Type 0
  IsAnnotation f = (k : ℕ) → IsPlace k ⊎ (f k ≡ t.Unit)

  -- in each annotation that obeys the rules a parameter that is marked as a function is one
  abbrev pub AreFunctions : Type 0
  AreFunctions = (f : ℕ → TypeTerm) → Meets f asks_of → (k : ℕ) → k < length names_here → is_functional (marks_here k) ≡ true → is_data (f k) ≡ true → ⊥

  -- it obeys the rules, and each annotation that does is an instance, which puts data for each variable that the annotation mentions
  pub record IsPrincipal (f : ℕ → TypeTerm) : Type 0 where
    pub obeys : Obeys sigs case_type vs f (annotated f)
    pub general : (g : ℕ → TypeTerm) → IsAnnotation g → Obeys sigs case_type vs g (annotated g)
        → (σ : ℕ → TypeTerm) × ((k : ℕ) → g k ≡ put σ (f k)) × ((k : ℕ) → Each (λ x. is_data (σ x) ≡ true) (vars (f k)))
