-- What the types of a definition come to: a principal annotation within the limit, or none.
use Rattle.std.specs.Prelude.{◌≡◌, ℕ, List, Option}
use Rattle.ls_ast.specs.declared.tree.BodyOf.{BodyOf}
use Rattle.ls_sig.specs.declared.binder.TypeNote.{TypeNote}
use Rattle.ls_sig.specs.declared.binder.Use.{Use}
use Rattle.ls_sig.specs.declared.sigs.Sig.{Sig}
use Rattle.ls_terms.specs.declared.types.TypeTerm.{TypeTerm}
use Rattle.ls_terms.specs.Types.{apply}
use Rattle.term_unify.specs.Terms.{first}
use Rattle.type_infer.specs.declared.definition.Let.{Let}
use Rattle.type_rules.specs.Definitions.{Definition}
use Rattle.type_rules.specs.Demands.{hole}
use Rattle.type_rules.specs.Files.{annotation, ObeysIn, Small, Typed}
use Rattle.type_solve.specs.declared.solution.Solution.{Solution}

-- the definition as the rules have it
abbrev pub definition : Let → Definition Use
definition d = record { params = d.params.now; marks = d.marks.now; notes = d.notes.now; body = d.body.now }

-- the definition with these notes of parameters and this body
abbrev pub with_trees : {N : Type 0} → Let → List N → BodyOf N → Definition N
with_trees d notes body = record { params = d.params.now; marks = d.marks.now; notes = notes; body = body }

-- what a solution gives a place
abbrev pub type_of : Solution → ℕ → TypeTerm
type_of s k = apply (first s.by.list) (hole s.own k)

module _ (case_type : ℕ → Option TypeTerm) (limit : ℕ) (sigs : List Sig) where
  -- the principal annotation of the definition, within the limit
  abbrev pub IsPrincipalOf : Definition Use → Definition TypeNote → Type 0
  IsPrincipalOf d a = (f : ℕ → TypeTerm) × Typed case_type limit sigs d f × (a ≡ annotation case_type sigs d f)

  -- no annotation within the limit obeys the rules
  abbrev pub NoneObeys : Definition Use → Type 0
  NoneObeys d = (f : ℕ → TypeTerm) → ObeysIn case_type sigs d f → Small case_type limit f → ⊥
