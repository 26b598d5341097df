-- What the laws of clocks suppose of a definition, and what its scope gives.
use Rattle.std.specs.Prelude.{◌≡◌, ℕ, List, [], ◌∷◌, ◌++◌, map, length, Option, Some, None}
use Rattle.ls_ast.specs.declared.tree.BodyOf.{BodyOf}
use Rattle.ls_ast.specs.declared.tree.DefOf.{DefOf}
use Rattle.ls_ast.specs.declared.tree.DefOf.TheVariants as item
use Rattle.ls_ast.specs.declared.tree.FileOf.{FileOf}
use Rattle.ls_ast.specs.declared.tree.Form.TheOpen.{Form-F}
use Rattle.ls_ast.specs.declared.tree.Plain.{Plain}
use Rattle.ls_sig.specs.declared.binder.Binder.{Binder}
use Rattle.ls_sig.specs.declared.binder.Binder.TheVariants as b
use Rattle.ls_sig.specs.declared.binder.Note.{Note}
use Rattle.ls_sig.specs.declared.binder.TypeNote.{TypeNote}
use Rattle.ls_sig.specs.declared.binder.Use.{Use}
use Rattle.ls_sig.specs.declared.env.Env.{Env}
use Rattle.ls_sig.specs.declared.sigs.Sig.{Sig}
use Rattle.ls_terms.specs.declared.types.TypeTerm.{TypeTerm}
use Rattle.ls_places.specs.declared.places.Variable.{Variable}
use Rattle.type_rules.specs.Definitions.{Definition, Obeys}
use Rattle.type_rules.specs.Files.{LetOf, Judged, lets, in_place}
use Rattle.ls_places.specs.Search.{nth}
use Rattle.tree_notes.specs.Each.{Each}
use Rattle.tree_notes.specs.Noted.{in_body, in_definition}
use Rattle.scope_rules.specs.declared.claims.Earlier.{Earlier}
use Rattle.scope_rules.specs.Faults as F
use Rattle.scope_rules.specs.Faults.{fault, marks}
use Rattle.scope_rules.specs.Resolved.{resolved_body}
use Rattle.scope_rules.specs.After.{scope_fault, resolved}
use Rattle.clock_rules.specs.declared.scheme.ClockScheme.{ClockScheme}
use Rattle.clock_rules.specs.Facts.{Facts}
use Rattle.clock_rules.specs.Files.{clock_marks, scheme}
use Rattle.clock_rules.specs.Fresh.{erase, facts_of}
use Rattle.clock_laws.specs.Scoped.{IsScoped}

-- the note of a resolved tree
abbrev pub use_of : Note → Use
use_of n = record { bound = n.bound }

-- the clock names of each earlier definition's scheme are its parameters that are marked so
abbrev pub SchemesOf : List Earlier → List ClockScheme → Type 0
SchemesOf [] [] = Unit {0}
SchemesOf (e ∷ es) (s ∷ ss) = (s.names ≡ clock_marks e.marks 0) × SchemesOf es ss
SchemesOf _ _ = ⊥

-- That something is given at each Clock position follows from types, and not from scope.
module _ (schemes : List ClockScheme) where
  abbrev pub Given : List Note → Option ClockScheme → Type 0
  Given args None = Unit {0}
  Given args (Some s) = Each (λ q. nth args q ≡ None → ⊥) s.names

  abbrev pub CallGiven : List Note → Binder → Type 0
  CallGiven args (b.Def k) = Given args (nth schemes k)
  CallGiven args _ = Unit {0}

  abbrev pub FormGiven : Note → Form-F Note (Unit {0}) Note → Type 0
  FormGiven n (Form-F.Var x) = CallGiven [] n.bound
  FormGiven n (Form-F.Call run x args every) = CallGiven args n.bound
  FormGiven n _ = Unit {0}

  abbrev pub AllGiven : Facts Note → Type 0
  AllGiven d = Each (λ n. FormGiven n.0.note n.0.form) d.nodes

-- the same of signatures, which have a mark for each parameter
abbrev pub SchemesOfSigs : List Sig → List ClockScheme → Type 0
SchemesOfSigs [] [] = Unit {0}
SchemesOfSigs (g ∷ gs) (s ∷ ss) = (s.names ≡ clock_marks g.marks 0) × (length g.marks ≡ length g.params) × SchemesOfSigs gs ss
SchemesOfSigs _ _ = ⊥

-- Where a definition obeys the rules of types something is given at each Clock position.
abbrev pub GivenByTypes : Type 0
GivenByTypes =
    (schemes : List ClockScheme) (sigs : List Sig) (case_type : ℕ → Option TypeTerm) (vs : List Variable) (at : ℕ → TypeTerm) (a : Definition TypeNote) (cases : ℕ → Option ℕ) (notes : List Note) (body : BodyOf Note)
    → SchemesOfSigs sigs schemes → in_body Note TypeNote erase body ≡ a.body → Obeys sigs case_type vs at a
    → AllGiven schemes (facts_of schemes cases a.params a.marks notes body)

-- What the laws of clocks suppose of an annotated definition holds where its scope has no fault and something is given at each Clock position.
abbrev pub ScopedByScope : Type 0
ScopedByScope =
    (d : F.Judged Plain) (schemes : List ClockScheme) (cases : ℕ → Option ℕ) (notes : List Note) (body : BodyOf Note)
    → fault d ≡ None → SchemesOf d.known.defs schemes → length notes ≡ length d.params → in_body Note Use use_of body ≡ resolved_body d
    → AllGiven schemes (facts_of schemes cases d.params (marks d) notes body)
    → IsScoped schemes (facts_of schemes cases d.params (marks d) notes body)

-- ---- files

-- each definition is as the laws of clocks suppose, over the schemes of those before it
abbrev pub EachScoped : (ℕ → Option ℕ) → List ClockScheme → List (DefOf Note) → Type 0
EachScoped cases schemes [] = Unit {0}
EachScoped cases schemes (item.Cases line name all ∷ rest) = EachScoped cases schemes rest
EachScoped cases schemes (item.Let line node name params marks notes body ∷ rest) =
    IsScoped schemes (facts_of schemes cases params marks notes body)
    × EachScoped cases (schemes ++ scheme marks notes body.result.note.ck ∷ []) rest

-- What the laws of clocks suppose holds of each definition of an annotated file, where its scope has no fault and its types are judged.
abbrev pub FilesScoped : Type 0
FilesScoped =
    (case_type : ℕ → Option TypeTerm) (limit : ℕ) (cases : ℕ → Option ℕ) (env : Env) (file : FileOf Plain) (as' : List (LetOf TypeNote)) (ss : List Sig) (schemes : List ClockScheme) (tree : List (DefOf Note))
    → scope_fault env file ≡ None → SchemesOfSigs env.sigs schemes → Judged case_type limit env.sigs (lets (resolved env file).defs) as' ss
    → map (in_definition Note TypeNote erase) tree ≡ in_place (resolved env file).defs as'
    → EachScoped cases schemes tree
