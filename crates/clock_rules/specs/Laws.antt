-- Laws of the rules of clocks.
use Rattle.std.specs.Prelude.{◌≡◌, ℕ, Bool, true, List, map, length, Option}
use Rattle.ls_ast.specs.declared.tree.BodyOf.{BodyOf}
use Rattle.ls_ast.specs.declared.tree.DefOf.{DefOf}
use Rattle.ls_ast.specs.declared.tree.Expr.{Expr}
use Rattle.ls_ast.specs.declared.tree.Mark.{Mark}
use Rattle.ls_ast.specs.declared.tree.Pat.{Pat}
use Rattle.ls_terms.specs.declared.clocks.ClockTerm.{ClockTerm}
use Rattle.ls_terms.specs.Clocks.{apply}
use Rattle.ls_sig.specs.declared.binder.Note.{Note}
use Rattle.ls_sig.specs.declared.binder.TypeNote.{TypeNote}
use Rattle.clock_rules.specs.declared.scheme.ClockScheme.{ClockScheme}
use Rattle.ls_places.specs.Clocks.{bare}
use Rattle.ls_places.specs.Places.{InnerArm, find}
use Rattle.ls_places.specs.declared.places.Places.{Places}
use Rattle.ls_places.specs.declared.places.Whole.{Whole}
use Rattle.tree_notes.specs.Each.{Each}
use Rattle.tree_notes.specs.Noted.{in_body, in_definition, in_expr}
use Rattle.tree_notes.specs.Order.{notes_body}
use Rattle.clock_rules.specs.Rules as R
use Rattle.clock_rules.specs.Rules.{AreEqual, sampled}
use Rattle.clock_rules.specs.Facts.{facts, nodes_of}
use Rattle.clock_rules.specs.Instances.{Subst, in_note, map_facts}
use Rattle.clock_rules.specs.Constraints.{Annotation, in_annotation, constraints, Unifies, Standing, Admissible, AnnotationObeys}
use Rattle.clock_rules.specs.Files.{scheme, Judged, FirstIllClocked}
use Rattle.clock_rules.specs.Fresh.{erase, fresh, fresh_notes, fresh_body}
use Rattle.clock_rules.specs.Judged.{IsPrincipal, NoneObeys}

-- an annotation obeys the equations under a substitution exactly where the substitution unifies its constraints
abbrev pub ObeysWhereUnified : Type 0
ObeysWhereUnified = (sigs : List ClockScheme) (cases : ℕ → Option ℕ) (by : Subst) (w : Annotation)
    → (AreEqual (constraints sigs cases (in_annotation by w)) → Unifies by (constraints sigs cases w))
    × (Unifies by (constraints sigs cases w) → AreEqual (constraints sigs cases (in_annotation by w)))

-- a most general unifier, as `unify` finds it
pub record IsMostGeneral (σ : Subst) (pairs : List R.Pair) : Type 0 where
  pub standing : Standing σ
  pub unifies : Unifies σ pairs
  pub general : (by : Subst) → Unifies by pairs → (t : ClockTerm) → apply by (apply σ t) ≡ apply by t

module _ (sigs : List ClockScheme) (cases : ℕ → Option ℕ) (params : List Pat) (marks : List Mark) (types : List TypeNote) (tree : BodyOf TypeNote) where
  -- the pairs of the definition with a new variable wherever a clock may be
  abbrev pub pairs : List R.Pair
  pairs = constraints sigs cases (fresh sigs cases params marks types tree)

  -- the conditions, and the equations, of that definition under a substitution
  abbrev pub Meets : Subst → Type 0
  Meets σ = AnnotationObeys sigs cases (in_annotation σ (fresh sigs cases params marks types tree))

  abbrev pub unified_notes : Subst → List Note
  unified_notes σ = map (in_note σ) (fresh_notes sigs cases params marks types tree).0

  abbrev pub unified_body : Subst → BodyOf Note
  unified_body σ = in_body Note Note (in_note σ) (fresh_body sigs cases params marks types tree).0

-- where the pairs have no unifier whose terms are clocks no annotation obeys
abbrev pub NoneWhereNoUnifier : Type 0
NoneWhereNoUnifier = (sigs : List ClockScheme) (cases : ℕ → Option ℕ) (params : List Pat) (marks : List Mark) (types : List TypeNote) (tree : BodyOf TypeNote)
    → ((by : Subst) → Unifies by (pairs sigs cases params marks types tree) → Admissible by → ⊥)
    → NoneObeys sigs cases params marks types tree

-- under a most general unifier the annotation is principal, if it meets the conditions
abbrev pub PrincipalWhereMet : Type 0
PrincipalWhereMet = (sigs : List ClockScheme) (cases : ℕ → Option ℕ) (params : List Pat) (marks : List Mark) (types : List TypeNote) (tree : BodyOf TypeNote)
    → (σ : Subst) → IsMostGeneral σ (pairs sigs cases params marks types tree) → Meets sigs cases params marks types tree σ
    → IsPrincipal sigs cases params marks types tree (unified_notes sigs cases params marks types tree σ) (unified_body sigs cases params marks types tree σ)

-- and where it does not meet them no annotation obeys
abbrev pub NoneWhereUnmet : Type 0
NoneWhereUnmet = (sigs : List ClockScheme) (cases : ℕ → Option ℕ) (params : List Pat) (marks : List Mark) (types : List TypeNote) (tree : BodyOf TypeNote)
    → (σ : Subst) → IsMostGeneral σ (pairs sigs cases params marks types tree) → (Meets sigs cases params marks types tree σ → ⊥)
    → NoneObeys sigs cases params marks types tree

-- a clock seen inside arms is the clock again without as many outermost samplings
abbrev pub SeenBare : Type 0
SeenBare = (p : List InnerArm) (ck : ClockTerm) → bare (length p) (sampled ck p) ≡ ck

-- ---- places, for any notes

module _ (N M : Type 0) where
  -- what is found where each note is put through a function
  abbrev pub renoted : (N → M) → Places N → Places M
  renoted f p = record {
    vars = p.vars;
    sites = p.sites;
    starts = p.starts;
    names = p.names;
    resets = p.resets;
    exprs = map {A = Whole N} {B = Whole M} (λ x. record { expr = in_expr N M f x.expr; place = x.place }) p.exprs;
  }

  -- what is found in a body with other notes is what is found in it, with the other notes
  abbrev pub FindsTheSame : Type 0
  FindsTheSame = (f : N → M) (first : ℕ) (cases : ℕ → Option ℕ) (signal : Expr N → Bool) (signal' : Expr M → Bool)
      → ((e : Expr N) → signal' (in_expr N M f e) ≡ signal e)
      → (b : BodyOf N) → find M first cases signal' (in_body N M f b) ≡ renoted f (find N first cases signal b)

  -- the facts of a definition with other notes are its facts, with the other notes
  abbrev pub FactsTheSame : Type 0
  FactsTheSame = (f : N → M) (function : N → Bool) (function' : M → Bool) → ((n : N) → function' (f n) ≡ function n)
      → (cases : ℕ → Option ℕ) (signal : N → Bool) (signal' : M → Bool) → ((n : N) → signal' (f n) ≡ signal n)
      → (params : List Pat) (marks : List Mark) (notes : List N) (b : BodyOf N)
      → facts M function' cases signal' params marks (map f notes) (in_body N M f b) ≡ map_facts f (facts N function cases signal params marks notes b)

-- what holds of the notes of all expressions that are found holds of all notes of the body, and the other way round
abbrev pub NotesFound : (N : Type 0) → Type 0
NotesFound N = (function : N → Bool) (holds : N → Bool) (first : ℕ) (cases : ℕ → Option ℕ) (signal : Expr N → Bool) (b : BodyOf N)
    → (Each (λ n. holds n.0.note ≡ true) (nodes_of N function (find N first cases signal b).exprs) → Each (λ n. holds n ≡ true) (notes_body N b))
    × (Each (λ n. holds n ≡ true) (notes_body N b) → Each (λ n. holds n.0.note ≡ true) (nodes_of N function (find N first cases signal b).exprs))

-- ---- files

-- principal annotations of one definition make one scheme
abbrev pub OneScheme : Type 0
OneScheme = (schemes : List ClockScheme) (cases : ℕ → Option ℕ) (params : List Pat) (marks : List Mark) (types : List TypeNote) (tree : BodyOf TypeNote)
    → (notes notes' : List Note) (body body' : BodyOf Note)
    → IsPrincipal schemes cases params marks types tree notes body → IsPrincipal schemes cases params marks types tree notes' body'
    → scheme marks notes' body'.result.note.ck ≡ scheme marks notes body.result.note.ck

-- no definition of a file that is judged is ill clocked
abbrev pub NotBoth : Type 0
NotBoth = (cases : ℕ → Option ℕ) (schemes : List ClockScheme) (defs : List (DefOf Note)) (at : ℕ)
    → Judged cases schemes defs → FirstIllClocked cases schemes (map (λ d. in_definition Note TypeNote erase d) defs) at → ⊥

-- the first definition that is ill clocked stands at one line
abbrev pub OneLine : Type 0
OneLine = (cases : ℕ → Option ℕ) (schemes : List ClockScheme) (defs : List (DefOf TypeNote)) (a b : ℕ)
    → FirstIllClocked cases schemes defs a → FirstIllClocked cases schemes defs b → a ≡ b
