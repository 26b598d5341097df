-- The types of a definition: which annotations obey the rules, and which are principal.
use Rattle.std.specs.Prelude.{ℕ, suc, ◌+◌, Bool, true, false, List, [], ◌∷◌, ◌++◌, map, length, slice_get, Option, Some, None, if◌then◌else◌, nat_lt}
use Rattle.ls_ast.specs.declared.tree.Mark.{Mark}
use Rattle.ls_ast.specs.declared.tree.Mark.TheVariants as mark
use Rattle.ls_ast.specs.declared.tree.Pat.{Pat}
use Rattle.ls_ast.specs.declared.tree.BodyOf.{BodyOf}
use Rattle.ls_terms.specs.declared.types.TypeTerm.{TypeTerm}
use Rattle.ls_terms.specs.declared.types.TypeTerm.TheVariants as t
use Rattle.ls_places.specs.Patterns.{names_of}
use Rattle.ls_places.specs.Places.{find}
use Rattle.ls_sig.specs.Notes.{is_signal}
use Rattle.ls_sig.specs.declared.binder.Binder.{Binder}
use Rattle.ls_sig.specs.declared.binder.Binder.TheVariants as b
use Rattle.ls_sig.specs.declared.binder.TypeNote.{TypeNote}
use Rattle.ls_sig.specs.declared.binder.Use.{Use}
use Rattle.ls_places.specs.declared.places.Variable.{Variable}
use Rattle.ls_sig.specs.declared.sigs.Sig.{Sig}
use Rattle.tree_notes.specs.Each.{Each}
use Rattle.type_rules.specs.declared.demand.Demand.{Demand}
use Rattle.type_rules.specs.declared.demand.Demand.TheVariants.{Fits}
use Rattle.type_rules.specs.Demands.{Holds}
use Rattle.type_rules.specs.Expressions.{any}
use Rattle.type_rules.specs.Bodies.{body_asks, params_ask}
use Rattle.tree_notes.specs.Noted.{in_body}

-- ---- names

-- a definition with notes of any kind
pub record Definition (N : Type 0) : Type 0 where
  pub params : List Pat
  pub marks : List Mark
  pub notes : List N
  pub body : BodyOf N

abbrev pub with_notes : {N M : Type 0} → (N → M) → Definition N → Definition M
with_notes {N} {M} g d = record {
  params = d.params;
  marks = d.marks;
  notes = map g d.notes;
  body = in_body N M g d.body;
}

abbrev pub param_names : List Pat → List ℕ
param_names [] = []
param_names (p ∷ ps) = names_of p ++ param_names ps

abbrev pub same_marks : {A : Type 0} → Mark → List A → List Mark
same_marks m [] = []
same_marks m (x ∷ xs) = m ∷ same_marks m xs

-- the mark of each name in the parameters
abbrev pub name_marks : List Pat → List Mark → List Mark
name_marks [] ms = []
name_marks (p ∷ ps) [] = []
name_marks (p ∷ ps) (m ∷ ms) = same_marks m (names_of p) ++ name_marks ps ms

abbrev pub mark_in : Option Mark → Mark
mark_in None = mark.Data
mark_in (Some m) = m

-- whether an expression with this binder, as the whole right side of an equation, is a call that answers a signal
abbrev pub answers : List Sig → Binder → Bool
answers sigs (b.Def k) = signal_of (slice_get sigs k)
  where
    signal_of : Option Sig → Bool
    signal_of None = false
    signal_of (Some sig) = is_signal sig.result
answers sigs _ = false

module _ (sigs : List Sig) (case_type : ℕ → Option TypeTerm) where
  abbrev pub variables : Definition Use → List Variable
  variables d = (find Use (length d.params) (λ x. None) (λ e. answers sigs e.note.bound) d.body).vars

  -- the types of names: those of the parameters' names first, then those of the variables
  abbrev pub names_type : {X : Type 0} → ℕ → ℕ → (ℕ → X) → Binder → Option X
  names_type np nv at (b.Param k) = if nat_lt k np then Some (at k) else None
  names_type np nv at (b.Var k) = if nat_lt k nv then Some (at (np + k)) else None
  names_type np nv at _ = None

  -- a name has a type of data, and a signal the type of one; the type of a function is for its uses to tell
  abbrev pub name_asks : {X : Type 0} → Mark → X → List (Demand X)
  name_asks mark.Comb u = []
  name_asks mark.Seq u = []
  name_asks mark.Signal u = Fits ((u, t.Signal any) ∷ []) ∷ []
  name_asks _ u = Fits ((u, any) ∷ []) ∷ []

  abbrev pub params_named : {X : Type 0} → (ℕ → Mark) → (ℕ → X) → List ℕ → ℕ → List (Demand X)
  params_named marks at [] k = []
  params_named marks at (x ∷ xs) k = name_asks (marks k) (at k) ++ params_named marks at xs (suc k)

  abbrev pub variable_asks : {X : Type 0} → Bool → X → List (Demand X)
  variable_asks true u = Fits ((u, t.Signal any) ∷ []) ∷ []
  variable_asks false u = Fits ((u, any) ∷ []) ∷ []

  abbrev pub vars_named : {X : Type 0} → (ℕ → X) → List Variable → ℕ → List (Demand X)
  vars_named at [] k = []
  vars_named at (v ∷ vs) k = variable_asks v.signal (at k) ++ vars_named at vs (suc k)

  -- what a definition asks, with the variables `vs`, where `at` stands for the types of names
  abbrev pub definition_asks : {N X : Type 0} → (N → Binder) → (N → X) → List Variable → (ℕ → X) → Definition N → List (Demand X)
  definition_asks {N} {X} bound ty vs at d =
      let names = param_names d.params in
      let marks = λ (k : ℕ). mark_in (slice_get (name_marks d.params d.marks) k) in
      let types = names_type (length names) (length vs) at in
      (params_named marks at names 0 ++ vars_named at vs (length names))
      ++ params_ask N X bound ty sigs case_type names marks vs types d.params d.marks d.notes 0
      ++ body_asks N X bound ty sigs case_type names marks vs types (length d.params) d.body

  -- ---- annotations

  abbrev pub erased : Definition TypeNote → Definition Use
  erased = with_notes (λ n. record { bound = n.bound })

  -- the types of names and the notes of the tree obey the rules
  abbrev pub Obeys : List Variable → (ℕ → TypeTerm) → Definition TypeNote → Type 0
  Obeys vs at d = Each Holds (definition_asks (λ (n : TypeNote). n.bound) (λ n. n.ty) vs at d)
