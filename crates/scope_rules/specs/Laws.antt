-- Laws of scope.
use Rattle.std.specs.Prelude.{◌≡◌, ℕ, ◌<◌, ◌==◌, ◌&&◌, Bool, true, false, List, [], ◌∷◌, ◌++◌, map, length, slice_get, Option, Some}
use Rattle.ls_base.specs.declared.Name.{Name}
use Rattle.ls_ast.specs.declared.tree.BodyOf.{BodyOf}
use Rattle.ls_ast.specs.declared.tree.DefOf.{DefOf}
use Rattle.ls_ast.specs.declared.tree.FileOf.{FileOf}
use Rattle.ls_ast.specs.declared.tree.Plain.{Plain}
use Rattle.ls_ast.specs.declared.tree.Expr.{Expr}
use Rattle.ls_ast.specs.declared.tree.Mark.{Mark}
use Rattle.ls_ast.specs.declared.tree.Mark.TheVariants as mark
use Rattle.ls_places.specs.Places as found
use Rattle.ls_places.specs.declared.places.Variable.{Variable}
use Rattle.ls_places.specs.declared.places.Whole.{Whole}
use Rattle.ls_sig.specs.declared.binder.Binder.{Binder}
use Rattle.ls_sig.specs.declared.binder.Binder.TheVariants as binder
use Rattle.ls_sig.specs.declared.binder.Use.{Use}
use Rattle.tree_notes.specs.Each.{Each}
use Rattle.tree_notes.specs.Order.{notes}
use Rattle.ls_sig.specs.declared.env.Env.{Env}
use Rattle.scope_rules.specs.After.{scope_fault, resolved}
use Rattle.scope_rules.specs.Places.{Place, Site, holds, Stand, at, applied, Reading, reads, tests, contents_of}
use Rattle.scope_rules.specs.Claims.{Earlier, Known, Claim, named, is_function, uses}
use Rattle.scope_rules.specs.Faults.{variables, Sight, binder_at, Judged, asks, sight, any_claim, mark_at, means_param}
use Rattle.scope_rules.specs.File.{known_after_all, name_numbers}
use Rattle.scope_rules.specs.Resolved.{case_of, resolved_body, resolved_defs}

-- a variable by its name and its list

abbrev pub site_key : Site → ℕ × Place
site_key s = (s.var, s.list)

abbrev pub variable_key : Variable → ℕ × Place
variable_key v = (v.name, v.list)

-- the expressions, each with the arms around it
module _ {N : Type 0} where
  abbrev pub placed_exprs : List (Reading N) → List (Expr N × Place)
  placed_exprs [] = []
  placed_exprs (reads e s p ∷ rest) = (e, p) ∷ placed_exprs rest
  placed_exprs (tests x p ∷ rest) = placed_exprs rest

  abbrev pub whole_key : Whole N → Expr N × Place
  whole_key w = (w.expr, found.arms w.place)

-- The variables of a body are those that `find` gives, in the same order.
abbrev pub VariablesAsFound : Type 0 → Type 0
VariablesAsFound N = (first : ℕ) (cases : ℕ → Option ℕ) (signal : Expr N → Bool) (b : BodyOf N)
    → map site_key (variables (contents_of N first b).sites) ≡ map variable_key (found.find N first cases signal b).vars

-- And so are the expressions, with the arms around them.
abbrev pub ExpressionsAsFound : Type 0 → Type 0
ExpressionsAsFound N = (first : ℕ) (cases : ℕ → Option ℕ) (signal : Expr N → Bool) (b : BodyOf N)
    → placed_exprs (contents_of N first b).readings ≡ map whole_key (found.find N first cases signal b).exprs

-- Numbers of variables, parameters, definitions and constructors are those of what is there; the list that binds a variable holds the place.

pub record Holding (vars : List Site) (p : Place) (k : ℕ) : Type 0 where
  pub site : Site
  pub is : slice_get vars k ≡ Some site
  pub inside : holds site.list p ≡ true

pub record Listed (enums : List (ℕ × List ℕ)) (t k : ℕ) : Type 0 where
  pub enum : ℕ × List ℕ
  pub is : slice_get enums t ≡ Some enum
  pub below : k < length enum.1

abbrev pub InSight : Sight → List (ℕ × List ℕ) → Place → Binder → Type 0
InSight h enums p binder.Nothing = Unit {0}
InSight h enums p (binder.Var k) = Holding h.vars p k
InSight h enums p (binder.Param k) = k < length h.params
InSight h enums p (binder.Def k) = k < length h.defs
InSight h enums p (binder.Case t k) = Listed enums t k

-- Each note of an expression is of what is in sight at its place.
abbrev pub UsesInSight : Type 0 → Type 0
UsesInSight N = (h : Sight) (k : Known) (p : Place) (e : Expr N) → Each (λ (u : Use). InSight h k.enums p u.bound) (uses (binder_at h p) (case_of k) e)

-- A parameter that is marked as a function is applied, or passed as one.

abbrev pub as_function : Stand → Bool
as_function (at m) = is_function m
as_function (applied m) = true
as_function _ = false

abbrev pub function_use : ℕ → Claim → Bool
function_use k (named b x s) = means_param k b && as_function s
function_use k _ = false

abbrev pub FunctionsUsed : Type 0 → Type 0
FunctionsUsed N = (d : Judged N) (k : ℕ) → is_function (mark_at (asks d) k) ≡ true → any_claim (λ p. function_use k) (asks d) ≡ true

-- What later definitions see of the kind and the marks of earlier ones, and the enumerations, can be read off the resolved tree.

pub record Headed : Type 0 where
  pub title : ℕ
  pub node : Bool
  pub marks : List Mark

abbrev pub head_of : Earlier → Headed
head_of e = record { title = e.title; node = e.node; marks = e.marks }

abbrev pub heads : {N : Type 0} → List (DefOf N) → List Headed
heads [] = []
heads (DefOf.Cases line t cs ∷ ds) = heads ds
heads (DefOf.Let line node f params ms ns body ∷ ds) = record { title = f.0; node = node; marks = ms } ∷ heads ds

abbrev pub enums_of : {N : Type 0} → List (DefOf N) → List (ℕ × List ℕ)
enums_of [] = []
enums_of (DefOf.Cases line t cs ∷ ds) = (t.0, name_numbers cs) ∷ enums_of ds
enums_of (DefOf.Let line node f params ms ns body ∷ ds) = enums_of ds

abbrev pub HeadsOnTree : Type 0 → Type 0
HeadsOnTree N = (names : List (List ℕ)) (k : Known) (ds : List (DefOf N))
    → map head_of (known_after_all names k ds).defs ≡ map head_of k.defs ++ heads (resolved_defs names k ds)

abbrev pub EnumsOnTree : Type 0 → Type 0
EnumsOnTree N = (names : List (List ℕ)) (k : Known) (ds : List (DefOf N))
    → (known_after_all names k ds).enums ≡ k.enums ++ enums_of (resolved_defs names k ds)

-- A file that is resolved has the same scope, and is the file that it gives.
abbrev pub ResolvedAgain : Type 0
ResolvedAgain = (env : Env) (file : FileOf Plain) → resolved env (resolved env file) ≡ resolved env file

abbrev pub FaultAgain : Type 0
FaultAgain = (env : Env) (file : FileOf Plain) → scope_fault env (resolved env file) ≡ scope_fault env file

-- Each expression of a resolved body, as `find` gives it, has the binders of its place as its notes, and these are in sight there.

pub record Noted (d : Judged Plain) (w : Whole Use) : Type 0 where
  pub as_uses : notes Use w.expr ≡ uses (binder_at (sight d) (found.arms w.place)) (case_of d.known) w.expr
  pub in_sight : Each (λ (u : Use). InSight (sight d) d.known.enums (found.arms w.place) u.bound) (notes Use w.expr)

abbrev pub NotesInSight : Type 0
NotesInSight = (d : Judged Plain) (cases : ℕ → Option ℕ) (signal : Expr Use → Bool)
    → Each (Noted d) (found.find Use (length d.params) cases signal (resolved_body d)).exprs
