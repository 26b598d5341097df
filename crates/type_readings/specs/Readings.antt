-- Expressions by where they stand.
use Rattle.std.specs.Prelude.{ℕ, ◌<◌, ◌&&◌, ◌==◌, not, Bool, true, false, List, [], ◌∷◌, ◌++◌, map, length, slice_get, Option, Some, None, option_map, if◌then◌else◌, nat_lt}
use Rattle.ls_ast.specs.declared.tree.Case.{Case}
use Rattle.ls_ast.specs.declared.tree.Expr.{Expr}
use Rattle.ls_ast.specs.declared.tree.Form.{Form, out-Form}
use Rattle.ls_ast.specs.declared.tree.Form.TheOpen.{Form-F}
use Rattle.ls_ast.specs.declared.tree.Mark.{Mark}
use Rattle.ls_ops.specs.declared.kinds.Op.{Op}
use Rattle.ls_ops.specs.Signature.{signature_of}
use Rattle.ls_sig.specs.Notes.{is_signal}
use Rattle.ls_sig.specs.declared.binder.Binder.{Binder}
use Rattle.ls_sig.specs.declared.binder.Binder.TheVariants as b
use Rattle.ls_sig.specs.declared.sigs.Sig.{Sig}
use Rattle.ls_terms.specs.declared.types.Kind.TheVariants.{Comb}
use Rattle.ls_terms.specs.declared.types.TypeTerm.{TypeTerm}
use Rattle.ls_terms.specs.declared.types.TypeTerm.TheVariants as t
use Rattle.type_readings.specs.declared.expressions.CallKind.{CallKind}
use Rattle.type_readings.specs.declared.expressions.CallKind.TheVariants as call
use Rattle.type_readings.specs.declared.given.Given.{Given}
use Rattle.type_readings.specs.declared.stand.Stand.{Stand}
use Rattle.type_readings.specs.declared.stand.Stand.TheVariants as stand
use Rattle.type_readings.specs.Given as scene
use Rattle.type_rules.specs.declared.demand.Demand.{Demand}
use Rattle.type_rules.specs.declared.demand.Demand.TheVariants.{Fits, Equal, Function, Never}
use Rattle.type_rules.specs.Expressions as ex
use Rattle.type_rules.specs.Expressions.{Reading}
use Rattle.type_rules.specs.Numbers.{Placed, bound_of, place_of}

-- what an expression asks where it stands so
abbrev pub asked : Stand → Reading ℕ → List (Demand ℕ)
asked stand.Stream r = r.stream
asked stand.Bare r = r.bare
asked stand.Whole r = r.whole
asked stand.Body r = r.body

-- where the argument of this place stands
abbrev pub stand_by : Option Mark → Stand
stand_by None = stand.Stream
stand_by (Some m) = if ex.is_bare m then stand.Bare else stand.Stream

abbrev pub stand_at : List Mark → ℕ → Stand
stand_at marks k = stand_by (slice_get marks k)

-- where the argument of a parameter stands
abbrev pub stand_in : Bool → Stand
stand_in true = stand.Bare
stand_in false = stand.Stream

abbrev pub is_bare : Stand → Bool
is_bare stand.Bare = true
is_bare _ = false

-- where a call may answer a signal
abbrev pub is_whole : Stand → Bool
is_whole stand.Whole = true
is_whole stand.Body = true
is_whole _ = false

abbrev pub places : List (Expr Placed) → List ℕ
places [] = []
places (e ∷ es) = place_of e.note ∷ places es

-- each expression with the scheme in its place
abbrev pub zipped : List (Expr Placed) → List TypeTerm → List (ℕ × TypeTerm)
zipped [] ts = []
zipped (e ∷ es) [] = []
zipped (e ∷ es) (t ∷ ts) = (place_of e.note, t) ∷ zipped es ts

-- the branches of a `merge`, each with the variable of schemes
abbrev pub branch_fits : List (Case × Expr Placed) → List (ℕ × TypeTerm)
branch_fits [] = []
branch_fits (c ∷ cs) = (place_of c.1.note, ex.any) ∷ branch_fits cs

-- ---- operators

abbrev pub operands_agree : Op → ℕ → Bool
operands_agree op n = n == length (ex.operand_types (signature_of op))

abbrev pub operator_fits : ℕ → Op → List (Expr Placed) → List (Demand ℕ)
operator_fits k op args =
    if operands_agree op (length args) then Fits ((k, ex.result_type (signature_of op)) ∷ zipped args (ex.operand_types (signature_of op))) ∷ [] else Never ∷ []

-- ---- calls

-- what the call of a definition with so many arguments is; `alone` says that nothing restarts it
abbrev pub call_kind : Option Sig → Bool → ℕ → Bool → CallKind
call_kind None run n alone = call.Never
call_kind (Some sig) run n alone =
    if run && ex.same_kind sig.kind Comb then call.Never
    else (if n == length sig.params then call.Whole
    else (if nat_lt n (length sig.params) && (not run && alone) then call.Partial else call.Never))

-- a function that is left stands bare alone
abbrev pub admitted : CallKind → Option Sig → ℕ → Stand → CallKind
admitted call.Partial (Some sig) n w = if is_bare w && ex.is_passed sig n then call.Partial else call.Never
admitted call.Partial None n w = call.Never
admitted call.Whole sig n w = call.Whole
admitted call.Never sig n w = call.Never

abbrev pub opened_kind : Option Sig → Bool → ℕ → Bool → Stand → CallKind
opened_kind sig run n alone w = admitted (call_kind sig run n alone) sig n w

abbrev pub opening : ℕ → Option Sig → List (Expr Placed) → CallKind → List (Demand ℕ)
opening k (Some sig) args call.Whole = Fits ((k, sig.result) ∷ zipped args sig.params) ∷ []
opening k (Some sig) args call.Partial = Fits ((k, ex.rest_of sig (length args)) ∷ zipped args sig.params) ∷ []
opening k (Some sig) args call.Never = Never ∷ []
opening k None args kind = Never ∷ []

-- what a call asks of its own type and those of its arguments
abbrev pub opened : ℕ → Option Sig → Bool → List (Expr Placed) → Bool → Stand → List (Demand ℕ)
opened k sig run args alone w = opening k sig args (opened_kind sig run (length args) alone w)

-- a function is left where arguments are missing
abbrev pub HasRoom : Option Sig → CallKind → ℕ → Type 0
HasRoom (Some sig) call.Partial n = n < length sig.params
HasRoom (Some sig) call.Whole n = Unit {0}
HasRoom (Some sig) call.Never n = Unit {0}
HasRoom None kind n = Unit {0}

-- the result of a call that has all arguments is data, where it may not be a signal
abbrev pub closed : ℕ → Option Sig → Stand → List (Demand ℕ)
closed k (Some sig) w = if is_signal sig.result && is_whole w then [] else Fits ((k, ex.any) ∷ []) ∷ []
closed k None w = Fits ((k, ex.any) ∷ []) ∷ []

abbrev pub is_whole_call : CallKind → Bool
is_whole_call call.Whole = true
is_whole_call _ = false

abbrev pub is_partial_call : CallKind → Bool
is_partial_call call.Partial = true
is_partial_call _ = false

-- what the name of a parameter or a variable asks where it stands so
abbrev pub named : ℕ → Bool → Option ℕ → Stand → List (Demand ℕ)
named k signal None w = Never ∷ []
named k signal (Some u) stand.Bare = Equal k u ∷ []
named k signal (Some u) stand.Body = if signal then Equal k u ∷ [] else Fits ((k, ex.any) ∷ (u, ex.any) ∷ []) ∷ []
named k signal (Some u) stand.Stream = Fits ((k, ex.any) ∷ (u, ex.any) ∷ []) ∷ []
named k signal (Some u) stand.Whole = Fits ((k, ex.any) ∷ (u, ex.any) ∷ []) ∷ []

-- a constructor has the type of its enumeration
abbrev pub constructor_demand : ℕ → Binder → Demand ℕ
constructor_demand k (b.Case e j) = Fits ((k, t.Enum e) ∷ [])
constructor_demand k b.Nothing = Never
constructor_demand k (b.Def j) = Never
constructor_demand k (b.Param j) = Never
constructor_demand k (b.Var j) = Never

-- `last x` has the type of x
abbrev pub last_demand : ℕ → Option ℕ → Demand ℕ
last_demand k None = Never
last_demand k (Some u) = Fits ((k, ex.any) ∷ (u, ex.any) ∷ [])

-- whether a call answers a signal
abbrev pub call_answers : Option Sig → Bool → ℕ → Bool
call_answers None run n = false
call_answers (Some sig) run n = is_whole_call (call_kind (Some sig) run n false) && is_signal sig.result

module _ {C : Type 0} (case_type : C → ℕ → Option TypeTerm) (g : Given C) where
  abbrev pub readings : List (Expr Placed) → List (Reading ℕ)
  readings = map (scene.said case_type g)

  abbrev pub choices : List (Case × Expr Placed) → List (Case × Reading ℕ)
  choices = map {A = Case × Expr Placed} {B = Case × Reading ℕ} (λ c. (c.0, scene.said case_type g c.1))

  abbrev pub maybe : Option (Expr Placed) → Option (Reading ℕ)
  maybe = option_map (scene.said case_type g)

  -- what the arguments of a call are asked
  abbrev pub arguments : CallKind → Option Sig → List (Expr Placed) → List (Demand ℕ)
  arguments kind None args = []
  arguments call.Never (Some sig) args = []
  arguments call.Partial (Some sig) args = ex.given sig.marks (readings args)
  arguments call.Whole (Some sig) args = ex.given sig.marks (readings args)

  -- what a call of a kind asks of its own type and of its arguments
  abbrev pub begun : ℕ → Option Sig → List (Expr Placed) → CallKind → List (Demand ℕ)
  begun k sig args kind = opening k sig args kind ++ arguments kind sig args

  -- what the application of a parameter asks but for what restarts it
  abbrev pub applying : ℕ → Option ℕ → Bool → List (Expr Placed) → List (Demand ℕ)
  applying k None run args = Never ∷ []
  applying k (Some u) run args = (Function u (ex.kind_of run) (places args) k ∷ Fits ((k, ex.any) ∷ []) ∷ []) ++ ex.applied (readings args)

  abbrev pub branches : Option ℕ → List (Case × Reading ℕ) → List (Demand ℕ)
  branches = ex.branches bound_of place_of g.sigs.now (scene.cases case_type g) (scene.marks case_type g) (scene.signal_at case_type g) (scene.type_of case_type g)

  abbrev pub use_of : ℕ → Binder → Reading ℕ
  use_of = ex.use_of bound_of place_of g.sigs.now (scene.cases case_type g) (scene.marks case_type g) (scene.signal_at case_type g) (scene.type_of case_type g)

  abbrev pub head_of : ℕ → Binder → Bool → List (Reading ℕ) → Option (Reading ℕ) → Reading ℕ
  head_of = ex.head_of bound_of place_of g.sigs.now (scene.cases case_type g) (scene.marks case_type g) (scene.signal_at case_type g) (scene.type_of case_type g)

  abbrev pub constructor_of : ℕ → Binder → Demand ℕ
  constructor_of = ex.constructor_of bound_of place_of g.sigs.now (scene.cases case_type g) (scene.marks case_type g) (scene.signal_at case_type g) (scene.type_of case_type g)

  abbrev pub last_of : ℕ → Option ℕ → Demand ℕ
  last_of = ex.last_of bound_of place_of g.sigs.now (scene.cases case_type g) (scene.marks case_type g) (scene.signal_at case_type g) (scene.type_of case_type g)

  -- whether a use or a call is a function as an argument of a parameter
  abbrev pub use_function : Binder → Bool
  use_function (b.Param k) = not (ex.none_of (scene.type_of case_type g (b.Param k))) && ex.is_functional (scene.marks case_type g k)
  use_function (b.Def k) = is_partial_call (call_kind (slice_get g.sigs.now k) false 0 true)
  use_function _ = false

  abbrev pub head_function : Binder → Bool → ℕ → Bool → Bool
  head_function (b.Def k) run n alone = is_partial_call (call_kind (slice_get g.sigs.now k) run n alone)
  head_function _ run n alone = false

  abbrev pub function_layer : {X Y : Type 0} → Form-F Placed X Y → Binder → Bool
  function_layer (Form-F.Var x) bound = use_function bound
  function_layer (Form-F.Call run x args every) bound = head_function bound run (length args) (ex.none_of every)
  function_layer _ bound = false

  -- whether a form with this binder is a function
  abbrev pub function_of : Form Placed → Binder → Bool
  function_of f bound = function_layer (out-Form Placed f) bound

  -- whether a use or a call answers a signal
  abbrev pub use_answers : Binder → Bool
  use_answers (b.Def k) = call_answers (slice_get g.sigs.now k) false 0
  use_answers _ = false

  abbrev pub head_answers : Binder → Bool → ℕ → Bool
  head_answers (b.Def k) run n = call_answers (slice_get g.sigs.now k) run n
  head_answers _ run n = false

  abbrev pub answers_layer : {X Y : Type 0} → Form-F Placed X Y → Binder → Bool
  answers_layer (Form-F.Var x) bound = use_answers bound
  answers_layer (Form-F.Call run x args every) bound = head_answers bound run (length args)
  answers_layer _ bound = false

  -- whether a form with this binder answers a signal
  abbrev pub answers_of : Form Placed → Binder → Bool
  answers_of f bound = answers_layer (out-Form Placed f) bound
