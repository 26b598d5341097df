-- What each form of expression asks of the types of its direct parts.
use Rattle.std.specs.Prelude.{ℕ, zero, suc, ◌==◌, ◌&&◌, not, Bool, true, false, List, [], ◌∷◌, ◌++◌, length, drop, replicate, slice_get, Option, Some, None, if◌then◌else◌, nat_lt}
use Rattle.ls_value.specs.declared.leaf.Leaf.{Leaf}
use Rattle.ls_value.specs.declared.leaf.Leaf.TheVariants as leaf
use Rattle.ls_ops.specs.declared.kinds.OpSign.{OpSign}
use Rattle.ls_ops.specs.declared.kinds.OpSign.TheVariants as sign
use Rattle.ls_ops.specs.Signature.{signature_of}
use Rattle.ls_ast.specs.declared.tree.Case.{Case}
use Rattle.ls_ast.specs.declared.tree.Case.TheVariants.{True, False, Of}
use Rattle.ls_ast.specs.declared.tree.Mark.{Mark}
use Rattle.ls_ast.specs.declared.tree.Mark.TheVariants as mark
use Rattle.ls_ast.specs.declared.tree.Expr.{Expr, Expr-F, fold-Expr}
use Rattle.ls_ast.specs.declared.tree.Form.{Form, fold-Form}
use Rattle.ls_ast.specs.declared.tree.Form.TheOpen.{Form-F}
use Rattle.ls_terms.specs.declared.types.Kind.{Kind}
use Rattle.ls_terms.specs.declared.types.Kind.TheVariants.{Comb, Seq}
use Rattle.ls_terms.specs.declared.types.TypeTerm.{TypeTerm}
use Rattle.ls_terms.specs.declared.types.TypeTerm.TheVariants as t
use Rattle.ls_sig.specs.Notes.{is_signal}
use Rattle.ls_sig.specs.declared.binder.Binder.{Binder}
use Rattle.ls_sig.specs.declared.binder.Binder.TheVariants as b
use Rattle.ls_sig.specs.declared.sigs.Sig.{Sig}
use Rattle.type_rules.specs.declared.demand.Demand.{Demand}
use Rattle.type_rules.specs.declared.demand.Demand.TheVariants.{Fits, Equal, Function, Never}

-- the variable of the schemes of forms, 'a
abbrev pub any : TypeTerm
any = t.Var 0

-- an expression asks different things by where it stands
pub record Reading (X : Type 0) : Type 0 where
  -- its type
  pub ty : X
  -- as a stream, whose type is data
  pub stream : List (Demand X)
  -- as an argument that is a function or a signal, where it is one
  pub bare : List (Demand X)
  -- as the whole right side of an equation, where a call may answer a signal
  pub whole : List (Demand X)
  -- as the whole body, where a signal may stand besides
  pub body : List (Demand X)
  -- whether it is a call that answers a signal
  pub answers_signal : Bool
  -- whether it is a function as an argument of a parameter
  pub is_function : Bool

abbrev pub reading : {X : Type 0} → X → List (Demand X) → Reading X
reading t ds = record { ty = t; stream = ds; bare = ds; whole = ds; body = ds; answers_signal = false; is_function = false }

abbrev pub streams : {X : Type 0} → List (Reading X) → List (Demand X)
streams [] = []
streams (e ∷ es) = e.stream ++ streams es

abbrev pub types_of : {X : Type 0} → List (Reading X) → List X
types_of [] = []
types_of (e ∷ es) = e.ty ∷ types_of es

abbrev pub zip_fits : {X : Type 0} → List (Reading X) → List TypeTerm → List (X × TypeTerm)
zip_fits [] ts = []
zip_fits (e ∷ es) [] = []
zip_fits (e ∷ es) (s ∷ ss) = (e.ty, s) ∷ zip_fits es ss

abbrev pub vars_from : ℕ → ℕ → List TypeTerm
vars_from n zero = []
vars_from n (suc k) = t.Var n ∷ vars_from (suc n) k

-- ---- literals and operators

abbrev pub literal_type : Leaf → TypeTerm
literal_type leaf.Nil = any
literal_type (leaf.Int z) = t.Int
literal_type (leaf.Bool b) = t.Bool
literal_type (leaf.Char c) = t.Char
literal_type (leaf.Text c) = t.Text
literal_type (leaf.Enum e k) = t.Enum e
literal_type leaf.Unit = t.Unit

abbrev pub operand_types : OpSign → List TypeTerm
operand_types (sign.Ints n) = replicate n t.Int
operand_types (sign.IntPred n) = replicate n t.Int
operand_types (sign.Bools n) = replicate n t.Bool
operand_types sign.CharPred = t.Char ∷ []
operand_types sign.CharInt = t.Char ∷ []
operand_types sign.Same = any ∷ any ∷ []
operand_types sign.Choice = t.Bool ∷ any ∷ any ∷ []

abbrev pub result_type : OpSign → TypeTerm
result_type (sign.Ints n) = t.Int
result_type (sign.IntPred n) = t.Bool
result_type (sign.Bools n) = t.Bool
result_type sign.CharPred = t.Bool
result_type sign.CharInt = t.Int
result_type sign.Same = t.Bool
result_type sign.Choice = any

-- ---- calls

abbrev pub same_kind : Kind → Kind → Bool
same_kind Comb Comb = true
same_kind Seq Seq = true
same_kind _ _ = false

abbrev pub is_functional : Mark → Bool
is_functional mark.Comb = true
is_functional mark.Seq = true
is_functional _ = false

abbrev pub is_bare : Mark → Bool
is_bare mark.Comb = true
is_bare mark.Seq = true
is_bare mark.Signal = true
is_bare _ = false

abbrev pub is_stream : Mark → Bool
is_stream mark.Clock = false
is_stream mark.Signal = false
is_stream _ = true

-- the arguments of a definition, by the marks of its parameters
abbrev pub given : {X : Type 0} → List Mark → List (Reading X) → List (Demand X)
given ms [] = []
given [] (e ∷ es) = e.stream ++ given [] es
given (m ∷ ms) (e ∷ es) = (if is_bare m then e.bare else e.stream) ++ given ms es

-- the arguments of a parameter
abbrev pub applied : {X : Type 0} → List (Reading X) → List (Demand X)
applied [] = []
applied (e ∷ es) = (if e.is_function then e.bare else e.stream) ++ applied es

abbrev pub restarts : {X : Type 0} → Option (Reading X) → List (Demand X)
restarts None = []
restarts (Some e) = Fits ((e.ty, t.Bool) ∷ []) ∷ e.stream

abbrev pub none_of : {A : Type 0} → Option A → Bool
none_of None = true
none_of (Some x) = false

abbrev pub all_streams : List Mark → Bool
all_streams [] = true
all_streams (m ∷ ms) = is_stream m && all_streams ms

-- whether what is left of a definition after some arguments is passed as a function
abbrev pub is_passed : Sig → ℕ → Bool
is_passed sig n = not (is_signal sig.result) && all_streams (drop n sig.marks)

-- the function that is left of a definition after some arguments
abbrev pub rest_of : Sig → ℕ → TypeTerm
rest_of sig n = t.Arrow sig.kind (drop n sig.params) sig.result

abbrev pub called : {X : Type 0} → X → Sig → List (Reading X) → Option (Reading X) → Reading X
called ty sig args every =
    let ds = Fits ((ty, sig.result) ∷ zip_fits args sig.params) ∷ given sig.marks args ++ restarts every in
    let of_data = ds ++ Fits ((ty, any) ∷ []) ∷ [] in
    let ends = if is_signal sig.result then ds else of_data in
    record { ty = ty; stream = of_data; bare = of_data; whole = ends; body = ends; answers_signal = is_signal sig.result; is_function = false }

-- a definition with too few arguments
abbrev pub partial : {X : Type 0} → X → Sig → List (Reading X) → Reading X
partial ty sig args =
    record (reading ty (Never ∷ [])) {
      bare = if is_passed sig (length args) then Fits ((ty, rest_of sig (length args)) ∷ zip_fits args sig.params) ∷ given sig.marks args else Never ∷ [];
      is_function = true;
    }

abbrev pub call_of : {X : Type 0} → X → Option Sig → Bool → List (Reading X) → Option (Reading X) → Reading X
call_of ty None run args every = reading ty (Never ∷ [])
call_of ty (Some sig) run args every =
    if run && same_kind sig.kind Comb then reading ty (Never ∷ [])
    else (if length args == length sig.params then called ty sig args every
    else (if nat_lt (length args) (length sig.params) && (not run && none_of every) then partial ty sig args else reading ty (Never ∷ [])))

abbrev pub kind_of : Bool → Kind
kind_of true = Seq
kind_of false = Comb

-- a parameter that is applied
abbrev pub application : {X : Type 0} → X → Option X → Bool → List (Reading X) → Option (Reading X) → Reading X
application ty None run args every = reading ty (Never ∷ [])
application ty (Some f) run args every =
    reading ty (Function f (kind_of run) (types_of args) ty ∷ Fits ((ty, any) ∷ []) ∷ applied args ++ restarts every)

-- ---- names and conditions

abbrev pub name_reading : {X : Type 0} → X → Bool → Bool → Option X → Reading X
name_reading ty function signal None = reading ty (Never ∷ [])
name_reading ty function signal (Some u) =
    let ds = Fits ((ty, any) ∷ (u, any) ∷ []) ∷ [] in
    record {
      ty = ty;
      stream = ds;
      bare = Equal ty u ∷ [];
      whole = ds;
      body = if signal then Equal ty u ∷ [] else ds;
      answers_signal = false;
      is_function = function;
    }

abbrev pub condition : {X : Type 0} → Option X → Option TypeTerm → List (X × TypeTerm) → Demand X
condition (Some u) (Some s) fs = Fits ((u, s) ∷ fs)
condition _ _ fs = Never

abbrev pub asked : {X : Type 0} → X → Option X → List (Demand X)
asked ty None = Never ∷ []
asked ty (Some u) = Fits ((ty, t.Bool) ∷ (u, t.Signal any) ∷ []) ∷ []

abbrev pub is_signal_mark : Mark → Bool
is_signal_mark mark.Signal = true
is_signal_mark _ = false

-- `bound` and `ty` read a note; `sigs` are the signatures of earlier definitions; `case_type` is the type that a constructor belongs to, by the number of its name;
-- `marks` are those of the parameters' names and `signals` says which variables are signals; `type_of` is what stands for the type of a parameter or variable
module _ {N X : Type 0} (bound : N → Binder) (ty : N → X) (sigs : List Sig) (case_type : ℕ → Option TypeTerm) (marks : ℕ → Mark) (signals : ℕ → Bool) (type_of : Binder → Option X) where
  abbrev pub use_of : X → Binder → Reading X
  use_of x (b.Def k) = call_of x (slice_get sigs k) false [] None
  use_of x (b.Param k) = name_reading x (is_functional (marks k)) (is_signal_mark (marks k)) (type_of (b.Param k))
  use_of x (b.Var k) = name_reading x false (signals k) (type_of (b.Var k))
  use_of x _ = reading x (Never ∷ [])

  abbrev pub head_of : X → Binder → Bool → List (Reading X) → Option (Reading X) → Reading X
  head_of x (b.Def k) run args every = call_of x (slice_get sigs k) run args every
  head_of x (b.Param k) run args every = application x (type_of (b.Param k)) run args every
  head_of x _ run args every = reading x (Never ∷ [])

  abbrev pub constructor_of : X → Binder → Demand X
  constructor_of x (b.Case e k) = Fits ((x, t.Enum e) ∷ [])
  constructor_of x _ = Never

  abbrev pub last_of : X → Option X → Demand X
  last_of x None = Never
  last_of x (Some u) = Fits ((x, any) ∷ (u, any) ∷ [])

  abbrev pub type_of_case : Case → Option TypeTerm
  type_of_case True = Some t.Bool
  type_of_case False = Some t.Bool
  type_of_case (Of name) = case_type name.0

  abbrev pub branches : Option X → List (Case × Reading X) → List (Demand X)
  branches u [] = []
  branches u (c ∷ cs) = condition u (type_of_case c.0) [] ∷ c.1.stream ++ branches u cs

  abbrev pub branch_types : List (Case × Reading X) → List (X × TypeTerm)
  branch_types [] = []
  branch_types (c ∷ cs) = (c.1.ty, any) ∷ branch_types cs

  abbrev pub form_step : Form-F N (N → Reading X) (Reading X) → N → Reading X
  form_step (Form-F.Leaf l) n = reading (ty n) (Fits ((ty n, literal_type l) ∷ []) ∷ [])
  form_step (Form-F.Case name) n = reading (ty n) (constructor_of (ty n) (bound n) ∷ [])
  form_step (Form-F.Var name) n = use_of (ty n) (bound n)
  form_step (Form-F.Last name) n = reading (ty n) (last_of (ty n) (type_of (bound n)) ∷ [])
  form_step (Form-F.Asked name) n = reading (ty n) (asked (ty n) (type_of (bound n)))
  form_step (Form-F.Op op args) n =
      reading (ty n) (if length args == length (operand_types (signature_of op))
      then Fits ((ty n, result_type (signature_of op)) ∷ zip_fits args (operand_types (signature_of op))) ∷ streams args
      else Never ∷ [])
  form_step (Form-F.Tuple args) n = reading (ty n) (Fits ((ty n, t.Tuple (vars_from 0 (length args))) ∷ zip_fits args (vars_from 0 (length args))) ∷ streams args)
  form_step (Form-F.Pre e) n = reading (ty n) (Fits ((ty n, any) ∷ (e.ty, any) ∷ []) ∷ e.stream)
  form_step (Form-F.Fby a c) n = reading (ty n) (Fits ((ty n, any) ∷ (a.ty, any) ∷ (c.ty, any) ∷ []) ∷ a.stream ++ c.stream)
  form_step (Form-F.Init a c) n = reading (ty n) (Fits ((ty n, any) ∷ (a.ty, any) ∷ (c.ty, any) ∷ []) ∷ a.stream ++ c.stream)
  form_step (Form-F.When e name case) n = reading (ty n) (condition (type_of (bound n)) (type_of_case case) ((ty n, any) ∷ (e.ty, any) ∷ []) ∷ e.stream)
  form_step (Form-F.Merge name choices) n = reading (ty n) (Fits ((ty n, any) ∷ branch_types choices) ∷ branches (type_of (bound n)) choices)
  form_step (Form-F.Call run head args every) n = head_of (ty n) (bound n) run args every

  abbrev pub expr_step : Expr-F N (N → Reading X) (Reading X) → Reading X
  expr_step e = e.form e.note

  abbrev pub reading_of : Expr N → Reading X
  reading_of = fold-Expr N (N → Reading X) (Reading X) form_step expr_step

  abbrev pub reading_of_form : Form N → N → Reading X
  reading_of_form = fold-Form N (N → Reading X) (Reading X) form_step expr_step
