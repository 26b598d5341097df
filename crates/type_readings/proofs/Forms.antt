-- What each form of expression asks, in the words of the walk.
use Rattle.std.specs.Prelude.{◌≡◌, refl, ℕ, suc, ◌==◌, ◌&&◌, not, Bool, true, false, List, [], ◌∷◌, ◌++◌, length, slice_get, Option, Some, None, if◌then◌else◌, nat_lt}
use Rattle.std.proofs.Common.{ap, ap₂, sym, ◌∙◌}
use Rattle.ls_ast.specs.declared.tree.Case.{Case}
use Rattle.ls_ast.specs.declared.tree.Expr.{Expr, fold_out-Expr}
use Rattle.ls_ast.specs.declared.tree.Form.{Form, out-Form, roll-Form, fold-roll-Form, fold_out-Form, map-Form}
use Rattle.ls_ast.specs.declared.tree.Form.TheOpen.{Form-F}
use Rattle.ls_ast.specs.declared.tree.Form.TheVariants as form
use Rattle.ls_base.specs.declared.Name.{Name}
use Rattle.ls_ops.specs.Signature.{signature_of}
use Rattle.ls_ops.specs.declared.kinds.Op.{Op}
use Rattle.ls_sig.specs.Notes.{is_signal}
use Rattle.ls_sig.specs.declared.binder.Binder.{Binder}
use Rattle.ls_sig.specs.declared.binder.Binder.TheVariants as b
use Rattle.ls_sig.specs.declared.sigs.Sig.{Sig}
use Rattle.ls_terms.specs.declared.types.Kind.TheVariants.{Comb}
use Rattle.ls_terms.specs.declared.types.TypeTerm.{TypeTerm}
use Rattle.ls_terms.specs.declared.types.TypeTerm.TheVariants as t
use Rattle.ls_value.specs.declared.leaf.Leaf.{Leaf}
use Rattle.type_readings.specs.declared.expressions.CallKind.{CallKind}
use Rattle.type_readings.specs.declared.expressions.CallKind.TheVariants as call
use Rattle.type_readings.specs.declared.given.Given.{Given}
use Rattle.type_readings.specs.declared.stand.Stand.{Stand}
use Rattle.type_readings.specs.declared.stand.Stand.TheVariants as stand
use Rattle.type_readings.specs.Given as scene
use Rattle.type_readings.specs.Readings as spec
use Rattle.type_readings.specs.Readings.{asked}
use Rattle.type_rules.specs.declared.demand.Demand.{Demand}
use Rattle.type_rules.specs.declared.demand.Demand.TheVariants.{Fits, Never}
use Rattle.type_rules.specs.Expressions as ex
use Rattle.type_rules.specs.Expressions.{Reading, reading, any}
use Rattle.type_rules.specs.Numbers.{Placed, bound_of, place_of}

-- ---- a form that has one reading has it wherever it stands

pub asked_same : (w : Stand) (k : ℕ) (ds : List (Demand ℕ)) → asked w (reading k ds) ≡ ds
asked_same stand.Stream k ds = refl
asked_same stand.Bare k ds = refl
asked_same stand.Whole k ds = refl
asked_same stand.Body k ds = refl

asked_by : (w : Stand) (r : Reading ℕ) (k : ℕ) (ds : List (Demand ℕ)) → r ≡ reading k ds → asked w r ≡ ds
asked_by w r k ds e = ap (asked w) e ∙ asked_same w k ds

-- ---- the type of an expression is at its place

if_ty : (c : Bool) (r s : Reading ℕ) (k : ℕ) → r.ty ≡ k → s.ty ≡ k → (if c then r else s).ty ≡ k
if_ty true r s k p q = p
if_ty false r s k p q = q

call_ty : (k : ℕ) (sig : Option Sig) (run : Bool) (args : List (Reading ℕ)) (every : Option (Reading ℕ)) → (ex.call_of k sig run args every).ty ≡ k
call_ty k None run args every = refl
call_ty k (Some sig) run args every =
    if_ty (run && ex.same_kind sig.kind Comb) (reading k (Never ∷ [])) _ k refl
    (if_ty (length args == length sig.params) (ex.called k sig args every) _ k refl
    (if_ty (nat_lt (length args) (length sig.params) && (not run && ex.none_of every)) (ex.partial k sig args) (reading k (Never ∷ [])) k refl refl))

application_ty : (k : ℕ) (u : Option ℕ) (run : Bool) (args : List (Reading ℕ)) (every : Option (Reading ℕ)) → (ex.application k u run args every).ty ≡ k
application_ty k None run args every = refl
application_ty k (Some u) run args every = refl

name_ty : (k : ℕ) (function signal : Bool) (u : Option ℕ) → (ex.name_reading k function signal u).ty ≡ k
name_ty k function signal None = refl
name_ty k function signal (Some u) = refl

module _ {C : Type 0} (case_type : C → ℕ → Option TypeTerm) (g : Given C) where
  abbrev said : Expr Placed → Reading ℕ
  said = scene.said case_type g

  abbrev said_form : Form Placed → Placed → Reading ℕ
  said_form = scene.said_form case_type g

  abbrev step : Form-F Placed (Placed → Reading ℕ) (Reading ℕ) → Placed → Reading ℕ
  step = ex.form_step bound_of place_of g.sigs.now (scene.cases case_type g) (scene.marks case_type g) (scene.signal_at case_type g) (scene.type_of case_type g)

  abbrev below : Form-F Placed (Form Placed) (Expr Placed) → Form-F Placed (Placed → Reading ℕ) (Reading ℕ)
  below x = map-Form Placed (Form Placed) (Expr Placed) (Placed → Reading ℕ) (Reading ℕ) said_form said x

  at_roll : (x : Form-F Placed (Form Placed) (Expr Placed)) (n : Placed) → said_form (roll-Form Placed x) n ≡ step (below x) n
  at_roll x n = λ i. fold-roll-Form Placed (Placed → Reading ℕ) (Reading ℕ) step
      (ex.expr_step bound_of place_of g.sigs.now (scene.cases case_type g) (scene.marks case_type g) (scene.signal_at case_type g) (scene.type_of case_type g)) x i n

  at_out : (f : Form Placed) (n : Placed) → said_form f n ≡ step (below (out-Form Placed f)) n
  at_out f n = λ i. fold_out-Form Placed (Placed → Reading ℕ) (Reading ℕ) step
      (ex.expr_step bound_of place_of g.sigs.now (scene.cases case_type g) (scene.marks case_type g) (scene.signal_at case_type g) (scene.type_of case_type g)) f i n

  pub said_is : (e : Expr Placed) → said e ≡ said_form e.form e.note
  said_is = fold_out-Expr Placed (Placed → Reading ℕ) (Reading ℕ) step
      (ex.expr_step bound_of place_of g.sigs.now (scene.cases case_type g) (scene.marks case_type g) (scene.signal_at case_type g) (scene.type_of case_type g))

  use_ty : (k : ℕ) (x : Binder) → (spec.use_of case_type g k x).ty ≡ k
  use_ty k (b.Def j) = call_ty k (slice_get g.sigs.now j) false [] None
  use_ty k (b.Param j) = name_ty k _ _ (scene.type_of case_type g (b.Param j))
  use_ty k (b.Var j) = name_ty k _ _ (scene.type_of case_type g (b.Var j))
  use_ty k b.Nothing = refl
  use_ty k (b.Case e j) = refl

  head_ty : (k : ℕ) (x : Binder) (run : Bool) (args : List (Reading ℕ)) (every : Option (Reading ℕ)) → (spec.head_of case_type g k x run args every).ty ≡ k
  head_ty k (b.Def j) run args every = call_ty k (slice_get g.sigs.now j) run args every
  head_ty k (b.Param j) run args every = application_ty k (scene.type_of case_type g (b.Param j)) run args every
  head_ty k (b.Var j) run args every = refl
  head_ty k b.Nothing run args every = refl
  head_ty k (b.Case e j) run args every = refl

  step_ty : (x : Form-F Placed (Placed → Reading ℕ) (Reading ℕ)) (n : Placed) → (step x n).ty ≡ place_of n
  step_ty (Form-F.Leaf l) n = refl
  step_ty (Form-F.Case x) n = refl
  step_ty (Form-F.Var x) n = use_ty (place_of n) (bound_of n)
  step_ty (Form-F.Last x) n = refl
  step_ty (Form-F.Asked x) n = refl
  step_ty (Form-F.Op o args) n = refl
  step_ty (Form-F.Tuple args) n = refl
  step_ty (Form-F.Pre e) n = refl
  step_ty (Form-F.Fby x y) n = refl
  step_ty (Form-F.Init x y) n = refl
  step_ty (Form-F.When e x k) n = refl
  step_ty (Form-F.Merge x all) n = refl
  step_ty (Form-F.Call run x args every) n = head_ty (place_of n) (bound_of n) run args every

  pub ty_is : (e : Expr Placed) → (said e).ty ≡ place_of e.note
  ty_is e = ap (λ (r : Reading ℕ). r.ty) (said_is e ∙ at_out e.form e.note) ∙ step_ty (below (out-Form Placed e.form)) e.note

  -- ---- lists of parts

  pub zip_is : (es : List (Expr Placed)) (ts : List TypeTerm) → spec.zipped es ts ≡ ex.zip_fits (spec.readings case_type g es) ts
  zip_is [] ts = refl
  zip_is (e ∷ es) [] = refl
  zip_is (e ∷ es) (s ∷ ss) = ap₂ (λ k rest. (k, s) ∷ rest) (sym (ty_is e)) (zip_is es ss)

  pub types_are : (es : List (Expr Placed)) → spec.places es ≡ ex.types_of (spec.readings case_type g es)
  types_are [] = refl
  types_are (e ∷ es) = ap₂ (λ k rest. k ∷ rest) (sym (ty_is e)) (types_are es)

  abbrev branch_types : List (Case × Reading ℕ) → List (ℕ × TypeTerm)
  branch_types = ex.branch_types bound_of place_of g.sigs.now (scene.cases case_type g) (scene.marks case_type g) (scene.signal_at case_type g) (scene.type_of case_type g)

  branches_are : (cs : List (Case × Expr Placed)) → spec.branch_fits cs ≡ branch_types (spec.choices case_type g cs)
  branches_are [] = refl
  branches_are (c ∷ cs) = ap₂ (λ k rest. (k, any) ∷ rest) (sym (ty_is c.1)) (branches_are cs)

  same_length : (es : List (Expr Placed)) → length (spec.readings case_type g es) ≡ length es
  same_length [] = refl
  same_length (e ∷ es) = ap suc (same_length es)

  alone_is : (every : Option (Expr Placed)) → ex.none_of (spec.maybe case_type g every) ≡ ex.none_of every
  alone_is None = refl
  alone_is (Some e) = refl

  -- ---- forms

  abbrev Asks : Form Placed → Placed → Stand → List (Demand ℕ) → Type 0
  Asks f n w ds = asked w (said_form f n) ≡ ds

  one_reading : (f : Form Placed) (x : Form-F Placed (Form Placed) (Expr Placed)) (n : Placed) (w : Stand) (ds : List (Demand ℕ)) → roll-Form Placed x ≡ f → step (below x) n ≡ reading (place_of n) ds → Asks f n w ds
  one_reading f x n w ds is same = ap (λ z. asked w (said_form z n)) (sym is) ∙ ap (asked w) (at_roll x n) ∙ asked_by w (step (below x) n) (place_of n) ds same

  pub leaf_asks : (l : Leaf) (n : Placed) (w : Stand) → Asks (form.Leaf l) n w (Fits ((place_of n, ex.literal_type l) ∷ []) ∷ [])
  leaf_asks l n w = one_reading (form.Leaf l) (Form-F.Leaf l) n w _ (form.rolls-Leaf l) refl

  pub case_asks : (x : Name) (n : Placed) (w : Stand) → Asks (form.Case x) n w (spec.constructor_of case_type g (place_of n) (bound_of n) ∷ [])
  case_asks x n w = one_reading (form.Case x) (Form-F.Case x) n w _ (form.rolls-Case x) refl

  pub last_asks : (x : Name) (n : Placed) (w : Stand) → Asks (form.Last x) n w (spec.last_of case_type g (place_of n) (scene.type_of case_type g (bound_of n)) ∷ [])
  last_asks x n w = one_reading (form.Last x) (Form-F.Last x) n w _ (form.rolls-Last x) refl

  pub asked_asks : (x : Name) (n : Placed) (w : Stand) → Asks (form.Asked x) n w (ex.asked (place_of n) (scene.type_of case_type g (bound_of n)))
  asked_asks x n w = one_reading (form.Asked x) (Form-F.Asked x) n w _ (form.rolls-Asked x) refl

  pub var_asks : (x : Name) (n : Placed) (w : Stand) → Asks (form.Var x) n w (asked w (spec.use_of case_type g (place_of n) (bound_of n)))
  var_asks x n w = ap (λ z. asked w (said_form z n)) (sym (form.rolls-Var x)) ∙ ap (asked w) (at_roll (Form-F.Var x) n)

  pub pre_asks : (e : Expr Placed) (n : Placed) (w : Stand) → Asks (form.Pre e) n w (Fits ((place_of n, any) ∷ (place_of e.note, any) ∷ []) ∷ (said e).stream)
  pre_asks e n w = one_reading (form.Pre e) (Form-F.Pre e) n w _ (form.rolls-Pre e) (ap (λ k. reading (place_of n) (Fits ((place_of n, any) ∷ (k, any) ∷ []) ∷ (said e).stream)) (ty_is e))

  abbrev both : Placed → Expr Placed → Expr Placed → List (Demand ℕ)
  both n x y = Fits ((place_of n, any) ∷ (place_of x.note, any) ∷ (place_of y.note, any) ∷ []) ∷ (said x).stream ++ (said y).stream

  both_is : (n : Placed) (x y : Expr Placed)
      → reading (place_of n) (Fits ((place_of n, any) ∷ ((said x).ty, any) ∷ ((said y).ty, any) ∷ []) ∷ (said x).stream ++ (said y).stream) ≡ reading (place_of n) (both n x y)
  both_is n x y = ap₂ (λ j k. reading (place_of n) (Fits ((place_of n, any) ∷ (j, any) ∷ (k, any) ∷ []) ∷ (said x).stream ++ (said y).stream)) (ty_is x) (ty_is y)

  pub fby_asks : (x y : Expr Placed) (n : Placed) (w : Stand) → Asks (form.Fby x y) n w (both n x y)
  fby_asks x y n w = one_reading (form.Fby x y) (Form-F.Fby x y) n w _ (form.rolls-Fby x y) (both_is n x y)

  pub init_asks : (x y : Expr Placed) (n : Placed) (w : Stand) → Asks (form.Init x y) n w (both n x y)
  init_asks x y n w = one_reading (form.Init x y) (Form-F.Init x y) n w _ (form.rolls-Init x y) (both_is n x y)

  pub when_asks : (e : Expr Placed) (x : Name) (k : Case) (n : Placed) (w : Stand)
      → Asks (form.When e x k) n w (ex.condition (scene.type_of case_type g (bound_of n)) (scene.type_of_case case_type g k) ((place_of n, any) ∷ (place_of e.note, any) ∷ []) ∷ (said e).stream)
  when_asks e x k n w = one_reading (form.When e x k) (Form-F.When e x k) n w _ (form.rolls-When e x k)
      (ap (λ j. reading (place_of n) (ex.condition (scene.type_of case_type g (bound_of n)) (scene.type_of_case case_type g k) ((place_of n, any) ∷ (j, any) ∷ []) ∷ (said e).stream)) (ty_is e))

  pub merge_asks : (x : Name) (all : List (Case × Expr Placed)) (n : Placed) (w : Stand)
      → Asks (form.Merge x all) n w (Fits ((place_of n, any) ∷ spec.branch_fits all) ∷ spec.branches case_type g (scene.type_of case_type g (bound_of n)) (spec.choices case_type g all))
  merge_asks x all n w = one_reading (form.Merge x all) (Form-F.Merge x all) n w _ (form.rolls-Merge x all)
      (ap (λ z. reading (place_of n) (Fits ((place_of n, any) ∷ z) ∷ spec.branches case_type g (scene.type_of case_type g (bound_of n)) (spec.choices case_type g all))) (sym (branches_are all)))

  pub tuple_asks : (all : List (Expr Placed)) (n : Placed) (w : Stand)
      → Asks (form.Tuple all) n w (Fits ((place_of n, t.Tuple (ex.vars_from 0 (length all))) ∷ spec.zipped all (ex.vars_from 0 (length all))) ∷ ex.streams (spec.readings case_type g all))
  tuple_asks all n w = one_reading (form.Tuple all) (Form-F.Tuple all) n w _ (form.rolls-Tuple all)
      (ap (λ m. reading (place_of n) (Fits ((place_of n, t.Tuple (ex.vars_from 0 m)) ∷ ex.zip_fits (spec.readings case_type g all) (ex.vars_from 0 m)) ∷ ex.streams (spec.readings case_type g all))) (same_length all)
      ∙ ap (λ z. reading (place_of n) (Fits ((place_of n, t.Tuple (ex.vars_from 0 (length all))) ∷ z) ∷ ex.streams (spec.readings case_type g all))) (sym (zip_is all (ex.vars_from 0 (length all)))))

  -- the operands are asked where they are as many as the operator takes
  abbrev pub operands : Bool → List (Expr Placed) → List (Demand ℕ)
  operands c args = if c then ex.streams (spec.readings case_type g args) else []

  op_list : (c : Bool) (d : Demand ℕ) (ds : List (Demand ℕ)) → (if c then d ∷ ds else Never ∷ []) ≡ (if c then d ∷ [] else Never ∷ []) ++ (if c then ds else [])
  op_list true d ds = refl
  op_list false d ds = refl

  pub op_asks : (o : Op) (args : List (Expr Placed)) (n : Placed) (w : Stand)
      → Asks (form.Op o args) n w (spec.operator_fits (place_of n) o args ++ operands (spec.operands_agree o (length args)) args)
  op_asks o args n w = one_reading (form.Op o args) (Form-F.Op o args) n w _ (form.rolls-Op o args)
      (ap (reading (place_of n))
      ((λ i. if spec.operands_agree o (same_length args i) then Fits ((place_of n, ex.result_type (signature_of o)) ∷ sym (zip_is args (ex.operand_types (signature_of o))) i) ∷ ex.streams (spec.readings case_type g args) else Never ∷ [])
      ∙ op_list (spec.operands_agree o (length args)) (Fits ((place_of n, ex.result_type (signature_of o)) ∷ spec.zipped args (ex.operand_types (signature_of o)))) (ex.streams (spec.readings case_type g args))))

  -- ---- calls

  abbrev arguments : CallKind → Option Sig → List (Expr Placed) → List (Demand ℕ)
  arguments = spec.arguments case_type g

  abbrev pub ending : CallKind → ℕ → Option Sig → Option (Expr Placed) → Stand → List (Demand ℕ)
  ending call.Whole k sig every w = ex.restarts (spec.maybe case_type g every) ++ spec.closed k sig w
  ending _ k sig every w = []

  abbrev pub call_asks : ℕ → Option Sig → Bool → List (Expr Placed) → Option (Expr Placed) → Stand → List (Demand ℕ)
  call_asks k sig run args every w =
      let kind = spec.opened_kind sig run (length args) (ex.none_of every) w in
      spec.opening k sig args kind ++ (arguments kind sig args ++ ending kind k sig every w)

  nothing : (ds : List (Demand ℕ)) → ds ++ [] ≡ ds
  nothing [] = refl
  nothing (d ∷ ds) = ap (λ z. d ∷ z) (nothing ds)

  grouped : (xs ys zs : List (Demand ℕ)) → (xs ++ ys) ++ zs ≡ xs ++ (ys ++ zs)
  grouped [] ys zs = refl
  grouped (x ∷ xs) ys zs = ap (λ z. x ∷ z) (grouped xs ys zs)

  by_stand : (w : Stand) (s : Bool) (k : ℕ) (ds tail : List (Demand ℕ))
      → asked w (record { ty = k; stream = ds ++ tail; bare = ds ++ tail; whole = if s then ds else ds ++ tail; body = if s then ds else ds ++ tail; answers_signal = s; is_function = false })
      ≡ ds ++ (if s && spec.is_whole w then [] else tail)
  by_stand stand.Stream true k ds tail = refl
  by_stand stand.Stream false k ds tail = refl
  by_stand stand.Bare true k ds tail = refl
  by_stand stand.Bare false k ds tail = refl
  by_stand stand.Whole true k ds tail = sym (nothing ds)
  by_stand stand.Whole false k ds tail = refl
  by_stand stand.Body true k ds tail = sym (nothing ds)
  by_stand stand.Body false k ds tail = refl

  whole_asks : (k : ℕ) (sig : Sig) (args : List (Expr Placed)) (every : Option (Expr Placed)) (w : Stand)
      → asked w (ex.called k sig (spec.readings case_type g args) (spec.maybe case_type g every))
      ≡ Fits ((k, sig.result) ∷ spec.zipped args sig.params) ∷ ex.given sig.marks (spec.readings case_type g args) ++ (ex.restarts (spec.maybe case_type g every) ++ spec.closed k (Some sig) w)
  whole_asks k sig args every w =
      let gs = ex.given sig.marks (spec.readings case_type g args) in
      let rs = ex.restarts (spec.maybe case_type g every) in
      by_stand w (is_signal sig.result) k (Fits ((k, sig.result) ∷ ex.zip_fits (spec.readings case_type g args) sig.params) ∷ gs ++ rs) (Fits ((k, any) ∷ []) ∷ [])
      ∙ (λ i. Fits ((k, sig.result) ∷ sym (zip_is args sig.params) i) ∷ grouped gs rs (spec.closed k (Some sig) w) i)

  abbrev Splits : Reading ℕ → CallKind → ℕ → Sig → List (Expr Placed) → Option (Expr Placed) → Stand → Type 0
  Splits r kind k sig args every w = asked w r ≡ spec.opening k (Some sig) args kind ++ (arguments kind (Some sig) args ++ ending kind k (Some sig) every w)

  bare_part : (c : Bool) (k : ℕ) (sig : Sig) (args : List (Expr Placed)) (every : Option (Expr Placed)) (w : Stand)
      → (if c then Fits ((k, ex.rest_of sig (length args)) ∷ spec.zipped args sig.params) ∷ ex.given sig.marks (spec.readings case_type g args) else Never ∷ [])
      ≡ (let kind = if c then call.Partial else call.Never in spec.opening k (Some sig) args kind ++ (arguments kind (Some sig) args ++ ending kind k (Some sig) every w))
  bare_part true k sig args every w = ap (λ z. Fits ((k, ex.rest_of sig (length args)) ∷ spec.zipped args sig.params) ∷ z) (sym (nothing (ex.given sig.marks (spec.readings case_type g args))))
  bare_part false k sig args every w = refl

  partial_asks : (w : Stand) (k : ℕ) (sig : Sig) (args : List (Expr Placed)) (every : Option (Expr Placed))
      → Splits (ex.partial k sig (spec.readings case_type g args)) (spec.admitted call.Partial (Some sig) (length args) w) k sig args every w
  partial_asks stand.Stream k sig args every = refl
  partial_asks stand.Whole k sig args every = refl
  partial_asks stand.Body k sig args every = refl
  partial_asks stand.Bare k sig args every =
      (λ i. if ex.is_passed sig (same_length args i) then Fits ((k, ex.rest_of sig (same_length args i)) ∷ sym (zip_is args sig.params) i) ∷ ex.given sig.marks (spec.readings case_type g args) else Never ∷ [])
      ∙ bare_part (ex.is_passed sig (length args)) k sig args every stand.Bare

  by_cases : (c d e : Bool) (k : ℕ) (sig : Sig) (args : List (Expr Placed)) (every : Option (Expr Placed)) (w : Stand)
      → Splits (if c then reading k (Never ∷ []) else (if d then ex.called k sig (spec.readings case_type g args) (spec.maybe case_type g every)
      else (if e then ex.partial k sig (spec.readings case_type g args) else reading k (Never ∷ []))))
      (spec.admitted (if c then call.Never else (if d then call.Whole else (if e then call.Partial else call.Never))) (Some sig) (length args) w) k sig args every w
  by_cases true d e k sig args every w = asked_same w k (Never ∷ [])
  by_cases false true e k sig args every w = whole_asks k sig args every w
  by_cases false false true k sig args every w = partial_asks w k sig args every
  by_cases false false false k sig args every w = asked_same w k (Never ∷ [])

  -- a call asks what opens it, then its arguments, then what ends it
  pub call_asked : (k : ℕ) (sig : Option Sig) (run : Bool) (args : List (Expr Placed)) (every : Option (Expr Placed)) (w : Stand)
      → asked w (ex.call_of k sig run (spec.readings case_type g args) (spec.maybe case_type g every)) ≡ call_asks k sig run args every w
  call_asked k None run args every w = asked_same w k (Never ∷ [])
  call_asked k (Some sig) run args every w =
      (λ i. asked w (if run && ex.same_kind sig.kind Comb then reading k (Never ∷ [])
      else (if same_length args i == length sig.params then ex.called k sig (spec.readings case_type g args) (spec.maybe case_type g every)
      else (if nat_lt (same_length args i) (length sig.params) && (not run && alone_is every i) then ex.partial k sig (spec.readings case_type g args) else reading k (Never ∷ [])))))
      ∙ by_cases (run && ex.same_kind sig.kind Comb) (length args == length sig.params) (nat_lt (length args) (length sig.params) && (not run && ex.none_of every)) k sig args every w

  pub application_asked : (k : ℕ) (u : Option ℕ) (run : Bool) (args : List (Reading ℕ)) (every : Option (Reading ℕ)) (w : Stand)
      → asked w (ex.application k u run args every) ≡ (ex.application k u run args every).stream
  application_asked k None run args every w = asked_same w k _
  application_asked k (Some u) run args every w = asked_same w k _

  head_asks : (x : Name) (run : Bool) (args : List (Expr Placed)) (every : Option (Expr Placed)) (n : Placed) (w : Stand)
      → Asks (form.Call run x args every) n w (asked w (spec.head_of case_type g (place_of n) (bound_of n) run (spec.readings case_type g args) (spec.maybe case_type g every)))
  head_asks x run args None n w = ap (λ z. asked w (said_form z n)) (sym (form.rolls-Call run x args None)) ∙ ap (asked w) (at_roll (Form-F.Call run x args None) n)
  head_asks x run args (Some e) n w = ap (λ z. asked w (said_form z n)) (sym (form.rolls-Call run x args (Some e))) ∙ ap (asked w) (at_roll (Form-F.Call run x args (Some e)) n)

  pub head_asked : (f : Form Placed) (x : Name) (run : Bool) (args : List (Expr Placed)) (every : Option (Expr Placed)) (n : Placed) (w : Stand) → f ≡ form.Call run x args every
      → asked w (said_form f n) ≡ asked w (spec.head_of case_type g (place_of n) (bound_of n) run (spec.readings case_type g args) (spec.maybe case_type g every))
  head_asked f x run args every n w is = ap (λ z. asked w (said_form z n)) is ∙ head_asks x run args every n w

  -- ---- what a call is

  function_by : (c d e : Bool) (k : ℕ) (sig : Sig) (args : List (Reading ℕ)) (every : Option (Reading ℕ))
      → (if c then reading k (Never ∷ []) else (if d then ex.called k sig args every else (if e then ex.partial k sig args else reading k (Never ∷ [])))).is_function
      ≡ spec.is_partial_call (if c then call.Never else (if d then call.Whole else (if e then call.Partial else call.Never)))
  function_by true d e k sig args every = refl
  function_by false true e k sig args every = refl
  function_by false false true k sig args every = refl
  function_by false false false k sig args every = refl

  answers_by : (c d e h : Bool) (k : ℕ) (sig : Sig) (args : List (Reading ℕ)) (every : Option (Reading ℕ))
      → (if c then reading k (Never ∷ []) else (if d then ex.called k sig args every else (if e then ex.partial k sig args else reading k (Never ∷ [])))).answers_signal
      ≡ (spec.is_whole_call (if c then call.Never else (if d then call.Whole else (if h then call.Partial else call.Never))) && is_signal sig.result)
  answers_by true d e h k sig args every = refl
  answers_by false true e h k sig args every = refl
  answers_by false false true true k sig args every = refl
  answers_by false false true false k sig args every = refl
  answers_by false false false true k sig args every = refl
  answers_by false false false false k sig args every = refl

  call_function : (k : ℕ) (sig : Option Sig) (run : Bool) (args : List (Expr Placed)) (every : Option (Expr Placed))
      → (ex.call_of k sig run (spec.readings case_type g args) (spec.maybe case_type g every)).is_function ≡ spec.is_partial_call (spec.call_kind sig run (length args) (ex.none_of every))
  call_function k None run args every = refl
  call_function k (Some sig) run args every =
      function_by (run && ex.same_kind sig.kind Comb) (length (spec.readings case_type g args) == length sig.params)
      (nat_lt (length (spec.readings case_type g args)) (length sig.params) && (not run && ex.none_of (spec.maybe case_type g every))) k sig (spec.readings case_type g args) (spec.maybe case_type g every)
      ∙ (λ i. spec.is_partial_call (spec.call_kind (Some sig) run (same_length args i) (alone_is every i)))

  call_answers : (k : ℕ) (sig : Option Sig) (run : Bool) (args : List (Expr Placed)) (every : Option (Expr Placed))
      → (ex.call_of k sig run (spec.readings case_type g args) (spec.maybe case_type g every)).answers_signal ≡ spec.call_answers sig run (length args)
  call_answers k None run args every = refl
  call_answers k (Some sig) run args every =
      answers_by (run && ex.same_kind sig.kind Comb) (length (spec.readings case_type g args) == length sig.params)
      (nat_lt (length (spec.readings case_type g args)) (length sig.params) && (not run && ex.none_of (spec.maybe case_type g every)))
      (nat_lt (length (spec.readings case_type g args)) (length sig.params) && (not run && false)) k sig (spec.readings case_type g args) (spec.maybe case_type g every)
      ∙ (λ i. spec.is_whole_call (spec.call_kind (Some sig) run (same_length args i) false) && is_signal sig.result)

  -- ---- flags of a form

  abbrev function_layer : Form-F Placed (Form Placed) (Expr Placed) → Binder → Bool
  function_layer x bound = spec.function_layer case_type g x bound

  abbrev answers_layer : Form-F Placed (Form Placed) (Expr Placed) → Binder → Bool
  answers_layer x bound = spec.answers_layer case_type g x bound

  name_function : (k : ℕ) (function signal : Bool) (u : Option ℕ) → (ex.name_reading k function signal u).is_function ≡ (not (ex.none_of u) && function)
  name_function k function signal None = refl
  name_function k function signal (Some u) = refl

  name_answers : (k : ℕ) (function signal : Bool) (u : Option ℕ) → (ex.name_reading k function signal u).answers_signal ≡ false
  name_answers k function signal None = refl
  name_answers k function signal (Some u) = refl

  application_answers : (k : ℕ) (u : Option ℕ) (run : Bool) (args : List (Reading ℕ)) (every : Option (Reading ℕ)) → (ex.application k u run args every).answers_signal ≡ false
  application_answers k None run args every = refl
  application_answers k (Some u) run args every = refl

  use_answering : (k : ℕ) (x : Binder) → (spec.use_of case_type g k x).answers_signal ≡ spec.use_answers case_type g x
  use_answering k (b.Def j) = call_answers k (slice_get g.sigs.now j) false [] None
  use_answering k (b.Param j) = name_answers k _ _ (scene.type_of case_type g (b.Param j))
  use_answering k (b.Var j) = name_answers k _ _ (scene.type_of case_type g (b.Var j))
  use_answering k b.Nothing = refl
  use_answering k (b.Case e j) = refl

  head_answering : (k : ℕ) (x : Binder) (run : Bool) (args : List (Expr Placed)) (every : Option (Expr Placed))
      → (spec.head_of case_type g k x run (spec.readings case_type g args) (spec.maybe case_type g every)).answers_signal ≡ spec.head_answers case_type g x run (length args)
  head_answering k (b.Def j) run args every = call_answers k (slice_get g.sigs.now j) run args every
  head_answering k (b.Param j) run args every = application_answers k (scene.type_of case_type g (b.Param j)) run _ _
  head_answering k (b.Var j) run args every = refl
  head_answering k b.Nothing run args every = refl
  head_answering k (b.Case e j) run args every = refl

  answers_at : (x : Form-F Placed (Form Placed) (Expr Placed)) (n : Placed) → (step (below x) n).answers_signal ≡ answers_layer x (bound_of n)
  answers_at (Form-F.Leaf l) n = refl
  answers_at (Form-F.Case x) n = refl
  answers_at (Form-F.Var x) n = use_answering (place_of n) (bound_of n)
  answers_at (Form-F.Last x) n = refl
  answers_at (Form-F.Asked x) n = refl
  answers_at (Form-F.Op o args) n = refl
  answers_at (Form-F.Tuple args) n = refl
  answers_at (Form-F.Pre e) n = refl
  answers_at (Form-F.Fby x y) n = refl
  answers_at (Form-F.Init x y) n = refl
  answers_at (Form-F.When e x k) n = refl
  answers_at (Form-F.Merge x all) n = refl
  answers_at (Form-F.Call run x args None) n = head_answering (place_of n) (bound_of n) run args None
  answers_at (Form-F.Call run x args (Some e)) n = head_answering (place_of n) (bound_of n) run args (Some e)

  -- whether an expression is a call that answers a signal
  pub answers_is : (e : Expr Placed) → spec.answers_of case_type g e.form (bound_of e.note) ≡ (said e).answers_signal
  answers_is e = sym (ap (λ (r : Reading ℕ). r.answers_signal) (said_is e ∙ at_out e.form e.note) ∙ answers_at (out-Form Placed e.form) e.note)

  pub constructor_is : (k : ℕ) (x : Binder) → spec.constructor_demand k x ≡ spec.constructor_of case_type g k x
  constructor_is k (b.Case e j) = refl
  constructor_is k b.Nothing = refl
  constructor_is k (b.Def j) = refl
  constructor_is k (b.Param j) = refl
  constructor_is k (b.Var j) = refl

  pub last_is : (k : ℕ) (u : Option ℕ) → spec.last_demand k u ≡ spec.last_of case_type g k u
  last_is k None = refl
  last_is k (Some u) = refl

  -- the name of a parameter or a variable
  pub name_asked : (k : ℕ) (function signal : Bool) (u : Option ℕ) (w : Stand) → spec.named k signal u w ≡ asked w (ex.name_reading k function signal u)
  name_asked k function signal None w = sym (asked_same w k _)
  name_asked k function signal (Some u) stand.Stream = refl
  name_asked k function signal (Some u) stand.Bare = refl
  name_asked k function signal (Some u) stand.Whole = refl
  name_asked k function signal (Some u) stand.Body = refl

  variable_function : (k : ℕ) (signal : Bool) (u : Option ℕ) → (ex.name_reading k false signal u).is_function ≡ false
  variable_function k signal None = refl
  variable_function k signal (Some u) = refl

  application_function : (k : ℕ) (u : Option ℕ) (run : Bool) (args : List (Reading ℕ)) (every : Option (Reading ℕ)) → (ex.application k u run args every).is_function ≡ false
  application_function k None run args every = refl
  application_function k (Some u) run args every = refl

  use_functional : (k : ℕ) (x : Binder) → (spec.use_of case_type g k x).is_function ≡ spec.use_function case_type g x
  use_functional k (b.Def j) = call_function k (slice_get g.sigs.now j) false [] None
  use_functional k (b.Param j) = name_function k _ _ (scene.type_of case_type g (b.Param j))
  use_functional k (b.Var j) = variable_function k _ (scene.type_of case_type g (b.Var j))
  use_functional k b.Nothing = refl
  use_functional k (b.Case e j) = refl

  head_functional : (k : ℕ) (x : Binder) (run : Bool) (args : List (Expr Placed)) (every : Option (Expr Placed))
      → (spec.head_of case_type g k x run (spec.readings case_type g args) (spec.maybe case_type g every)).is_function ≡ spec.head_function case_type g x run (length args) (ex.none_of every)
  head_functional k (b.Def j) run args every = call_function k (slice_get g.sigs.now j) run args every
  head_functional k (b.Param j) run args every = application_function k (scene.type_of case_type g (b.Param j)) run _ _
  head_functional k (b.Var j) run args every = refl
  head_functional k b.Nothing run args every = refl
  head_functional k (b.Case e j) run args every = refl

  function_at : (x : Form-F Placed (Form Placed) (Expr Placed)) (n : Placed) → (step (below x) n).is_function ≡ function_layer x (bound_of n)
  function_at (Form-F.Leaf l) n = refl
  function_at (Form-F.Case x) n = refl
  function_at (Form-F.Var x) n = use_functional (place_of n) (bound_of n)
  function_at (Form-F.Last x) n = refl
  function_at (Form-F.Asked x) n = refl
  function_at (Form-F.Op o args) n = refl
  function_at (Form-F.Tuple args) n = refl
  function_at (Form-F.Pre e) n = refl
  function_at (Form-F.Fby x y) n = refl
  function_at (Form-F.Init x y) n = refl
  function_at (Form-F.When e x k) n = refl
  function_at (Form-F.Merge x all) n = refl
  function_at (Form-F.Call run x args None) n = head_functional (place_of n) (bound_of n) run args None
  function_at (Form-F.Call run x args (Some e)) n = head_functional (place_of n) (bound_of n) run args (Some e)

  -- whether an expression is a function as an argument of a parameter
  pub function_is : (e : Expr Placed) → spec.function_of case_type g e.form (bound_of e.note) ≡ (said e).is_function
  function_is e = sym (ap (λ (r : Reading ℕ). r.is_function) (said_is e ∙ at_out e.form e.note) ∙ function_at (out-Form Placed e.form) e.note)
