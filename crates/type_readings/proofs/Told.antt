-- What a form that is told asks, in the words of the code.
use Rattle.std.specs.Prelude.{◌≡◌, refl, ℕ, Bool, true, false, List, [], ◌∷◌, ◌++◌, length, slice_get, Option, Some, None, is_some}
use Rattle.std.proofs.Common.{ap, sym, ◌∙◌}
use Rattle.ls_ast.specs.declared.tree.Case.{Case}
use Rattle.ls_ast.specs.declared.tree.Expr.{Expr}
use Rattle.ls_ast.specs.declared.tree.Form.{Form}
use Rattle.ls_ast.specs.declared.tree.Form.TheVariants as form
use Rattle.ls_base.specs.declared.Name.{Name}
use Rattle.ls_ops.specs.declared.kinds.Op.{Op}
use Rattle.ls_sig.specs.declared.binder.Binder.{Binder}
use Rattle.ls_sig.specs.declared.binder.Binder.TheVariants as b
use Rattle.ls_sig.specs.declared.sigs.Sig.{Sig}
use Rattle.ls_terms.specs.declared.types.TypeTerm.{TypeTerm}
use Rattle.ls_terms.specs.declared.types.TypeTerm.TheVariants as t
use Rattle.ls_value.specs.declared.leaf.Leaf.{Leaf}
use Rattle.type_readings.specs.declared.expressions.CallKind.{CallKind}
use Rattle.type_readings.specs.declared.expressions.CallKind.TheVariants as call
use Rattle.type_readings.specs.declared.given.Given.{Given}
use Rattle.type_readings.specs.declared.stand.Stand.{Stand}
use Rattle.type_readings.specs.Given as scene
use Rattle.type_readings.specs.Readings as spec
use Rattle.type_readings.specs.Readings.{asked}
use Rattle.type_readings.proofs.Forms as forms
use Rattle.type_rules.specs.declared.demand.Demand.{Demand}
use Rattle.type_rules.specs.declared.demand.Demand.TheVariants.{Fits, Function, Never}
use Rattle.type_rules.specs.Expressions as ex
use Rattle.type_rules.specs.Expressions.{Reading, any}
use Rattle.type_rules.specs.Numbers.{Placed, bound_of, place_of}

module _ {C : Type 0} (case_type : C → ℕ → Option TypeTerm) (g : Given C) where
  abbrev said : Expr Placed → Reading ℕ
  said = scene.said case_type g

  abbrev Asks : Form Placed → Placed → Stand → List (Demand ℕ) → Type 0
  Asks f n w ds = asked w (scene.said_form case_type g f n) ≡ ds

  told : (f f' : Form Placed) (n : Placed) (w : Stand) (ds : List (Demand ℕ)) → f ≡ f' → Asks f' n w ds → Asks f n w ds
  told f f' n w ds is h = ap (λ z. asked w (scene.said_form case_type g z n)) is ∙ h

  pub leaf_told : (f : Form Placed) (l : Leaf) (n : Placed) (w : Stand) (ty : TypeTerm) → f ≡ form.Leaf l → ty ≡ ex.literal_type l → Asks f n w (Fits ((place_of n, ty) ∷ []) ∷ [])
  leaf_told f l n w ty is same = told f (form.Leaf l) n w _ is (forms.leaf_asks case_type g l n w ∙ ap (λ z. Fits ((place_of n, z) ∷ []) ∷ []) (sym same))

  pub case_told : (f : Form Placed) (x : Name) (n : Placed) (w : Stand) → f ≡ form.Case x → Asks f n w (spec.constructor_demand (place_of n) (bound_of n) ∷ [])
  case_told f x n w is = told f (form.Case x) n w _ is (forms.case_asks case_type g x n w ∙ ap (λ z. z ∷ []) (sym (forms.constructor_is case_type g (place_of n) (bound_of n))))

  pub var_told : (f : Form Placed) (x : Name) (n : Placed) (w : Stand) → f ≡ form.Var x → Asks f n w (asked w (spec.use_of case_type g (place_of n) (bound_of n)))
  var_told f x n w is = told f (form.Var x) n w _ is (forms.var_asks case_type g x n w)

  pub last_told : (f : Form Placed) (x : Name) (n : Placed) (w : Stand) (u : Option ℕ) → f ≡ form.Last x → u ≡ scene.type_of case_type g (bound_of n) → Asks f n w (spec.last_demand (place_of n) u ∷ [])
  last_told f x n w u is at = told f (form.Last x) n w _ is
      (forms.last_asks case_type g x n w ∙ ap (λ z. z ∷ []) (sym (forms.last_is case_type g (place_of n) (scene.type_of case_type g (bound_of n)))) ∙ ap (λ z. spec.last_demand (place_of n) z ∷ []) (sym at))

  pub asked_told : (f : Form Placed) (x : Name) (n : Placed) (w : Stand) (u : Option ℕ) → f ≡ form.Asked x → u ≡ scene.type_of case_type g (bound_of n) → Asks f n w (ex.asked (place_of n) u)
  asked_told f x n w u is at = told f (form.Asked x) n w _ is (forms.asked_asks case_type g x n w ∙ ap (ex.asked (place_of n)) (sym at))

  pub pre_told : (f : Form Placed) (e : Expr Placed) (n : Placed) (w : Stand) → f ≡ form.Pre e → Asks f n w ((Fits ((place_of n, any) ∷ (place_of e.note, any) ∷ []) ∷ []) ++ (said e).stream)
  pre_told f e n w is = told f (form.Pre e) n w _ is (forms.pre_asks case_type g e n w)

  abbrev both : Placed → Expr Placed → Expr Placed → List (Demand ℕ)
  both n x y = (Fits ((place_of n, any) ∷ (place_of x.note, any) ∷ (place_of y.note, any) ∷ []) ∷ []) ++ ((said x).stream ++ (said y).stream)

  pub fby_told : (f : Form Placed) (x y : Expr Placed) (n : Placed) (w : Stand) → f ≡ form.Fby x y → Asks f n w (both n x y)
  fby_told f x y n w is = told f (form.Fby x y) n w _ is (forms.fby_asks case_type g x y n w)

  pub init_told : (f : Form Placed) (x y : Expr Placed) (n : Placed) (w : Stand) → f ≡ form.Init x y → Asks f n w (both n x y)
  init_told f x y n w is = told f (form.Init x y) n w _ is (forms.init_asks case_type g x y n w)

  pub when_told : (f : Form Placed) (e : Expr Placed) (x : Name) (k : Case) (n : Placed) (w : Stand) (u : Option ℕ) (c : Option TypeTerm) → f ≡ form.When e x k → u ≡ scene.type_of case_type g (bound_of n)
      → c ≡ scene.type_of_case case_type g k → Asks f n w ((ex.condition u c ((place_of n, any) ∷ (place_of e.note, any) ∷ []) ∷ []) ++ (said e).stream)
  when_told f e x k n w u c is at of = told f (form.When e x k) n w _ is
      (forms.when_asks case_type g e x k n w ∙ (λ i. ex.condition (sym at i) (sym of i) ((place_of n, any) ∷ (place_of e.note, any) ∷ []) ∷ (said e).stream))

  pub merge_told : (f : Form Placed) (x : Name) (all slice again : List (Case × Expr Placed)) (n : Placed) (w : Stand) (u : Option ℕ) → f ≡ form.Merge x all → slice ≡ all → again ≡ all → u ≡ scene.type_of case_type g (bound_of n)
      → Asks f n w ((Fits ((place_of n, any) ∷ spec.branch_fits slice) ∷ []) ++ spec.branches case_type g u (spec.choices case_type g again))
  merge_told f x all slice again n w u is same also at = told f (form.Merge x all) n w _ is
      (forms.merge_asks case_type g x all n w ∙ (λ i. Fits ((place_of n, any) ∷ spec.branch_fits (sym same i)) ∷ spec.branches case_type g (sym at i) (spec.choices case_type g (sym also i))))

  pub tuple_told : (f : Form Placed) (all slice : List (Expr Placed)) (n : Placed) (w : Stand) → f ≡ form.Tuple all → slice ≡ all
      → Asks f n w ((Fits ((place_of n, t.Tuple (ex.vars_from 0 (length all))) ∷ spec.zipped all (ex.vars_from 0 (length all))) ∷ []) ++ ex.streams (spec.readings case_type g slice))
  tuple_told f all slice n w is same = told f (form.Tuple all) n w _ is
      (forms.tuple_asks case_type g all n w ∙ (λ i. Fits ((place_of n, t.Tuple (ex.vars_from 0 (length all))) ∷ spec.zipped all (ex.vars_from 0 (length all))) ∷ ex.streams (spec.readings case_type g (sym same i))))

  op_told : (f : Form Placed) (o : Op) (args slice again : List (Expr Placed)) (c : Bool) (n : Placed) (w : Stand) → f ≡ form.Op o args → slice ≡ args → again ≡ args → spec.operands_agree o (length slice) ≡ c
      → Asks f n w (spec.operator_fits (place_of n) o slice ++ forms.operands case_type g c again)
  op_told f o args slice again c n w is same also agree = told f (form.Op o args) n w _ is
      (forms.op_asks case_type g o args n w
      ∙ (λ i. spec.operator_fits (place_of n) o (sym same i) ++ forms.operands case_type g (spec.operands_agree o (length (sym same i))) (sym also i))
      ∙ ap (λ z. spec.operator_fits (place_of n) o slice ++ forms.operands case_type g z again) agree)

  -- all operands are there
  pub op_whole : (f : Form Placed) (o : Op) (args slice again : List (Expr Placed)) (n : Placed) (w : Stand) → f ≡ form.Op o args → slice ≡ args → again ≡ args → spec.operands_agree o (length slice) ≡ true
      → Asks f n w (spec.operator_fits (place_of n) o slice ++ ex.streams (spec.readings case_type g again))
  op_whole f o args slice again n w is same also agree = op_told f o args slice again true n w is same also agree

  nothing : (ds : List (Demand ℕ)) → ds ++ [] ≡ ds
  nothing [] = refl
  nothing (d ∷ ds) = ap (λ z. d ∷ z) (nothing ds)

  -- they are not
  pub op_lacks : (f : Form Placed) (o : Op) (args slice : List (Expr Placed)) (n : Placed) (w : Stand) → f ≡ form.Op o args → slice ≡ args → spec.operands_agree o (length slice) ≡ false
      → Asks f n w (spec.operator_fits (place_of n) o slice)
  op_lacks f o args slice n w is same agree = op_told f o args slice args false n w is same refl agree ∙ nothing (spec.operator_fits (place_of n) o slice)

  call_told : (f : Form Placed) (run : Bool) (x : Name) (args slice : List (Expr Placed)) (every : Option (Expr Placed)) (n : Placed) (w : Stand) (k : ℕ) (sig : Option Sig)
      → f ≡ form.Call run x args every → bound_of n ≡ b.Def k → slice ≡ args → sig ≡ slice_get g.sigs.now k
      → Asks f n w (forms.call_asks case_type g (place_of n) sig run slice every w)
  call_told f run x args slice every n w k sig is bound same of =
      forms.head_asked case_type g f x run args every n w is
      ∙ (λ i. asked w (spec.head_of case_type g (place_of n) (bound i) run (spec.readings case_type g args) (spec.maybe case_type g every)))
      ∙ (λ i. asked w (ex.call_of (place_of n) (sym of i) run (spec.readings case_type g (sym same i)) (spec.maybe case_type g every)))
      ∙ forms.call_asked case_type g (place_of n) sig run slice every w

  grouped : (xs ys zs : List (Demand ℕ)) → xs ++ (ys ++ zs) ≡ (xs ++ ys) ++ zs
  grouped [] ys zs = refl
  grouped (x ∷ xs) ys zs = ap (λ z. x ∷ z) (grouped xs ys zs)

  -- a call that has all arguments
  pub whole_told : (f : Form Placed) (run : Bool) (x : Name) (args slice : List (Expr Placed)) (every : Option (Expr Placed)) (n : Placed) (w : Stand) (k : ℕ) (sig : Option Sig) (alone : Bool)
      → f ≡ form.Call run x args every → bound_of n ≡ b.Def k → slice ≡ args → sig ≡ slice_get g.sigs.now k → alone ≡ ex.none_of every
      → spec.is_whole_call (spec.opened_kind sig run (length slice) alone w) ≡ true
      → Asks f n w (spec.begun case_type g (place_of n) sig slice (spec.opened_kind sig run (length slice) alone w) ++ (ex.restarts (spec.maybe case_type g every) ++ spec.closed (place_of n) sig w))
  whole_told f run x args slice every n w k sig alone is bound same of one whole =
      call_told f run x args slice every n w k sig is bound same of
      ∙ (λ i. let kind = spec.opened_kind sig run (length slice) (sym one i) w in spec.opening (place_of n) sig slice kind ++ (spec.arguments case_type g kind sig slice ++ forms.ending case_type g kind (place_of n) sig every w))
      ∙ go (spec.opened_kind sig run (length slice) alone w) whole
    where
      go : (kind : CallKind) → spec.is_whole_call kind ≡ true
          → spec.opening (place_of n) sig slice kind ++ (spec.arguments case_type g kind sig slice ++ forms.ending case_type g kind (place_of n) sig every w)
          ≡ spec.begun case_type g (place_of n) sig slice kind ++ (ex.restarts (spec.maybe case_type g every) ++ spec.closed (place_of n) sig w)
      go call.Whole e = grouped (spec.opening (place_of n) sig slice call.Whole) (spec.arguments case_type g call.Whole sig slice) (ex.restarts (spec.maybe case_type g every) ++ spec.closed (place_of n) sig w)
      go call.Partial e = absurd (cc)
      go call.Never e = absurd (cc)

  -- one that has not
  pub rest_told : (f : Form Placed) (run : Bool) (x : Name) (args slice : List (Expr Placed)) (every : Option (Expr Placed)) (n : Placed) (w : Stand) (k : ℕ) (sig : Option Sig) (alone : Bool)
      → f ≡ form.Call run x args every → bound_of n ≡ b.Def k → slice ≡ args → sig ≡ slice_get g.sigs.now k → alone ≡ ex.none_of every
      → spec.is_whole_call (spec.opened_kind sig run (length slice) alone w) ≡ false
      → Asks f n w (spec.begun case_type g (place_of n) sig slice (spec.opened_kind sig run (length slice) alone w))
  rest_told f run x args slice every n w k sig alone is bound same of one other =
      call_told f run x args slice every n w k sig is bound same of
      ∙ (λ i. let kind = spec.opened_kind sig run (length slice) (sym one i) w in spec.opening (place_of n) sig slice kind ++ (spec.arguments case_type g kind sig slice ++ forms.ending case_type g kind (place_of n) sig every w))
      ∙ go (spec.opened_kind sig run (length slice) alone w) other
    where
      go : (kind : CallKind) → spec.is_whole_call kind ≡ false
          → spec.opening (place_of n) sig slice kind ++ (spec.arguments case_type g kind sig slice ++ forms.ending case_type g kind (place_of n) sig every w) ≡ spec.begun case_type g (place_of n) sig slice kind
      go call.Whole e = absurd (cc)
      go call.Partial e = ap (λ z. spec.opening (place_of n) sig slice call.Partial ++ z) (nothing (spec.arguments case_type g call.Partial sig slice))
      go call.Never e = ap (λ z. spec.opening (place_of n) sig slice call.Never ++ z) (nothing (spec.arguments case_type g call.Never sig slice))

  applied_told : (f : Form Placed) (run : Bool) (x : Name) (args slice : List (Expr Placed)) (every : Option (Expr Placed)) (n : Placed) (w : Stand) (k : ℕ) (u : Option ℕ)
      → f ≡ form.Call run x args every → bound_of n ≡ b.Param k → slice ≡ args → u ≡ scene.type_of case_type g (bound_of n)
      → Asks f n w (ex.application (place_of n) u run (spec.readings case_type g slice) (spec.maybe case_type g every)).stream
  applied_told f run x args slice every n w k u is bound same of =
      forms.head_asked case_type g f x run args every n w is
      ∙ (λ i. asked w (spec.head_of case_type g (place_of n) (bound i) run (spec.readings case_type g args) (spec.maybe case_type g every)))
      ∙ (λ i. asked w (ex.application (place_of n) (sym (of ∙ ap (scene.type_of case_type g) bound) i) run (spec.readings case_type g (sym same i)) (spec.maybe case_type g every)))
      ∙ forms.application_asked case_type g (place_of n) u run (spec.readings case_type g slice) (spec.maybe case_type g every) w

  -- a parameter that has a type
  pub application_told : (f : Form Placed) (run : Bool) (x : Name) (args slice : List (Expr Placed)) (every : Option (Expr Placed)) (n : Placed) (w : Stand) (k : ℕ) (u : Option ℕ)
      → f ≡ form.Call run x args every → bound_of n ≡ b.Param k → slice ≡ args → u ≡ scene.type_of case_type g (bound_of n) → is_some u ≡ true
      → Asks f n w (spec.applying case_type g (place_of n) u run slice ++ ex.restarts (spec.maybe case_type g every))
  application_told f run x args slice every n w k u is bound same of there = applied_told f run x args slice every n w k u is bound same of ∙ go u there
    where
      go : (v : Option ℕ) → is_some v ≡ true → (ex.application (place_of n) v run (spec.readings case_type g slice) (spec.maybe case_type g every)).stream ≡ spec.applying case_type g (place_of n) v run slice ++ ex.restarts (spec.maybe case_type g every)
      go None e = absurd (cc)
      go (Some v) e = ap (λ z. Function v (ex.kind_of run) z (place_of n) ∷ Fits ((place_of n, any) ∷ []) ∷ ex.applied (spec.readings case_type g slice) ++ ex.restarts (spec.maybe case_type g every)) (sym (forms.types_are case_type g slice))

  -- one that has none
  pub unknown_told : (f : Form Placed) (run : Bool) (x : Name) (args slice : List (Expr Placed)) (every : Option (Expr Placed)) (n : Placed) (w : Stand) (k : ℕ) (u : Option ℕ)
      → f ≡ form.Call run x args every → bound_of n ≡ b.Param k → slice ≡ args → u ≡ scene.type_of case_type g (bound_of n) → is_some u ≡ false
      → Asks f n w (spec.applying case_type g (place_of n) u run slice)
  unknown_told f run x args slice every n w k u is bound same of there = applied_told f run x args slice every n w k u is bound same of ∙ go u there
    where
      go : (v : Option ℕ) → is_some v ≡ false → (ex.application (place_of n) v run (spec.readings case_type g slice) (spec.maybe case_type g every)).stream ≡ spec.applying case_type g (place_of n) v run slice
      go None e = refl
      go (Some v) e = absurd (cc)

  pub no_head : (f : Form Placed) (run : Bool) (x : Name) (args : List (Expr Placed)) (every : Option (Expr Placed)) (n : Placed) (w : Stand) (bound : Binder) → f ≡ form.Call run x args every → bound_of n ≡ bound
      → spec.head_of case_type g (place_of n) bound run (spec.readings case_type g args) (spec.maybe case_type g every) ≡ ex.reading (place_of n) (Never ∷ []) → Asks f n w (Never ∷ [])
  no_head f run x args every n w bound is at same =
      forms.head_asked case_type g f x run args every n w is
      ∙ (λ i. asked w (spec.head_of case_type g (place_of n) (at i) run (spec.readings case_type g args) (spec.maybe case_type g every)))
      ∙ ap (asked w) same ∙ forms.asked_same w (place_of n) (Never ∷ [])
