-- What expressions ask goes along with a change of what stands for types.
use Rattle.std.specs.Prelude.{◌≡◌, refl, ℕ, suc, ◌==◌, ◌&&◌, not, Bool, true, false, List, [], ◌∷◌, ◌++◌, map, length, slice_get, Option, Some, None, if◌then◌else◌, nat_lt}
use Rattle.std.proofs.Common.{ap, ap₂, sym, ◌∙◌}
use Rattle.ls_ast.specs.declared.tree.Case.{Case}
use Rattle.ls_ast.specs.declared.tree.Mark.{Mark}
use Rattle.ls_ast.specs.declared.tree.Expr.{Expr}
use Rattle.ls_ast.specs.declared.tree.Form.TheOpen.{Form-F}
use Rattle.ls_ops.specs.Signature.{signature_of}
use Rattle.ls_ops.specs.declared.kinds.Op.{Op}
use Rattle.ls_terms.specs.declared.types.Kind.TheVariants.{Comb}
use Rattle.ls_terms.specs.declared.types.TypeTerm.{TypeTerm}
use Rattle.ls_terms.specs.declared.types.TypeTerm.TheVariants as t
use Rattle.ls_sig.specs.Notes.{is_signal}
use Rattle.ls_sig.specs.declared.binder.Binder.{Binder}
use Rattle.ls_sig.specs.declared.binder.Binder.TheVariants as b
use Rattle.ls_sig.specs.declared.sigs.Sig.{Sig}
use Rattle.type_rules.specs.declared.demand.Demand.{Demand}
use Rattle.type_rules.specs.declared.demand.Demand.TheVariants.{Fits, Equal, Function, Never}
use Rattle.type_rules.specs.Demands.{map_fits, map_demand, map_demands}
use Rattle.type_rules.specs.Expressions as ex
use Rattle.type_rules.specs.Expressions.{any, Reading, reading, streams, types_of, zip_fits, given, applied, restarts, is_bare, is_passed, rest_of, called, partial, call_of, application, name_reading, condition, asked, kind_of, same_kind, none_of, operand_types, result_type, vars_from}
use Rattle.tree_notes.proofs.Refold.{noted, lefts, rights, related}

abbrev pub map_option : {X Y : Type 0} → (X → Y) → Option X → Option Y
map_option f None = None
map_option f (Some x) = Some (f x)

abbrev pub map_reading : {X Y : Type 0} → (X → Y) → Reading X → Reading Y
map_reading f r = record {
  ty = f r.ty;
  stream = map_demands f r.stream;
  bare = map_demands f r.bare;
  whole = map_demands f r.whole;
  body = map_demands f r.body;
  answers_signal = r.answers_signal;
  is_function = r.is_function;
}

pub if_same : {A B : Type 0} (h : A → B) (c : Bool) (x y : A) → h (if c then x else y) ≡ (if c then h x else h y)
if_same h true x y = refl
if_same h false x y = refl

pub if_both : {A : Type 0} (c : Bool) (x x' y y' : A) → x ≡ x' → y ≡ y' → (if c then x else y) ≡ (if c then x' else y')
if_both c x x' y y' p q = ap₂ (λ u v. if c then u else v) p q

module _ {X Y : Type 0} (f : X → Y) where
  pub demands_append : (ds es : List (Demand X)) → map_demands f (ds ++ es) ≡ map_demands f ds ++ map_demands f es
  demands_append [] es = refl
  demands_append (d ∷ ds) es = ap (λ zs. map_demand f d ∷ zs) (demands_append ds es)

  abbrev pub mapped : List (Reading X) → List (Reading Y)
  mapped [] = []
  mapped (e ∷ es) = map_reading f e ∷ mapped es

  length_mapped : (es : List (Reading X)) → length (mapped es) ≡ length es
  length_mapped [] = refl
  length_mapped (e ∷ es) = ap suc (length_mapped es)

  streams_nat : (es : List (Reading X)) → streams (mapped es) ≡ map_demands f (streams es)
  streams_nat [] = refl
  streams_nat (e ∷ es) = ap (λ zs. map_demands f e.stream ++ zs) (streams_nat es) ∙ sym (demands_append e.stream (streams es))

  types_nat : (es : List (Reading X)) → types_of (mapped es) ≡ map f (types_of es)
  types_nat [] = refl
  types_nat (e ∷ es) = ap (λ zs. f e.ty ∷ zs) (types_nat es)

  zip_nat : (es : List (Reading X)) (ts : List TypeTerm) → zip_fits (mapped es) ts ≡ map_fits f (zip_fits es ts)
  zip_nat [] ts = refl
  zip_nat (e ∷ es) [] = refl
  zip_nat (e ∷ es) (s ∷ ss) = ap (λ zs. (f e.ty, s) ∷ zs) (zip_nat es ss)

  given_nat : (ms : List Mark) (es : List (Reading X)) → given ms (mapped es) ≡ map_demands f (given ms es)
  given_nat ms [] = refl
  given_nat [] (e ∷ es) = ap (λ zs. map_demands f e.stream ++ zs) (given_nat [] es) ∙ sym (demands_append e.stream (given [] es))
  given_nat (m ∷ ms) (e ∷ es) =
      ap₂ (λ ys zs. ys ++ zs) (sym (if_same (map_demands f) (is_bare m) e.bare e.stream)) (given_nat ms es)
      ∙ sym (demands_append (if is_bare m then e.bare else e.stream) (given ms es))

  applied_nat : (es : List (Reading X)) → applied (mapped es) ≡ map_demands f (applied es)
  applied_nat [] = refl
  applied_nat (e ∷ es) =
      ap₂ (λ ys zs. ys ++ zs) (sym (if_same (map_demands f) e.is_function e.bare e.stream)) (applied_nat es)
      ∙ sym (demands_append (if e.is_function then e.bare else e.stream) (applied es))

  restarts_nat : (every : Option (Reading X)) → restarts (map_option (map_reading f) every) ≡ map_demands f (restarts every)
  restarts_nat None = refl
  restarts_nat (Some e) = refl

  none_nat : (every : Option (Reading X)) → none_of (map_option (map_reading f) every) ≡ none_of every
  none_nat None = refl
  none_nat (Some e) = refl

  abbrev call_demands : {Z : Type 0} → Z → Sig → List (Reading Z) → Option (Reading Z) → List (Demand Z)
  call_demands ty sig args every = Fits ((ty, sig.result) ∷ zip_fits args sig.params) ∷ given sig.marks args ++ restarts every

  call_demands_nat : (ty : X) (sig : Sig) (args : List (Reading X)) (every : Option (Reading X))
      → call_demands (f ty) sig (mapped args) (map_option (map_reading f) every) ≡ map_demands f (call_demands ty sig args every)
  call_demands_nat ty sig args every =
      ap₂ (λ zs ys. Fits ((f ty, sig.result) ∷ zs) ∷ ys) (zip_nat args sig.params)
      (ap₂ (λ us vs. us ++ vs) (given_nat sig.marks args) (restarts_nat every) ∙ sym (demands_append (given sig.marks args) (restarts every)))

  abbrev built_call : {Z : Type 0} → Z → Sig → List (Demand Z) → Reading Z
  built_call ty sig ds = record {
    ty = ty;
    stream = ds ++ Fits ((ty, any) ∷ []) ∷ [];
    bare = ds ++ Fits ((ty, any) ∷ []) ∷ [];
    whole = if is_signal sig.result then ds else ds ++ Fits ((ty, any) ∷ []) ∷ [];
    body = if is_signal sig.result then ds else ds ++ Fits ((ty, any) ∷ []) ∷ [];
    answers_signal = is_signal sig.result;
    is_function = false;
  }

  built_nat : (ty : X) (sig : Sig) (ds : List (Demand X)) → built_call (f ty) sig (map_demands f ds) ≡ map_reading f (built_call ty sig ds)
  built_nat ty sig ds =
      let p = sym (demands_append ds (Fits ((ty, any) ∷ []) ∷ [])) in
      let q = ap (λ z. if is_signal sig.result then map_demands f ds else z) p ∙ sym (if_same (map_demands f) (is_signal sig.result) ds (ds ++ Fits ((ty, any) ∷ []) ∷ [])) in
      λ i. record { ty = f ty; stream = p i; bare = p i; whole = q i; body = q i; answers_signal = is_signal sig.result; is_function = false }

  called_nat : (ty : X) (sig : Sig) (args : List (Reading X)) (every : Option (Reading X))
      → called (f ty) sig (mapped args) (map_option (map_reading f) every) ≡ map_reading f (called ty sig args every)
  called_nat ty sig args every = ap (built_call (f ty) sig) (call_demands_nat ty sig args every) ∙ built_nat ty sig (call_demands ty sig args every)

  abbrev bare_only : {Z : Type 0} → Z → List (Demand Z) → Reading Z
  bare_only ty ds = record (reading ty (Never ∷ [])) { bare = ds; is_function = true }

  abbrev partial_demands : {Z : Type 0} → Z → Sig → ℕ → List (Reading Z) → List (Demand Z)
  partial_demands ty sig n args = if is_passed sig n then Fits ((ty, rest_of sig n) ∷ zip_fits args sig.params) ∷ given sig.marks args else Never ∷ []

  partial_nat : (ty : X) (sig : Sig) (args : List (Reading X)) → partial (f ty) sig (mapped args) ≡ map_reading f (partial ty sig args)
  partial_nat ty sig args = ap (bare_only (f ty))
      (ap (λ n. partial_demands (f ty) sig n (mapped args)) (length_mapped args)
      ∙ ap₂ (λ zs ys. if is_passed sig (length args) then Fits ((f ty, rest_of sig (length args)) ∷ zs) ∷ ys else Never ∷ []) (zip_nat args sig.params) (given_nat sig.marks args)
      ∙ sym (if_same (map_demands f) (is_passed sig (length args)) (Fits ((ty, rest_of sig (length args)) ∷ zip_fits args sig.params) ∷ given sig.marks args) (Never ∷ [])))

  abbrev wrong : {Z : Type 0} → Z → Reading Z
  wrong ty = reading ty (Never ∷ [])

  pub call_nat : (ty : X) (sig : Option Sig) (run : Bool) (args : List (Reading X)) (every : Option (Reading X))
      → call_of (f ty) sig run (mapped args) (map_option (map_reading f) every) ≡ map_reading f (call_of ty sig run args every)
  call_nat ty None run args every = refl
  call_nat ty (Some sig) run args every =
      if_both (run && same_kind sig.kind Comb) _ _ _ _ refl
      ((λ i. if length_mapped args i == length sig.params then called_nat ty sig args every i
      else (if nat_lt (length_mapped args i) (length sig.params) && (not run && none_nat every i) then partial_nat ty sig args i else wrong (f ty)))
      ∙ if_both (length args == length sig.params) _ _ _ _ refl
      (sym (if_same (map_reading f) (nat_lt (length args) (length sig.params) && (not run && none_of every)) (partial ty sig args) (wrong ty)))
      ∙ sym (if_same (map_reading f) (length args == length sig.params) (called ty sig args every)
      (if nat_lt (length args) (length sig.params) && (not run && none_of every) then partial ty sig args else wrong ty)))
      ∙ sym (if_same (map_reading f) (run && same_kind sig.kind Comb) (wrong ty)
      (if length args == length sig.params then called ty sig args every
      else (if nat_lt (length args) (length sig.params) && (not run && none_of every) then partial ty sig args else wrong ty)))

  pub application_nat : (ty : X) (u : Option X) (run : Bool) (args : List (Reading X)) (every : Option (Reading X))
      → application (f ty) (map_option f u) run (mapped args) (map_option (map_reading f) every) ≡ map_reading f (application ty u run args every)
  application_nat ty None run args every = refl
  application_nat ty (Some u) run args every = ap (reading (f ty))
      (ap₂ (λ ts zs. Function (f u) (kind_of run) ts (f ty) ∷ Fits ((f ty, any) ∷ []) ∷ zs) (types_nat args)
      (ap₂ (λ us vs. us ++ vs) (applied_nat args) (restarts_nat every) ∙ sym (demands_append (applied args) (restarts every))))

  pub name_nat : (ty : X) (function signal : Bool) (u : Option X) → name_reading (f ty) function signal (map_option f u) ≡ map_reading f (name_reading ty function signal u)
  name_nat ty function signal None = refl
  name_nat ty function signal (Some u) =
      let ds : List (Demand Y) = Fits ((f ty, any) ∷ (f u, any) ∷ []) ∷ [] in
      let q = sym (if_same (map_demands f) signal (Equal ty u ∷ []) (Fits ((ty, any) ∷ (u, any) ∷ []) ∷ [])) in
      λ i. record { ty = f ty; stream = ds; bare = Equal (f ty) (f u) ∷ []; whole = ds; body = q i; answers_signal = false; is_function = function }

  pub condition_nat : (u : Option X) (s : Option TypeTerm) (fs : List (X × TypeTerm)) → condition (map_option f u) s (map_fits f fs) ≡ map_demand f (condition u s fs)
  condition_nat None None fs = refl
  condition_nat None (Some s) fs = refl
  condition_nat (Some u) None fs = refl
  condition_nat (Some u) (Some s) fs = refl

  pub asked_nat : (ty : X) (u : Option X) → asked (f ty) (map_option f u) ≡ map_demands f (asked ty u)
  asked_nat ty None = refl
  asked_nat ty (Some u) = refl

  abbrev pub operation : {Z : Type 0} → Z → Op → List (Reading Z) → Reading Z
  operation ty op args =
      reading ty (if length args == length (operand_types (signature_of op))
      then Fits ((ty, result_type (signature_of op)) ∷ zip_fits args (operand_types (signature_of op))) ∷ streams args
      else Never ∷ [])

  pub operation_nat : (ty : X) (op : Op) (args : List (Reading X)) → operation (f ty) op (mapped args) ≡ map_reading f (operation ty op args)
  operation_nat ty op args = ap (reading (f ty))
      ((λ i. if length_mapped args i == length (operand_types (signature_of op))
      then Fits ((f ty, result_type (signature_of op)) ∷ zip_nat args (operand_types (signature_of op)) i) ∷ streams_nat args i else Never ∷ [])
      ∙ sym (if_same (map_demands f) (length args == length (operand_types (signature_of op)))
      (Fits ((ty, result_type (signature_of op)) ∷ zip_fits args (operand_types (signature_of op))) ∷ streams args) (Never ∷ [])))

  abbrev pub tupled : {Z : Type 0} → Z → List (Reading Z) → Reading Z
  tupled ty args = reading ty (Fits ((ty, t.Tuple (vars_from 0 (length args))) ∷ zip_fits args (vars_from 0 (length args))) ∷ streams args)

  pub tupled_nat : (ty : X) (args : List (Reading X)) → tupled (f ty) (mapped args) ≡ map_reading f (tupled ty args)
  tupled_nat ty args = ap (reading (f ty))
      (ap (λ n. Fits ((f ty, t.Tuple (vars_from 0 n)) ∷ zip_fits (mapped args) (vars_from 0 n)) ∷ streams (mapped args)) (length_mapped args)
      ∙ ap₂ (λ zs ys. Fits ((f ty, t.Tuple (vars_from 0 (length args))) ∷ zs) ∷ ys) (zip_nat args (vars_from 0 (length args))) (streams_nat args))

-- ---- the fold

module _ {N M X Y : Type 0} (f : X → Y) (g : N → M) (bound : M → Binder) (ty : N → X) (ty' : M → Y) (same : (n : N) → ty' (g n) ≡ f (ty n))
    (sigs : List Sig) (case_type : ℕ → Option TypeTerm) (marks : ℕ → Mark) (signals : ℕ → Bool) (type_of : Binder → Option X) where
  abbrev type_of' : Binder → Option Y
  type_of' x = map_option f (type_of x)

  abbrev bound' : N → Binder
  bound' n = bound (g n)

  abbrev R : (M → Reading Y) → (N → Reading X) → Type 0
  R a c = (n : N) → a (g n) ≡ map_reading f (c n)

  abbrev R' : Reading Y → Reading X → Type 0
  R' a c = a ≡ map_reading f c

  abbrev s : Form-F M (M → Reading Y) (Reading Y) → M → Reading Y
  s = ex.form_step bound ty' sigs case_type marks signals type_of'

  abbrev s' : Form-F N (N → Reading X) (Reading X) → N → Reading X
  s' = ex.form_step bound' ty sigs case_type marks signals type_of

  abbrev Pair : Type 0
  Pair = (a : Reading Y) × (c : Reading X) × (a ≡ map_reading f c)

  abbrev PairF : Type 0
  PairF = (a : M → Reading Y) × (c : N → Reading X) × R a c

  same_args : (ps : List Pair) → map (λ p. p.0) ps ≡ mapped f (map (λ p. p.1) ps)
  same_args [] = refl
  same_args (p ∷ ps) = ap₂ (λ e es. e ∷ es) p.2 (same_args ps)

  use_nat : (x : X) (k : Binder) → ex.use_of bound ty' sigs case_type marks signals type_of' (f x) k ≡ map_reading f (ex.use_of bound' ty sigs case_type marks signals type_of x k)
  use_nat x (b.Def k) = call_nat f x (slice_get sigs k) false [] None
  use_nat x (b.Param k) = name_nat f x _ _ (type_of (b.Param k))
  use_nat x (b.Var k) = name_nat f x false (signals k) (type_of (b.Var k))
  use_nat x _ = refl

  head_nat : (x : X) (k : Binder) (run : Bool) (args : List (Reading X)) (every : Option (Reading X))
      → ex.head_of bound ty' sigs case_type marks signals type_of' (f x) k run (mapped f args) (map_option (map_reading f) every)
      ≡ map_reading f (ex.head_of bound' ty sigs case_type marks signals type_of x k run args every)
  head_nat x (b.Def k) run args every = call_nat f x (slice_get sigs k) run args every
  head_nat x (b.Param k) run args every = application_nat f x (type_of (b.Param k)) run args every
  head_nat x _ run args every = refl

  constructor_nat : (x : X) (k : Binder) → ex.constructor_of bound ty' sigs case_type marks signals type_of' (f x) k ≡ map_demand f (ex.constructor_of bound' ty sigs case_type marks signals type_of x k)
  constructor_nat x (b.Case e k) = refl
  constructor_nat x _ = refl

  last_nat : (x : X) (u : Option X) → ex.last_of bound ty' sigs case_type marks signals type_of' (f x) (map_option f u) ≡ map_demand f (ex.last_of bound' ty sigs case_type marks signals type_of x u)
  last_nat x None = refl
  last_nat x (Some u) = refl

  abbrev in_case : (Case × Pair) → Case × Reading Y
  in_case c = (c.0, c.1.0)

  abbrev in_case' : (Case × Pair) → Case × Reading X
  in_case' c = (c.0, c.1.1)

  branches_nat : (u : Option X) (cs : List (Case × Pair))
      → ex.branches bound ty' sigs case_type marks signals type_of' (map_option f u) (map in_case cs)
      ≡ map_demands f (ex.branches bound' ty sigs case_type marks signals type_of u (map in_case' cs))
  branches_nat u [] = refl
  branches_nat u (c ∷ cs) =
      ap₂ (λ d ds. d ∷ ds) (condition_nat f u (ex.type_of_case bound' ty sigs case_type marks signals type_of c.0) [])
      (ap₂ (λ ds es. ds ++ es) (ap (λ (r : Reading Y). r.stream) c.1.2) (branches_nat u cs) ∙ sym (demands_append f c.1.1.stream _))

  branch_types_nat : (cs : List (Case × Pair))
      → ex.branch_types bound ty' sigs case_type marks signals type_of' (map in_case cs) ≡ map_fits f (ex.branch_types bound' ty sigs case_type marks signals type_of (map in_case' cs))
  branch_types_nat [] = refl
  branch_types_nat (c ∷ cs) = ap₂ (λ u us. (u, any) ∷ us) (ap (λ (r : Reading Y). r.ty) c.1.2) (branch_types_nat cs)

  layer : (y : Form-F N PairF Pair) → R (s (lefts g s (λ e. e.form e.note) s' (λ e. e.form e.note) R R' y)) (s' (rights g s (λ e. e.form e.note) s' (λ e. e.form e.note) R R' y))
  layer (Form-F.Leaf l) n = ap (λ u. reading u (Fits ((u, ex.literal_type l) ∷ []) ∷ [])) (same n)
  layer (Form-F.Case c) n = ap (λ u. reading u (ex.constructor_of bound ty' sigs case_type marks signals type_of' u (bound (g n)) ∷ [])) (same n)
      ∙ ap (λ d. reading (f (ty n)) (d ∷ [])) (constructor_nat (ty n) (bound (g n)))
  layer (Form-F.Var x) n = ap (λ u. ex.use_of bound ty' sigs case_type marks signals type_of' u (bound (g n))) (same n) ∙ use_nat (ty n) (bound (g n))
  layer (Form-F.Last x) n = ap (λ u. reading u (ex.last_of bound ty' sigs case_type marks signals type_of' u (type_of' (bound (g n))) ∷ [])) (same n)
      ∙ ap (λ d. reading (f (ty n)) (d ∷ [])) (last_nat (ty n) (type_of (bound (g n))))
  layer (Form-F.Asked x) n = ap (λ u. reading u (asked u (type_of' (bound (g n))))) (same n) ∙ ap (reading (f (ty n))) (asked_nat f (ty n) (type_of (bound (g n))))
  layer (Form-F.Op op args) n = ap₂ (λ u es. operation f u op es) (same n) (same_args args) ∙ operation_nat f (ty n) op (map (λ p. p.1) args)
  layer (Form-F.Tuple args) n = ap₂ (λ u es. tupled f u es) (same n) (same_args args) ∙ tupled_nat f (ty n) (map (λ p. p.1) args)
  layer (Form-F.Pre e) n = ap₂ (λ u (r : Reading Y). reading u (Fits ((u, any) ∷ (r.ty, any) ∷ []) ∷ r.stream)) (same n) e.2
  layer (Form-F.Fby a c) n =
      (λ i. reading (same n i) (Fits ((same n i, any) ∷ ((a.2 i).ty, any) ∷ ((c.2 i).ty, any) ∷ []) ∷ (a.2 i).stream ++ (c.2 i).stream))
      ∙ ap (λ ds. reading (f (ty n)) (Fits ((f (ty n), any) ∷ (f a.1.ty, any) ∷ (f c.1.ty, any) ∷ []) ∷ ds)) (sym (demands_append f a.1.stream c.1.stream))
  layer (Form-F.Init a c) n =
      (λ i. reading (same n i) (Fits ((same n i, any) ∷ ((a.2 i).ty, any) ∷ ((c.2 i).ty, any) ∷ []) ∷ (a.2 i).stream ++ (c.2 i).stream))
      ∙ ap (λ ds. reading (f (ty n)) (Fits ((f (ty n), any) ∷ (f a.1.ty, any) ∷ (f c.1.ty, any) ∷ []) ∷ ds)) (sym (demands_append f a.1.stream c.1.stream))
  layer (Form-F.When e x case) n =
      (λ i. reading (same n i) (condition (type_of' (bound (g n))) (ex.type_of_case bound' ty sigs case_type marks signals type_of case) ((same n i, any) ∷ ((e.2 i).ty, any) ∷ []) ∷ (e.2 i).stream))
      ∙ ap (λ d. reading (f (ty n)) (d ∷ map_demands f e.1.stream))
      (condition_nat f (type_of (bound (g n))) (ex.type_of_case bound' ty sigs case_type marks signals type_of case) ((ty n, any) ∷ (e.1.ty, any) ∷ []))
  layer (Form-F.Merge x cs) n =
      (λ i. reading (same n i) (Fits ((same n i, any) ∷ branch_types_nat cs i) ∷ branches_nat (type_of (bound (g n))) cs i))
  layer (Form-F.Call run x args None) n =
      ap₂ (λ u es. ex.head_of bound ty' sigs case_type marks signals type_of' u (bound (g n)) run es None) (same n) (same_args args) ∙ head_nat (ty n) (bound (g n)) run (map (λ p. p.1) args) None
  layer (Form-F.Call run x args (Some e)) n =
      (λ i. ex.head_of bound ty' sigs case_type marks signals type_of' (same n i) (bound (g n)) run (same_args args i) (Some (e.2 i)))
      ∙ head_nat (ty n) (bound (g n)) run (map (λ p. p.1) args) (Some e.1)

  -- an expression with other notes asks the same of the other types
  pub natural : (e : Expr N) → ex.reading_of bound ty' sigs case_type marks signals type_of' (noted g e) ≡ map_reading f (ex.reading_of bound' ty sigs case_type marks signals type_of e)
  natural = related g s (λ e. e.form e.note) s' (λ e. e.form e.note) R R' layer (λ n p. p.2 n)
