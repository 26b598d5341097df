-- The places of functions and signals in an expression are those of the names.
use Rattle.std.specs.Prelude.{◌≡◌, refl, ℕ, zero, suc, ◌==◌, ◌&&◌, not, Bool, true, false, List, [], ◌∷◌, ◌++◌, map, length, drop, slice_get, Option, Some, None, if◌then◌else◌, nat_lt}
use Rattle.std.proofs.Common.{ap, ap₂, sym, ◌∙◌, subst}
use Rattle.std.proofs.lemmas.Bool.{and_parts}
use Rattle.ls_value.specs.declared.leaf.Leaf.{Leaf}
use Rattle.ls_value.specs.declared.leaf.Leaf.TheVariants as leaf
use Rattle.ls_ops.specs.declared.kinds.OpSign.{OpSign}
use Rattle.ls_ops.specs.declared.kinds.OpSign.TheVariants as sign
use Rattle.ls_ops.specs.Signature.{signature_of}
use Rattle.ls_ast.specs.declared.tree.Case.{Case}
use Rattle.ls_ast.specs.declared.tree.Mark.{Mark}
use Rattle.ls_ast.specs.declared.tree.Expr.{Expr, Expr-F}
use Rattle.ls_ast.specs.declared.tree.Form.TheOpen.{Form-F}
use Rattle.ls_terms.specs.declared.types.Kind.{Kind}
use Rattle.ls_terms.specs.declared.types.Kind.TheVariants.{Comb}
use Rattle.ls_terms.specs.declared.types.TypeTerm.{TypeTerm, out-TypeTerm, roll-TypeTerm, fold-roll-TypeTerm, fold_out-TypeTerm, ind-TypeTerm, map-TypeTerm}
use Rattle.ls_terms.specs.declared.types.TypeTerm.TheOpen.{TypeTerm-F}
use Rattle.ls_terms.specs.declared.types.TypeTerm.TheVariants as t
use Rattle.ls_terms.specs.Types.{apply_at}
use Rattle.ls_sig.specs.Notes.{is_signal, signal_layer}
use Rattle.ls_sig.specs.declared.binder.Binder.{Binder}
use Rattle.ls_sig.specs.declared.binder.Binder.TheVariants as b
use Rattle.ls_sig.specs.declared.sigs.Sig.{Sig}
use Rattle.type_rules.specs.Schemes.{joined, every, is_data, data_step, put}
use Rattle.tree_notes.specs.Each.{Each}
use Rattle.type_rules.proofs.Agreeing.{each_left, each_right, each_both}
use Rattle.type_rules.proofs.Instances.{data_back}
use Rattle.type_rules.specs.Places.{choice_places, form_places, expr_places, places_of}
use Rattle.type_rules.specs.declared.demand.Demand.{Demand}
use Rattle.type_rules.specs.declared.demand.Demand.TheVariants.{Fits, Equal, Function, Never}
use Rattle.type_rules.specs.Demands.{map_demand, map_demands, Holds, Meets}
use Rattle.type_rules.specs.Expressions as ex
use Rattle.type_rules.specs.Expressions.{any, Reading, reading, streams, types_of, zip_fits, given, applied, restarts, is_bare, is_passed, rest_of, called, partial, call_of, application, name_reading, condition, asked, kind_of, same_kind, none_of, operand_types, result_type, literal_type, vars_from}
use Rattle.type_rules.proofs.Natural.{demands_append}
use Rattle.tree_notes.proofs.Related.{related, lefts, rights}

-- ---- instances of data are data

module _ (σ : ℕ → TypeTerm) (known : (x : ℕ) → is_data (σ x) ≡ true) where
  abbrev by : ℕ → Option TypeTerm
  by x = Some (σ x)

  abbrev Kept : TypeTerm → Type 0
  Kept s = is_data s ≡ true → is_data (put σ s) ≡ true

  abbrev With : Type 0
  With = (s : TypeTerm) × Kept s

  abbrev tops : TypeTerm-F With → TypeTerm-F TypeTerm
  tops = map-TypeTerm With TypeTerm (λ p. p.0)

  data_roll : (x : TypeTerm-F TypeTerm) → is_data (roll-TypeTerm x) ≡ data_step (map-TypeTerm TypeTerm Bool is_data x)
  data_roll x = fold-roll-TypeTerm Bool data_step x

  kept_all : (ps : List With) → every (map is_data (map (λ p. p.0) ps)) ≡ true → every (map is_data (map (put σ) (map (λ p. p.0) ps))) ≡ true
  kept_all [] e = refl
  kept_all (p ∷ ps) e =
      let a = and_parts (is_data p.0) (every (map is_data (map (λ p. p.0) ps))) e in
      ap₂ (λ u v. u && v) (p.1 a.0) (kept_all ps a.1)

  kept_layer : (y : TypeTerm-F With) → data_step (map-TypeTerm TypeTerm Bool is_data (tops y)) ≡ true → is_data (apply_at by (map-TypeTerm TypeTerm TypeTerm (put σ) (tops y))) ≡ true
  kept_layer (TypeTerm-F.Var x) e = known x
  kept_layer (TypeTerm-F.Tuple ps) e = data_roll (TypeTerm-F.Tuple (map (put σ) (map (λ p. p.0) ps))) ∙ kept_all ps e
  kept_layer (TypeTerm-F.Arrow k ps p) e = absurd (cc)
  kept_layer (TypeTerm-F.Signal p) e = absurd (cc)
  kept_layer TypeTerm-F.Int e = data_roll TypeTerm-F.Int
  kept_layer TypeTerm-F.Bool e = data_roll TypeTerm-F.Bool
  kept_layer TypeTerm-F.Char e = data_roll TypeTerm-F.Char
  kept_layer TypeTerm-F.Text e = data_roll TypeTerm-F.Text
  kept_layer TypeTerm-F.Unit e = data_roll TypeTerm-F.Unit
  kept_layer (TypeTerm-F.Enum x) e = data_roll (TypeTerm-F.Enum x)

  pub data_put : (s : TypeTerm) → Kept s
  data_put = ind-TypeTerm Kept (λ x y from. subst (λ z. Kept (roll-TypeTerm z)) from (λ e.
      ap is_data (fold-roll-TypeTerm TypeTerm (apply_at by) (tops y)) ∙ kept_layer y (sym (data_roll (tops y)) ∙ e)))

  pub put_not : (s : TypeTerm) → is_data s ≡ false → is_data (put σ s) ≡ true → ⊥
  put_not s e d = let r = (data_back by s d).0 in cc

-- ---- which schemes are data

abbrev IsData : TypeTerm → Type 0
IsData s = is_data s ≡ true

rolled : (x : TypeTerm-F TypeTerm) (s : TypeTerm) → roll-TypeTerm x ≡ s → is_data s ≡ data_step (map-TypeTerm TypeTerm Bool is_data x)
rolled x s e = ap is_data (sym e) ∙ fold-roll-TypeTerm Bool data_step x

pub var_data : (x : ℕ) → IsData (t.Var x)
var_data x = rolled (TypeTerm-F.Var x) (t.Var x) (t.rolls-Var x)

pub bool_data : IsData t.Bool
bool_data = rolled TypeTerm-F.Bool t.Bool t.rolls-Bool

pub int_data : IsData t.Int
int_data = rolled TypeTerm-F.Int t.Int t.rolls-Int

pub char_data : IsData t.Char
char_data = rolled TypeTerm-F.Char t.Char t.rolls-Char

pub text_data : IsData t.Text
text_data = rolled TypeTerm-F.Text t.Text t.rolls-Text

pub unit_data : IsData t.Unit
unit_data = rolled TypeTerm-F.Unit t.Unit t.rolls-Unit

pub enum_data : (e : ℕ) → IsData (t.Enum e)
enum_data e = rolled (TypeTerm-F.Enum e) (t.Enum e) (t.rolls-Enum e)

pub arrow_data : (k : Kind) (ts : List TypeTerm) (u : TypeTerm) → is_data (t.Arrow k ts u) ≡ false
arrow_data k ts u = rolled (TypeTerm-F.Arrow k ts u) (t.Arrow k ts u) (t.rolls-Arrow k ts u)

vars_data : (n k : ℕ) → every (map is_data (vars_from n k)) ≡ true
vars_data n zero = refl
vars_data n (suc k) = ap₂ (λ u v. u && v) (var_data n) (vars_data (suc n) k)

pub tuple_data : (k : ℕ) → IsData (t.Tuple (vars_from 0 k))
tuple_data k = rolled (TypeTerm-F.Tuple (vars_from 0 k)) (t.Tuple (vars_from 0 k)) (t.rolls-Tuple (vars_from 0 k)) ∙ vars_data 0 k

pub tuple_of_data : (ts : List TypeTerm) → every (map is_data ts) ≡ true → IsData (t.Tuple ts)
tuple_of_data ts e = rolled (TypeTerm-F.Tuple ts) (t.Tuple ts) (t.rolls-Tuple ts) ∙ e

pub signal_is : (u : TypeTerm) → is_data (t.Signal u) ≡ false
signal_is u = rolled (TypeTerm-F.Signal u) (t.Signal u) (t.rolls-Signal u)

literal_data : (l : Leaf) → IsData (literal_type l)
literal_data leaf.Nil = var_data 0
literal_data (leaf.Int z) = int_data
literal_data (leaf.Bool z) = bool_data
literal_data (leaf.Char z) = char_data
literal_data (leaf.Text z) = text_data
literal_data (leaf.Enum e k) = enum_data e
literal_data leaf.Unit = unit_data

result_data : (s : OpSign) → IsData (result_type s)
result_data (sign.Ints n) = int_data
result_data (sign.IntPred n) = bool_data
result_data (sign.Bools n) = bool_data
result_data sign.CharPred = bool_data
result_data sign.CharInt = int_data
result_data sign.Same = bool_data
result_data sign.Choice = var_data 0

-- a signal's type is no data
signal_at : (x : TypeTerm-F TypeTerm) → signal_layer x ≡ true → data_step (map-TypeTerm TypeTerm Bool is_data x) ≡ false
signal_at (TypeTerm-F.Signal u) e = refl
signal_at _ e = absurd (cc)

pub signal_data : (u : TypeTerm) → is_signal u ≡ true → is_data u ≡ false
signal_data u e = fold_out-TypeTerm Bool data_step u ∙ signal_at (out-TypeTerm u) e

-- ---- demands in a row

module _ (f : ℕ → TypeTerm) where
  pub meets_left : (ds es : List (Demand ℕ)) → Meets f (ds ++ es) → Meets f ds
  meets_left ds es m = each_left Holds (map_demands f ds) (map_demands f es) (subst (λ z. Each Holds z) (demands_append f ds es) m)

  pub meets_right : (ds es : List (Demand ℕ)) → Meets f (ds ++ es) → Meets f es
  meets_right ds es m = each_right Holds (map_demands f ds) (map_demands f es) (subst (λ z. Each Holds z) (demands_append f ds es) m)

  -- what a demand says of its first type
  pub first_data : (k : ℕ) (s : TypeTerm) (ps : List (ℕ × TypeTerm)) → IsData s → Holds (map_demand f (Fits ((k, s) ∷ ps))) → IsData (f k)
  first_data k s ps d h = ap is_data h.2.0 ∙ data_put h.0 h.1 s d

  pub first_not : (k : ℕ) (s : TypeTerm) (ps : List (ℕ × TypeTerm)) → is_data s ≡ false → Holds (map_demand f (Fits ((k, s) ∷ ps))) → IsData (f k) → ⊥
  first_not k s ps d h e = put_not h.0 h.1 s d (sym (ap is_data h.2.0) ∙ e)

-- ---- two assignments that meet the demands

module _ (f g : ℕ → TypeTerm) where
  abbrev pub Alike : ℕ → Type 0
  Alike k = IsData (f k) → IsData (g k)

  abbrev pub Good : List (Demand ℕ) → List ℕ → Type 0
  Good ds ks = Meets f ds → Meets g ds → Each Alike ks

  abbrev pub R' : Reading ℕ → List ℕ → Type 0
  R' r ks = Good r.stream ks × Good r.bare ks × Good r.whole ks × Good r.body ks

  abbrev pub R : (N : Type 0) → (N → ℕ) → (N → Reading ℕ) → List ℕ → Type 0
  R N ty r ks = (n : N) → R' (r n) (ty n ∷ ks)

  abbrev pub Part : Type 0
  Part = (r : Reading ℕ) × (ks : List ℕ) × R' r ks

  pub good : (k : ℕ) (ds : List (Demand ℕ)) (ks : List ℕ) → Good ds ks → R' (reading k ds) ks
  good k ds ks h = (h, h, h, h)

  streams_good : (ps : List Part) → Good (streams (map (λ p. p.0) ps)) (joined (map (λ p. p.1) ps))
  streams_good [] m m' = tt
  streams_good (p ∷ ps) m m' =
      each_both Alike p.1 (joined (map (λ p. p.1) ps)) (p.2.0 (meets_left f p.0.stream _ m) (meets_left g p.0.stream _ m')) (streams_good ps (meets_right f p.0.stream _ m) (meets_right g p.0.stream _ m'))

  chosen : (c : Bool) (p : Part) → Good (if c then p.0.bare else p.0.stream) p.1
  chosen true p = p.2.1
  chosen false p = p.2.0

  given_good : (ms : List Mark) (ps : List Part) → Good (given ms (map (λ p. p.0) ps)) (joined (map (λ p. p.1) ps))
  given_good ms [] m m' = tt
  given_good [] (p ∷ ps) m m' =
      each_both Alike p.1 (joined (map (λ p. p.1) ps)) (p.2.0 (meets_left f p.0.stream _ m) (meets_left g p.0.stream _ m')) (given_good [] ps (meets_right f p.0.stream _ m) (meets_right g p.0.stream _ m'))
  given_good (k ∷ ms) (p ∷ ps) m m' =
      let ds = if is_bare k then p.0.bare else p.0.stream in
      each_both Alike p.1 (joined (map (λ p. p.1) ps)) (chosen (is_bare k) p (meets_left f ds _ m) (meets_left g ds _ m')) (given_good ms ps (meets_right f ds _ m) (meets_right g ds _ m'))

  applied_good : (ps : List Part) → Good (applied (map (λ p. p.0) ps)) (joined (map (λ p. p.1) ps))
  applied_good [] m m' = tt
  applied_good (p ∷ ps) m m' =
      let ds = if p.0.is_function then p.0.bare else p.0.stream in
      each_both Alike p.1 (joined (map (λ p. p.1) ps)) (chosen p.0.is_function p (meets_left f ds _ m) (meets_left g ds _ m')) (applied_good ps (meets_right f ds _ m) (meets_right g ds _ m'))

  abbrev option_of : Option Part → Option (Reading ℕ)
  option_of None = None
  option_of (Some p) = Some p.0

  abbrev places_if : Option Part → List ℕ
  places_if None = []
  places_if (Some p) = p.1

  restarts_good : (o : Option Part) → Good (restarts (option_of o)) (places_if o)
  restarts_good None m m' = tt
  restarts_good (Some p) m m' = p.2.0 m.1 m'.1

  abbrev all_places : List Part → Option Part → List ℕ
  all_places ps o = joined (map (λ p. p.1) ps) ++ places_if o

  call_good : (sig : Sig) (ps : List Part) (o : Option Part) → Good (given sig.marks (map (λ p. p.0) ps) ++ restarts (option_of o)) (all_places ps o)
  call_good sig ps o m m' =
      let ds = given sig.marks (map (λ p. p.0) ps) in
      each_both Alike (joined (map (λ p. p.1) ps)) (places_if o) (given_good sig.marks ps (meets_left f ds _ m) (meets_left g ds _ m')) (restarts_good o (meets_right f ds _ m) (meets_right g ds _ m'))

  nothing_good : (ks : List ℕ) → Good (Never ∷ []) ks
  nothing_good ks m m' = absurd m.0

  ends_good : (c : Bool) (ds es : List (Demand ℕ)) (ks : List ℕ) → (c ≡ true → Good ds ks) → Good es ks → Good (if c then ds else es) ks
  ends_good true ds es ks p q = p refl
  ends_good false ds es ks p q = q

  called_good : (k : ℕ) (sig : Sig) (ps : List Part) (o : Option Part) → R' (called k sig (map (λ p. p.0) ps) (option_of o)) (k ∷ all_places ps o)
  called_good k sig ps o =
      let args = map (λ p. p.0) ps in
      let ds = Fits ((k, sig.result) ∷ zip_fits args sig.params) ∷ given sig.marks args ++ restarts (option_of o) in
      let tail = Fits ((k, any) ∷ []) ∷ [] in
      let stream : Good (ds ++ tail) (k ∷ all_places ps o) =
      (λ m m'. ((λ e. first_data g k any [] (var_data 0) (meets_right g ds tail m').0), call_good sig ps o (meets_left f ds tail m).1 (meets_left g ds tail m').1)) in
      let ends : Good (if is_signal sig.result then ds else ds ++ tail) (k ∷ all_places ps o) =
      ends_good (is_signal sig.result) ds (ds ++ tail) (k ∷ all_places ps o)
      (λ s m m'. ((λ e. absurd (first_not f k sig.result (zip_fits args sig.params) (signal_data sig.result s) m.0 e)), call_good sig ps o m.1 m'.1)) stream in
      (stream, stream, ends, ends)

  partial_good : (k : ℕ) (sig : Sig) (ps : List Part) → R' (partial k sig (map (λ p. p.0) ps)) (k ∷ all_places ps None)
  partial_good k sig ps =
      let args = map (λ p. p.0) ps in
      let n = length args in (
        nothing_good (k ∷ all_places ps None),
        ends_good (is_passed sig n) (Fits ((k, rest_of sig n) ∷ zip_fits args sig.params) ∷ given sig.marks args) (Never ∷ []) (k ∷ all_places ps None)
            (λ s m m'. (
              (λ e. absurd (first_not f k (rest_of sig n) (zip_fits args sig.params) (arrow_data sig.kind (drop n sig.params) sig.result) m.0 e)),
              each_both Alike (joined (map (λ p. p.1) ps)) [] (given_good sig.marks ps m.1 m'.1) tt,
            ))
            (nothing_good (k ∷ all_places ps None)),
        nothing_good (k ∷ all_places ps None),
        nothing_good (k ∷ all_places ps None),
      )

  by_if : (P : Reading ℕ → Type 0) (c : Bool) (x y : Reading ℕ) → P x → P y → P (if c then x else y)
  by_if P true x y p q = p
  by_if P false x y p q = q

  wrong_good : (k : ℕ) (ks : List ℕ) → R' (reading k (Never ∷ [])) ks
  wrong_good k ks = (nothing_good ks, nothing_good ks, nothing_good ks, nothing_good ks)

  -- too few arguments, with no restart
  few_good : (a c : Bool) (k : ℕ) (sig : Sig) (ps : List Part) (o : Option Part)
      → R' (if a && (c && none_of (option_of o)) then partial k sig (map (λ p. p.0) ps) else reading k (Never ∷ [])) (k ∷ all_places ps o)
  few_good a c k sig ps None = by_if (λ r. R' r (k ∷ all_places ps None)) (a && (c && true)) (partial k sig (map (λ p. p.0) ps)) (reading k (Never ∷ [])) (partial_good k sig ps) (wrong_good k (k ∷ all_places ps None))
  few_good true true k sig ps (Some p) = wrong_good k (k ∷ all_places ps (Some p))
  few_good true false k sig ps (Some p) = wrong_good k (k ∷ all_places ps (Some p))
  few_good false c k sig ps (Some p) = wrong_good k (k ∷ all_places ps (Some p))

  pub call_of_good : (k : ℕ) (sig : Option Sig) (run : Bool) (ps : List Part) (o : Option Part) → R' (call_of k sig run (map (λ p. p.0) ps) (option_of o)) (k ∷ all_places ps o)
  call_of_good k None run ps o = wrong_good k (k ∷ all_places ps o)
  call_of_good k (Some sig) run ps o =
      let args : List (Reading ℕ) = map (λ p. p.0) ps in
      let P = λ (r : Reading ℕ). R' r (k ∷ all_places ps o) in
      let rest = if nat_lt (length args) (length sig.params) && (not run && none_of (option_of o)) then partial k sig args else reading k (Never ∷ []) in
      by_if P (run && same_kind sig.kind Comb) (reading k (Never ∷ [])) (if length args == length sig.params then called k sig args (option_of o) else rest) (wrong_good k (k ∷ all_places ps o))
      (by_if P (length args == length sig.params) (called k sig args (option_of o)) rest (called_good k sig ps o) (few_good (nat_lt (length args) (length sig.params)) (not run) k sig ps o))

  pub application_good : (k : ℕ) (u : Option ℕ) (run : Bool) (ps : List Part) (o : Option Part) → R' (application k u run (map (λ p. p.0) ps) (option_of o)) (k ∷ all_places ps o)
  application_good k None run ps o = wrong_good k (k ∷ all_places ps o)
  application_good k (Some u) run ps o =
      let ds = applied (map (λ p. p.0) ps) in
      let h : Good (Function u (kind_of run) (types_of (map (λ p. p.0) ps)) k ∷ Fits ((k, any) ∷ []) ∷ ds ++ restarts (option_of o)) (k ∷ all_places ps o) =
      (λ m m'. (
        (λ e. first_data g k any [] (var_data 0) m'.1.0),
        each_both Alike (joined (map (λ p. p.1) ps)) (places_if o) (applied_good ps (meets_left f ds _ m.1.1) (meets_left g ds _ m'.1.1)) (restarts_good o (meets_right f ds _ m.1.1) (meets_right g ds _ m'.1.1)),
      )) in
      (h, h, h, h)

  pub name_good : (k : ℕ) (function signal : Bool) (u : Option ℕ) → ((v : ℕ) → u ≡ Some v → Alike v) → R' (name_reading k function signal u) (k ∷ [])
  name_good k function signal None placed = wrong_good k (k ∷ [])
  name_good k function signal (Some u) placed =
      let ds : List (Demand ℕ) = Fits ((k, any) ∷ (u, any) ∷ []) ∷ [] in
      let stream : Good ds (k ∷ []) = (λ m m'. ((λ e. first_data g k any ((u, any) ∷ []) (var_data 0) m'.0), tt)) in
      let bare : Good (Equal k u ∷ []) (k ∷ []) = (λ m m'. ((λ e. ap is_data m'.0 ∙ placed u refl (sym (ap is_data m.0) ∙ e)), tt)) in
      (stream, bare, stream, ends_good signal (Equal k u ∷ []) ds (k ∷ []) (λ s. bare) stream)

-- ---- the fold

module _ {N : Type 0} (bound : N → Binder) (ty : N → ℕ) (sigs : List Sig) (case_type : ℕ → Option TypeTerm) (marks : ℕ → Mark) (signals : ℕ → Bool) (type_of : Binder → Option ℕ)
    (f g : ℕ → TypeTerm) (placed : (x : Binder) (v : ℕ) → type_of x ≡ Some v → Alike f g v) where
  abbrev step : Form-F N (N → Reading ℕ) (Reading ℕ) → N → Reading ℕ
  step = ex.form_step bound ty sigs case_type marks signals type_of

  abbrev estep : Expr-F N (N → Reading ℕ) (Reading ℕ) → Reading ℕ
  estep e = e.form e.note

  abbrev pstep : Form-F N (List ℕ) (List ℕ) → List ℕ
  pstep = form_places ty

  abbrev qstep : Expr-F N (List ℕ) (List ℕ) → List ℕ
  qstep = expr_places ty

  abbrev RF : (N → Reading ℕ) → List ℕ → Type 0
  RF r ks = (n : N) → R' f g (r n) (ty n ∷ ks)

  abbrev FormPart : Type 0
  FormPart = (r : N → Reading ℕ) × (ks : List ℕ) × RF r ks

  use_good : (k : ℕ) (x : Binder) → R' f g (ex.use_of bound ty sigs case_type marks signals type_of k x) (k ∷ [])
  use_good k (b.Def j) = call_of_good f g k (slice_get sigs j) false [] None
  use_good k (b.Param j) = name_good f g k _ _ (type_of (b.Param j)) (placed (b.Param j))
  use_good k (b.Var j) = name_good f g k false (signals j) (type_of (b.Var j)) (placed (b.Var j))
  use_good k b.Nothing = wrong_good f g k (k ∷ [])
  use_good k (b.Case e j) = wrong_good f g k (k ∷ [])

  head_good : (k : ℕ) (x : Binder) (run : Bool) (ps : List (Part f g)) (o : Option (Part f g))
      → R' f g (ex.head_of bound ty sigs case_type marks signals type_of k x run (map (λ p. p.0) ps) (option_of f g o)) (k ∷ all_places f g ps o)
  head_good k (b.Def j) run ps o = call_of_good f g k (slice_get sigs j) run ps o
  head_good k (b.Param j) run ps o = application_good f g k (type_of (b.Param j)) run ps o
  head_good k (b.Var j) run ps o = wrong_good f g k (k ∷ all_places f g ps o)
  head_good k b.Nothing run ps o = wrong_good f g k (k ∷ all_places f g ps o)
  head_good k (b.Case e j) run ps o = wrong_good f g k (k ∷ all_places f g ps o)

  constructor_good : (k : ℕ) (x : Binder) → Good f g (ex.constructor_of bound ty sigs case_type marks signals type_of k x ∷ []) (k ∷ [])
  constructor_good k (b.Case e j) m m' = ((λ d. first_data g k (t.Enum e) [] (enum_data e) m'.0), tt)
  constructor_good k b.Nothing m m' = absurd m.0
  constructor_good k (b.Def j) m m' = absurd m.0
  constructor_good k (b.Param j) m m' = absurd m.0
  constructor_good k (b.Var j) m m' = absurd m.0

  last_good : (k : ℕ) (u : Option ℕ) → Good f g (ex.last_of bound ty sigs case_type marks signals type_of k u ∷ []) (k ∷ [])
  last_good k None m m' = absurd m.0
  last_good k (Some u) m m' = ((λ d. first_data g k any ((u, any) ∷ []) (var_data 0) m'.0), tt)

  asked_good : (k : ℕ) (u : Option ℕ) → Good f g (asked k u) (k ∷ [])
  asked_good k None m m' = absurd m.0
  asked_good k (Some u) m m' = ((λ d. first_data g k t.Bool ((u, t.Signal any) ∷ []) bool_data m'.0), tt)

  -- the second of the types of a condition is that of the whole
  condition_good : (k : ℕ) (u : Option ℕ) (s : Option TypeTerm) (j : ℕ) → Holds (map_demand g (condition u s ((k, any) ∷ (j, any) ∷ []))) → IsData (g k)
  condition_good k None None j h = absurd h
  condition_good k None (Some s) j h = absurd h
  condition_good k (Some u) None j h = absurd h
  condition_good k (Some u) (Some s) j h = ap is_data h.2.1.0 ∙ data_put h.0 h.1 any (var_data 0)

  branches_good : (u : Option ℕ) (cs : List (Case × Part f g))
      → Good f g (ex.branches bound ty sigs case_type marks signals type_of u (map {A = Case × Part f g} {B = Case × Reading ℕ} (λ c. (c.0, c.1.0)) cs)) (choice_places ty (map {A = Case × Part f g} {B = Case × List ℕ} (λ c. (c.0, c.1.1)) cs))
  branches_good u [] m m' = tt
  branches_good u (c ∷ cs) m m' =
      each_both (Alike f g) c.1.1 (choice_places ty (map {A = Case × Part f g} {B = Case × List ℕ} (λ c. (c.0, c.1.1)) cs))
      (c.1.2.0 (meets_left f c.1.0.stream _ m.1) (meets_left g c.1.0.stream _ m'.1)) (branches_good u cs (meets_right f c.1.0.stream _ m.1) (meets_right g c.1.0.stream _ m'.1))

  operator_good : (k : ℕ) (s : OpSign) (ps : List (Part f g)) (c : Bool)
      → Good f g (if c then Fits ((k, result_type s) ∷ zip_fits (map (λ p. p.0) ps) (operand_types s)) ∷ streams (map (λ p. p.0) ps) else Never ∷ []) (k ∷ joined (map (λ p. p.1) ps))
  operator_good k s ps true m m' = ((λ d. first_data g k (result_type s) (zip_fits (map (λ p. p.0) ps) (operand_types s)) (result_data s) m'.0), streams_good f g ps m.1 m'.1)
  operator_good k s ps false m m' = absurd m.0

  two_good : (k : ℕ) (p q : Part f g) → Good f g (Fits ((k, any) ∷ (p.0.ty, any) ∷ (q.0.ty, any) ∷ []) ∷ p.0.stream ++ q.0.stream) (k ∷ p.1 ++ q.1)
  two_good k p q m m' = (
    (λ d. first_data g k any ((p.0.ty, any) ∷ (q.0.ty, any) ∷ []) (var_data 0) m'.0),
    each_both (Alike f g) p.1 q.1 (p.2.0 (meets_left f p.0.stream q.0.stream m.1) (meets_left g p.0.stream q.0.stream m'.1)) (q.2.0 (meets_right f p.0.stream q.0.stream m.1) (meets_right g p.0.stream q.0.stream m'.1)),
  )

  literal_good : (k : ℕ) (l : Leaf) → Good f g (Fits ((k, literal_type l) ∷ []) ∷ []) (k ∷ [])
  literal_good k l m m' = ((λ d. first_data g k (literal_type l) [] (literal_data l) m'.0), tt)

  tuple_good : (k i : ℕ) (ps : List (Part f g)) → Good f g (Fits ((k, t.Tuple (vars_from 0 i)) ∷ zip_fits (map (λ p. p.0) ps) (vars_from 0 i)) ∷ streams (map (λ p. p.0) ps)) (k ∷ joined (map (λ p. p.1) ps))
  tuple_good k i ps m m' = ((λ d. first_data g k (t.Tuple (vars_from 0 i)) (zip_fits (map (λ p. p.0) ps) (vars_from 0 i)) (tuple_data i) m'.0), streams_good f g ps m.1 m'.1)

  pre_good : (k : ℕ) (p : Part f g) → Good f g (Fits ((k, any) ∷ (p.0.ty, any) ∷ []) ∷ p.0.stream) (k ∷ p.1)
  pre_good k p m m' = ((λ d. first_data g k any ((p.0.ty, any) ∷ []) (var_data 0) m'.0), p.2.0 m.1 m'.1)

  when_good : (k : ℕ) (u : Option ℕ) (s : Option TypeTerm) (p : Part f g) → Good f g (condition u s ((k, any) ∷ (p.0.ty, any) ∷ []) ∷ p.0.stream) (k ∷ p.1)
  when_good k u s p m m' = ((λ d. condition_good k u s p.0.ty m'.0), p.2.0 m.1 m'.1)

  abbrev with_readings : List (Case × Part f g) → List (Case × Reading ℕ)
  with_readings = map {A = Case × Part f g} {B = Case × Reading ℕ} (λ c. (c.0, c.1.0))

  abbrev with_places : List (Case × Part f g) → List (Case × List ℕ)
  with_places = map {A = Case × Part f g} {B = Case × List ℕ} (λ c. (c.0, c.1.1))

  merge_good : (k : ℕ) (u : Option ℕ) (cs : List (Case × Part f g))
      → Good f g (Fits ((k, any) ∷ ex.branch_types bound ty sigs case_type marks signals type_of (with_readings cs)) ∷ ex.branches bound ty sigs case_type marks signals type_of u (with_readings cs)) (k ∷ choice_places ty (with_places cs))
  merge_good k u cs m m' =
      ((λ d. first_data g k any (ex.branch_types bound ty sigs case_type marks signals type_of (with_readings cs)) (var_data 0) m'.0), branches_good u cs m.1 m'.1)

  layer : (y : Form-F N FormPart (Part f g)) → RF (step (lefts step estep pstep qstep RF (R' f g) y)) (pstep (rights step estep pstep qstep RF (R' f g) y))
  layer (Form-F.Leaf l) n = let h = literal_good (ty n) l in (h, h, h, h)
  layer (Form-F.Case c) n = let h = constructor_good (ty n) (bound n) in (h, h, h, h)
  layer (Form-F.Var x) n = use_good (ty n) (bound n)
  layer (Form-F.Last x) n = let h = last_good (ty n) (type_of (bound n)) in (h, h, h, h)
  layer (Form-F.Asked x) n = let h = asked_good (ty n) (type_of (bound n)) in (h, h, h, h)
  layer (Form-F.Op op ps) n = let h = operator_good (ty n) (signature_of op) ps (length (map {A = Part f g} {B = Reading ℕ} (λ p. p.0) ps) == length (operand_types (signature_of op))) in (h, h, h, h)
  layer (Form-F.Tuple ps) n = let h = tuple_good (ty n) (length (map {A = Part f g} {B = Reading ℕ} (λ p. p.0) ps)) ps in (h, h, h, h)
  layer (Form-F.Pre p) n = let h = pre_good (ty n) p in (h, h, h, h)
  layer (Form-F.Fby p q) n = let h = two_good (ty n) p q in (h, h, h, h)
  layer (Form-F.Init p q) n = let h = two_good (ty n) p q in (h, h, h, h)
  layer (Form-F.When p x case) n = let h = when_good (ty n) (type_of (bound n)) (ex.type_of_case bound ty sigs case_type marks signals type_of case) p in (h, h, h, h)
  layer (Form-F.Merge x cs) n = let h = merge_good (ty n) (type_of (bound n)) cs in (h, h, h, h)
  layer (Form-F.Call run x ps None) n = head_good (ty n) (bound n) run ps None
  layer (Form-F.Call run x ps (Some p)) n = head_good (ty n) (bound n) run ps (Some p)

  -- what stands at an expression and its parts is data in one assignment where it is in the other
  pub places_alike : (e : Expr N) → R' f g (ex.reading_of bound ty sigs case_type marks signals type_of e) (places_of ty e)
  places_alike = related step estep pstep qstep RF (R' f g) layer (λ n p. p.2 n)
