-- The cell of an expression is known where what it reads is, and the bodies that it calls are.
use Rattle.std.specs.Prelude.{◌≡◌, refl, ℕ, ◌<◌, ◌≤◌, Bool, true, false, List, [], ◌∷◌, ◌++◌, map, Option, Some, None, if◌then◌else◌, unwrap_or, option_map}
use Rattle.std.proofs.Common.{ap, ap₂, sym, ◌∙◌, subst, arith}
use Rattle.ls_ast.specs.declared.tree.Case.{Case}
use Rattle.ls_ast.specs.declared.tree.Expr.{Expr-F, fold-Expr}
use Rattle.ls_ast.specs.declared.tree.Form.TheOpen.{Form-F}
use Rattle.ls_ast.specs.declared.tree.Pat.{Pat}
use Rattle.ls_places.specs.Patterns.{names_of, joined}
use Rattle.ls_sig.specs.declared.binder.Binder.{Binder}
use Rattle.ls_sig.specs.declared.binder.Binder.TheVariants as b
use Rattle.ls_sig.specs.declared.binder.Note.{Note}
use Rattle.ls_terms.specs.declared.clocks.ClockTerm.{ClockTerm}
use Rattle.ls_value.specs.declared.leaf.Leaf.TheVariants as leaf
use Rattle.kahn_model.specs.declared.cell.Cell.{Cell}
use Rattle.kahn_model.specs.declared.cell.Cell.TheVariants.{Absent, Present}
use Rattle.ls_places.specs.declared.definition.Key.{Key}
use Rattle.ls_places.specs.declared.definition.Key.TheVariants as key
use Rattle.kahn_model.specs.declared.cell.Value.TheVariants as v
use Rattle.ls_places.specs.declared.definition.Definition.{Definition}
use Rattle.kahn_model.specs.Rows.{either, Row, IsKnown, know, know_all, previous}
use Rattle.kahn_model.specs.Values.{case_of, eval, nil, tuple}
use Rattle.kahn_model.specs.Cells.{after_first, emitted, is_yes, say, value_in, values_in}
use Rattle.ls_places.specs.Clocks.{choice_parts, is_function}
use Rattle.kahn_model.specs.Functions
use Rattle.kahn_model.specs.Functions.{Arg, stream, def, given, Around, Meaning, Said, args_said, cells_at, clocks_said, param_in, part_arg, row_of}
use Rattle.ls_places.specs.Patterns.{has_name}
use Rattle.kahn_model.specs.Fullness.{All}
use Rattle.kahn_model.specs.Causality.{RowTo, ArgAt, ArgTo, AroundTo}
use Rattle.ls_places.specs.Search
use Rattle.kahn_model.specs.Choices
use Rattle.ls_places.specs.Search.{E, nth}
use Rattle.kahn_model.specs.Turn
use Rattle.kahn_model.specs.Turn.{Table}
use Rattle.kahn_model.specs.Reads
use Rattle.kahn_model.specs.Reads.{Shape, a_stream, a_function, with_argument, shape_of, shapes_of, give_shapes, param_shape, Call, calls_of, Needs, Formed, Reading, together, earlier, nothing, now_only, all_needs, every_needs, shapes_read, clocks_read, bound_keys}
use Rattle.kahn_model.proofs.Knowing.{all_left, all_right, all_map, after_first_known, at_known, either_known, know_all_known, know_known, previous_known, some_known}
use Rattle.kahn_model.proofs.Needed.{Kn, Met, met_left, met_right, met_to, met_earlier}
use Rattle.kahn_model.proofs.Presence.{row_known, on_known, look_known, head_known, say_known}
use Rattle.kahn_model.proofs.Related
use Rattle.kahn_model.proofs.Related.{in_choices, related}

-- ---- shapes

pub if_shape : (t : Bool) (x y : Arg) (s u : Shape) → shape_of x ≡ s → shape_of y ≡ u → shape_of (if t then x else y) ≡ (if t then s else u)
if_shape true x y s u p q = p
if_shape false x y s u p q = q

pub give_shape : (f : Arg) (xs : List Arg) → shape_of (Functions.give_args f xs) ≡ give_shapes (shape_of f) (shapes_of xs)
give_shape f [] = refl
give_shape f (x ∷ xs) = give_shape (given f x) xs

pub part_shape : (p : Pat) (x : ℕ) (g : Arg) → shape_of (part_arg p x g) ≡ shape_of g
part_shape p x (stream r) = refl
part_shape p x (def k c) = refl
part_shape p x (given f g) = refl

pub param_shape_is : (x : ℕ) (ps : List Pat) (gs : List Arg) → shape_of (param_in x ps gs) ≡ param_shape x ps (shapes_of gs)
param_shape_is x [] gs = refl
param_shape_is x (p ∷ ps) [] = refl
param_shape_is x (p ∷ ps) (g ∷ gs) = if_shape (has_name x (names_of p)) (part_arg p x g) (param_in x ps gs) (shape_of g) (param_shape x ps (shapes_of gs)) (part_shape p x g) (param_shape_is x ps gs)

-- ---- what stands for parameters

pub own_to : (i k : ℕ) (c : Option (ℕ → Row Bool)) (h : Row Bool) → ArgTo i (def k c) → RowTo i h → (w : ℕ) → RowTo i (unwrap_or c (λ w. h) w)
own_to i k None h p q w j l = q j l
own_to i k (Some f) h p q w j l = p j l w

pub give_at : (i : ℕ) (f : Arg) (xs : List Arg) → ArgAt i f → All (ArgAt i) xs → ArgAt i (Functions.give_args f xs)
give_at i f [] p q = p
give_at i f (x ∷ xs) p q = give_at i (given f x) xs (p, q.0) q.1

pub all_now : (i : ℕ) (xs : List Arg) → All (ArgTo i) xs → All (ArgAt i) xs
all_now i = all_map (ArgTo i) (ArgAt i) (λ x f. f i (omega arith))

module _ (cases : ℕ → Option ℕ) (defs : List Definition) (call : Meaning) (Ok : Call → Type 0) (d : Definition) (a : Around) (T : Table) (top : ℕ) (around : AroundTo top a)
    (calls : (k i : ℕ) → i ≤ top → (c : Around) → Ok (k, shapes_of c.args) → AroundTo i c → IsKnown (call k c i)) where
  abbrev Met' : ℕ → Needs → Type 0
  Met' = Met Ok T

  abbrev Kn' : ℕ → Key → Type 0
  Kn' = Kn Ok T

  abbrev shapes : List Shape
  shapes = shapes_of a.args

  abbrev on' : ClockTerm → Row Bool
  on' = Turn.on cases defs call d a T

  abbrev keys : ClockTerm → List Key
  keys = Reads.clock_keys d shapes

  pub clock_known : (ck : ClockTerm) (i : ℕ) → i ≤ top → All (Kn' i) (keys ck) → IsKnown (on' ck i)
  clock_known ck i t q = on_known cases defs call d a T top around shapes ck i t q

  looked : (bound : Binder) (x i : ℕ) → i ≤ top → All (Kn' i) (bound_keys bound) → ArgAt i (Turn.look cases defs call d a T bound x)
  looked bound x i t q = look_known cases defs call d a T top around shapes bound x i t q

  look_shape_is : (bound : Binder) (x : ℕ) → shape_of (Turn.look cases defs call d a T bound x) ≡ Reads.look_shape d shapes bound x
  look_shape_is (b.Var k) x = refl
  look_shape_is (b.Param k) x = param_shape_is x d.params a.args
  look_shape_is b.Nothing x = refl
  look_shape_is (b.Def k) x = refl
  look_shape_is (b.Case c k) x = refl

  pub head_shape_is : (bound : Binder) (ck : ClockTerm) (x : ℕ) (cks : List ClockTerm) → shape_of (Turn.head_of cases defs call d a T bound ck x cks) ≡ Reads.head_shape d shapes bound x
  head_shape_is (b.Def k) ck x cks = refl
  head_shape_is (b.Var k) ck x cks = refl
  head_shape_is (b.Param k) ck x cks = param_shape_is x d.params a.args
  head_shape_is b.Nothing ck x cks = refl
  head_shape_is (b.Case c k) ck x cks = refl

  pub apply_known : (i : ℕ) → i ≤ top → (f : Arg) (xs : List Arg) (h act rst : Row Bool) → ArgTo i f → All (ArgTo i) xs → RowTo i h → RowTo i act → RowTo i rst
      → All Ok (calls_of (shape_of f) (shapes_of xs)) → IsKnown (Turn.apply cases defs call d a T f xs h act rst i)
  apply_known i t (stream r) xs h act rst p q e g z o = some_known Absent
  apply_known i t (def k c) xs h act rst p q e g z o = calls k i t (record { active = act; again = rst; clocks = unwrap_or c (λ w. h); args = xs }) o.0
      (record { active = g; again = z; clocks = own_to i k c h p e; args = q })
  apply_known i t (given f x) xs h act rst p q e g z o = apply_known i t f (x ∷ xs) h act rst (λ j l. (p j l).0) ((λ j l. (p j l).1), q) e g z o

  on_clock_known : (n : Note) (g : Arg) (i : ℕ) → IsKnown (on' n.ck i) → ArgAt i g → ArgAt i (Turn.on_clock cases defs call d a T n g)
  on_clock_known n (stream r) i p q = at_known (on' n.ck i) (r i) p q
  on_clock_known n (def k c) i p q = q
  on_clock_known n (given f x) i p q = q

  on_clock_shape : (n : Note) (g : Arg) → shape_of (Turn.on_clock cases defs call d a T n g) ≡ shape_of g
  on_clock_shape n (stream r) = refl
  on_clock_shape n (def k c) = refl
  on_clock_shape n (given f x) = refl

  module _ (act rst : Row Bool) (act_known : RowTo top act) (rst_known : RowTo top rst) where
    abbrev pub OnTo : ClockTerm → ℕ → Type 0
    OnTo ck i = (j : ℕ) → j ≤ i → IsKnown (on' ck j)

    abbrev pub Holds : Said → Reading → Type 0
    Holds s r = (s.note ≡ r.note) × (shape_of s.arg ≡ r.shape) × ((i : ℕ) → i ≤ top → Met' i r.needs → ArgAt i s.arg)

    abbrev pub HoldsF : (Note → Arg) → (Note → Formed) → Type 0
    HoldsF f r = (n : Note) → (shape_of (f n) ≡ (r n).shape) × ((i : ℕ) → i ≤ top → OnTo n.ck i → Met' i (r n).needs → ArgAt i (f n))

    abbrev pub TwoF : Type 0
    TwoF = (f : Note → Arg) × (r : Note → Formed) × HoldsF f r

    abbrev pub TwoS : Type 0
    TwoS = (s : Said) × (r : Reading) × Holds s r

    abbrev pub fs : Form-F Note (Note → Arg) Said → Note → Arg
    fs = Turn.form_step cases defs call d a T act rst

    abbrev pub es : Expr-F Note (Note → Arg) Said → Said
    es = Turn.expr_step cases defs call d a T

    abbrev pub fr : Form-F Note (Note → Formed) Reading → Note → Formed
    fr = Reads.form_reading d shapes

    abbrev pub er : Expr-F Note (Note → Formed) Reading → Reading
    er = Reads.expr_reading d shapes

    abbrev pub Lefts : Form-F Note TwoF TwoS → Form-F Note (Note → Arg) Said
    Lefts = Related.lefts fs es fr er HoldsF Holds

    abbrev pub Rights : Form-F Note TwoF TwoS → Form-F Note (Note → Formed) Reading
    Rights = Related.rights fs es fr er HoldsF Holds

    abbrev pub ls : List TwoS → List Said
    ls = map {A = TwoS} {B = Said} (λ p. p.0)

    abbrev pub rs : List TwoS → List Reading
    rs = map {A = TwoS} {B = Reading} (λ p. p.1)

    is_known : (p : TwoS) (i : ℕ) → i ≤ top → Met' i p.1.needs → IsKnown (row_of p.0.arg i)
    is_known p i t m = row_known i p.0.arg (p.2.2 i t m)

    arg_to : (p : TwoS) (i : ℕ) → i ≤ top → Met' i p.1.needs → ArgTo i p.0.arg
    arg_to p i t m j l = p.2.2 j (omega (arith, l, t)) (met_to Ok T i j p.1.needs l m)

    pub all_cells : (ps : List TwoS) (i : ℕ) → i ≤ top → Met' i (all_needs (rs ps)) → All IsKnown (cells_at i (ls ps))
    all_cells [] i t m = tt
    all_cells (p ∷ ps) i t m = (
      is_known p i t (met_left Ok T i p.1.needs (all_needs (rs ps)) m),
      all_cells ps i t (met_right Ok T i p.1.needs (all_needs (rs ps)) m),
    )

    pub args_to : (ps : List TwoS) (i : ℕ) → i ≤ top → Met' i (all_needs (rs ps)) → All (ArgTo i) (args_said (ls ps))
    args_to [] i t m = tt
    args_to (p ∷ ps) i t m = (
      arg_to p i t (met_left Ok T i p.1.needs (all_needs (rs ps)) m),
      args_to ps i t (met_right Ok T i p.1.needs (all_needs (rs ps)) m),
    )

    cks_same : (ps : List TwoS) → clocks_read (rs ps) ≡ clocks_said (ls ps)
    cks_same [] = refl
    cks_same (p ∷ ps) = ap₂ (λ (n : Note) ns. n.ck ∷ ns) (sym p.2.0) (cks_same ps)

    pub shapes_same : (ps : List TwoS) → shapes_of (args_said (ls ps)) ≡ shapes_read (rs ps)
    shapes_same [] = refl
    shapes_same (p ∷ ps) = ap₂ (λ (s : Shape) ss. s ∷ ss) p.2.1 (shapes_same ps)

    -- ---- merges and delays

    abbrev lcs : List (Case × TwoS) → List (Case × Said)
    lcs = in_choices {X = TwoS} {Y = Said} (λ p. p.0)

    abbrev rcs : List (Case × TwoS) → List Reading
    rcs cs = choice_parts (in_choices {X = TwoS} {Y = Reading} (λ p. p.1) cs)

    if_known : (t : Bool) (r s : Row Cell) (i : ℕ) → IsKnown (r i) → IsKnown (s i) → IsKnown ((if t then r else s) i)
    if_known true r s i p q = p
    if_known false r s i p q = q

    branch_known : (k : ℕ) (cs : List (Case × TwoS)) (i : ℕ) → i ≤ top → Met' i (all_needs (rcs cs)) → IsKnown (Turn.branch cases defs call d a T k (lcs cs) i)
    branch_known k [] i t m = some_known Absent
    branch_known k (c ∷ cs) i t m = if_known (unwrap_or (option_map (λ j. Search.same_number j k) (Turn.case_number cases defs call d a T c.0)) false)
        (row_of c.1.0.arg) (Turn.branch cases defs call d a T k (lcs cs)) i
        (is_known c.1 i t (met_left Ok T i c.1.1.needs (all_needs (rcs cs)) m)) (branch_known k cs i t (met_right Ok T i c.1.1.needs (all_needs (rcs cs)) m))

    merged_known : (cs : List (Case × TwoS)) (i : ℕ) → i ≤ top → Met' i (all_needs (rcs cs)) → (o : Option ℕ) → IsKnown (Turn.merged_case cases defs call d a T (lcs cs) i o)
    merged_known cs i t m None = some_known (Present nil)
    merged_known cs i t m (Some k) = branch_known k cs i t m

    -- so are the restarts of a delay, with the variables that its note lists
    too_known : (row : Row Bool) (xs : List ℕ) (i : ℕ) → IsKnown (row i) → All (Kn' i) (Reads.restart_keys d shapes xs) → IsKnown (Turn.again_too cases defs call d a T row xs i)
    too_known row [] i p q = p
    too_known row (x ∷ xs) i p q = too_known (λ j. either (row j) (say is_yes (T (key.Var x) j))) xs i
        (either_known (row i) (say is_yes (T (key.Var x) i)) p (say_known cases defs call d a T top around shapes is_yes (T (key.Var x) i) q.0)) q.1

    delay_known : (n : Note) (i : ℕ) (c : Option Cell) (r : Row Cell) → i ≤ top → OnTo n.ck i → Met' i (now_only (Reads.restart_keys d shapes n.restarts)) → IsKnown c → ((j : ℕ) → j < i → IsKnown (r j))
        → IsKnown (know (previous (on' n.ck) (Turn.again_too cases defs call d a T rst n.restarts) i) (after_first c r))
    delay_known n i c r t o m p q =
        let rst' : Row Bool = Turn.again_too cases defs call d a T rst n.restarts in
        let e = previous_known (on' n.ck) rst' i (λ j l. o j (omega (arith, l)))
        (λ j l. too_known rst n.restarts j (rst_known j (omega (arith, l, t))) (met_to Ok T i j (now_only (Reads.restart_keys d shapes n.restarts)) l m).is_now) in
        let y = after_first_known i c r e.0 e.2 p q in
        (y.0, ap (λ z. know z (after_first c r)) e.1 ∙ y.1)

    abbrev restarts' : Note → Needs
    restarts' n = now_only (Reads.restart_keys d shapes n.restarts)

    was_known : (p : TwoS) (i : ℕ) → i ≤ top → Met' i (earlier p.1.needs) → (j : ℕ) → j < i → IsKnown (row_of p.0.arg j)
    was_known p i t m j l = is_known p j (omega (arith, l, t)) (met_earlier Ok T i j p.1.needs l m)

    -- ---- calls

    abbrev pub left_every : Option TwoS → Option Said
    left_every None = None
    left_every (Some p) = Some p.0

    abbrev pub right_every : Option TwoS → Option Reading
    right_every None = None
    right_every (Some p) = Some p.1

    pub every_to : (s : Option TwoS) (i : ℕ) → i ≤ top → Met' i (every_needs (right_every s)) → RowTo i (Turn.every_too cases defs call d a T rst (left_every s))
    every_to None i t m j l = rst_known j (omega (arith, l, t))
    every_to (Some p) i t m j l = either_known (rst j) (say is_yes (row_of p.0.arg j)) (rst_known j (omega (arith, l, t)))
        (say_known cases defs call d a T top around shapes is_yes (row_of p.0.arg j) (row_known j p.0.arg (arg_to p i t m j l)))

    abbrev pub head_needs : Note → Binder → ℕ → List Reading → Needs
    head_needs n bound x args = record {
      now = bound_keys bound ++ Reads.clocks_keys d shapes (clocks_read args ++ n.ck ∷ []);
      before = [];
      calls = if is_function n then [] else calls_of (Reads.head_shape d shapes bound x) (shapes_read args);
    }

    head_at : (n : Note) (bound : Binder) (x : ℕ) (ps : List TwoS) (i : ℕ) → i ≤ top → Met' i (head_needs n bound x (rs ps))
        → ArgAt i (Turn.head_of cases defs call d a T bound n.ck x (clocks_said (ls ps)))
    head_at n bound x ps i t m = head_known cases defs call d a T top around shapes bound n.ck x i t (clocks_said (ls ps))
        (all_left (Kn' i) (bound_keys bound) (Reads.clocks_keys d shapes (clocks_read (rs ps) ++ n.ck ∷ [])) m.is_now)
        (subst (λ cks. All (Kn' i) (joined (map keys (cks ++ n.ck ∷ [])))) (cks_same ps)
        (all_right (Kn' i) (bound_keys bound) (Reads.clocks_keys d shapes (clocks_read (rs ps) ++ n.ck ∷ [])) m.is_now))

    pub head_to : (n : Note) (bound : Binder) (x : ℕ) (ps : List TwoS) (i : ℕ) → i ≤ top → Met' i (head_needs n bound x (rs ps))
        → ArgTo i (Turn.head_of cases defs call d a T bound n.ck x (clocks_said (ls ps)))
    head_to n bound x ps i t m j l = head_at n bound x ps j (omega (arith, l, t)) (met_to Ok T i j (head_needs n bound x (rs ps)) l m)

    by_function : (i : ℕ) (t : Bool) (x : Arg) (r : Row Cell) (cs : List Call) → ArgAt i x → (All Ok cs → IsKnown (r i)) → All Ok (if t then [] else cs) → ArgAt i (if t then x else stream r)
    by_function i true x r cs p q o = p
    by_function i false x r cs p q o = q o

    call_holds : (n : Note) (bound : Binder) (x : ℕ) (ps : List TwoS) (s : Option TwoS) (i : ℕ) → i ≤ top → OnTo n.ck i
        → Met' i (Reads.called d shapes n bound x (rs ps) (right_every s)).needs
        → ArgAt i (Turn.called cases defs call d a T act rst n (Turn.head_of cases defs call d a T bound n.ck x (clocks_said (ls ps))) (ls ps) (left_every s))
    call_holds n bound x ps s i t o m =
        let f : Arg = Turn.head_of cases defs call d a T bound n.ck x (clocks_said (ls ps)) in
        let xs : List Arg = args_said (ls ps) in
        let more : Needs = together (all_needs (rs ps)) (every_needs (right_every s)) in
        let head : Met' i (head_needs n bound x (rs ps)) = met_left Ok T i (head_needs n bound x (rs ps)) more m in
        let rest : Met' i more = met_right Ok T i (head_needs n bound x (rs ps)) more m in
        let fk : ArgTo i f = head_to n bound x ps i t head in
        let xk : All (ArgTo i) xs = args_to ps i t (met_left Ok T i (all_needs (rs ps)) (every_needs (right_every s)) rest) in
        by_function i (is_function n) (Functions.give_args f xs)
        (Turn.apply cases defs call d a T f xs (on' n.ck) act (Turn.every_too cases defs call d a T rst (left_every s)))
        (calls_of (Reads.head_shape d shapes bound x) (shapes_read (rs ps)))
        (give_at i f xs (fk i (omega arith)) (all_now i xs xk))
        (λ ok. apply_known i t f xs (on' n.ck) act (Turn.every_too cases defs call d a T rst (left_every s)) fk xk o (λ j l. act_known j (omega (arith, l, t)))
        (every_to s i t (met_right Ok T i (all_needs (rs ps)) (every_needs (right_every s)) rest))
        (subst (λ h. All Ok (calls_of h (shapes_of xs))) (sym (head_shape_is bound n.ck x (clocks_said (ls ps))))
        (subst (λ ss. All Ok (calls_of (Reads.head_shape d shapes bound x) ss)) (sym (shapes_same ps)) ok)))
        head.ok

    call_shape : (n : Note) (bound : Binder) (x : ℕ) (ps : List TwoS) (s : Option TwoS)
        → shape_of (Turn.called cases defs call d a T act rst n (Turn.head_of cases defs call d a T bound n.ck x (clocks_said (ls ps))) (ls ps) (left_every s))
        ≡ (Reads.called d shapes n bound x (rs ps) (right_every s)).shape
    call_shape n bound x ps s =
        let f : Arg = Turn.head_of cases defs call d a T bound n.ck x (clocks_said (ls ps)) in
        if_shape (is_function n) (Functions.give_args f (args_said (ls ps)))
        (stream (Turn.apply cases defs call d a T f (args_said (ls ps)) (on' n.ck) act (Turn.every_too cases defs call d a T rst (left_every s))))
        (give_shapes (Reads.head_shape d shapes bound x) (shapes_read (rs ps))) a_stream
        (give_shape f (args_said (ls ps)) ∙ ap₂ give_shapes (head_shape_is bound n.ck x (clocks_said (ls ps))) (shapes_same ps)) refl

    used_holds : (n : Note) (bound : Binder) (x i : ℕ) → i ≤ top → OnTo n.ck i → Met' i (Reads.used d shapes n bound x).needs → ArgAt i (Turn.used cases defs call d a T act rst n bound x)
    used_holds n (b.Def k) x i t o m = call_holds n (b.Def k) x [] None i t o m
    used_holds n (b.Var k) x i t o m = looked (b.Var k) x i t m.is_now
    used_holds n (b.Param k) x i t o m = looked (b.Param k) x i t m.is_now
    used_holds n b.Nothing x i t o m = looked b.Nothing x i t m.is_now
    used_holds n (b.Case c k) x i t o m = looked (b.Case c k) x i t m.is_now

    used_shape : (n : Note) (bound : Binder) (x : ℕ) → shape_of (Turn.used cases defs call d a T act rst n bound x) ≡ (Reads.used d shapes n bound x).shape
    used_shape n (b.Def k) x = call_shape n (b.Def k) x [] None
    used_shape n (b.Var k) x = look_shape_is (b.Var k) x
    used_shape n (b.Param k) x = look_shape_is (b.Param k) x
    used_shape n b.Nothing x = look_shape_is b.Nothing x
    used_shape n (b.Case c k) x = look_shape_is (b.Case c k) x

    module _ (last_known : (bound : Binder) (i : ℕ) → i ≤ top → Met' i (Reads.last_needs d shapes bound) → IsKnown (Turn.last_bound cases defs call d a T bound i)) where
      pub layer : (y : Form-F Note TwoF TwoS) → HoldsF (fs (Lefts y)) (fr (Rights y))
      layer (Form-F.Leaf l) n = (refl, λ i t o m. some_known (Present (v.Leaf l)))
      layer (Form-F.Case x) n = (refl, λ i t o m. some_known (Present (Choices.case_value n.bound)))
      layer (Form-F.Var x) n = (used_shape n n.bound x.0, λ i t o m. used_holds n n.bound x.0 i t o m)
      layer (Form-F.Last x) n = (refl, λ i t o m. last_known n.bound i t m)
      layer (Form-F.Asked x) n = (
        refl,
        λ i t o m. know_known (row_of (Turn.look cases defs call d a T n.bound x.0) i) (λ c. Some (Present (v.Leaf (leaf.Bool (emitted c)))))
            (row_known i (Turn.look cases defs call d a T n.bound x.0) (looked n.bound x.0 i t m.is_now)) (λ c z. some_known (Present (v.Leaf (leaf.Bool (emitted c))))),
      )
      layer (Form-F.Op op args) n = (
        refl,
        λ i t o m. know_known (know_all (cells_at i (ls args))) (λ cs. Some (Present (eval op (values_in cs))))
            (know_all_known (cells_at i (ls args)) (all_cells args i t m)) (λ cs z. some_known (Present (eval op (values_in cs)))),
      )
      layer (Form-F.Tuple args) n = (
        refl,
        λ i t o m. know_known (know_all (cells_at i (ls args))) (λ cs. Some (Present (tuple (values_in cs))))
            (know_all_known (cells_at i (ls args)) (all_cells args i t m)) (λ cs z. some_known (Present (tuple (values_in cs)))),
      )
      layer (Form-F.Pre p) n = (refl, λ i t o m. delay_known n i (Some (Present nil)) (row_of p.0.arg) t o (met_left Ok T i (restarts' n) (earlier p.1.needs) m) (some_known (Present nil)) (was_known p i t (met_right Ok T i (restarts' n) (earlier p.1.needs) m)))
      layer (Form-F.Fby x y) n = (
        refl,
        λ i t o m.
            let k = met_right Ok T i (restarts' n) (together x.1.needs (earlier y.1.needs)) m in
            delay_known n i (row_of x.0.arg i) (row_of y.0.arg) t o (met_left Ok T i (restarts' n) (together x.1.needs (earlier y.1.needs)) m)
            (is_known x i t (met_left Ok T i x.1.needs (earlier y.1.needs) k)) (was_known y i t (met_right Ok T i x.1.needs (earlier y.1.needs) k)),
      )
      layer (Form-F.Init x y) n = (
        refl,
        λ i t o m.
            let k = met_right Ok T i (restarts' n) (together x.1.needs y.1.needs) m in
            delay_known n i (row_of x.0.arg i) (λ j. row_of y.0.arg i) t o (met_left Ok T i (restarts' n) (together x.1.needs y.1.needs) m)
            (is_known x i t (met_left Ok T i x.1.needs y.1.needs k)) (λ j l. is_known y i t (met_right Ok T i x.1.needs y.1.needs k)),
      )
      layer (Form-F.When p x k) n = (refl, λ i t o m. is_known p i t m)
      layer (Form-F.Merge x choices) n = (
        refl,
        λ i t o m. know_known (row_of (Turn.look cases defs call d a T n.bound x.0) i) (Turn.merged cases defs call d a T (lcs choices) i)
            (row_known i (Turn.look cases defs call d a T n.bound x.0) (looked n.bound x.0 i t (met_left Ok T i (now_only (bound_keys n.bound)) (all_needs (rcs choices)) m).is_now))
            (λ c z. merged_known choices i t (met_right Ok T i (now_only (bound_keys n.bound)) (all_needs (rcs choices)) m) (case_of (value_in c))),
      )
      layer (Form-F.Call run head args None) n = (call_shape n n.bound head.0 args None, λ i t o m. call_holds n n.bound head.0 args None i t o m)
      layer (Form-F.Call run head args (Some s)) n = (call_shape n n.bound head.0 args (Some s), λ i t o m. call_holds n n.bound head.0 args (Some s) i t o m)

      pub es_holds : (n : Note) (p : TwoF) → Holds (es (record { note = n; form = p.0 })) (er (record { note = n; form = p.1 }))
      es_holds n p = (
        refl,
        on_clock_shape n (p.0 n) ∙ (p.2 n).0,
        λ i t m.
            let own : Met' i (now_only (keys n.ck)) = met_left Ok T i (now_only (keys n.ck)) (p.1 n).needs m in
            on_clock_known n (p.0 n) i (clock_known n.ck i t own.is_now)
            ((p.2 n).1 i t (λ j l. clock_known n.ck j (omega (arith, l, t)) (met_to Ok T i j (now_only (keys n.ck)) l own).is_now) (met_right Ok T i (now_only (keys n.ck)) (p.1 n).needs m)),
      )

      pub said_known : (e : E) → Holds (fold-Expr Note (Note → Arg) Said fs es e) (Reads.reading d shapes e)
      said_known = related fs es fr er HoldsF Holds layer es_holds
