-- A turn is monotone: in the table, and in what is around the body. What is known of these at the instants of a set that has
-- with each instant all before it is known of what the turn gives at the instants of this set.
use Rattle.std.specs.Prelude.{◌≡◌, refl, ℕ, zero, suc, ◌+◌, ◌-◌, Bool, true, false, List, [], ◌∷◌, ◌++◌, map, length, Option, Some, None, unwrap_or, option_map, if◌then◌else◌, nat_lt}
use Rattle.std.proofs.Common.{ap, ap₂, sym, ◌∙◌, subst}
use Rattle.kahn_model.proofs.Below.{AllBelow, below_refl, both_below, either_below, know_all_below, know_below, none_below}
use Rattle.kahn_model.proofs.Related.{in_choices, related}
use Rattle.kahn_model.specs.Cells.{after_first, at, emitted, is_case, is_yes, part, restarts, say, value_in, values_in}
use Rattle.ls_places.specs.Clocks.{bare, is_function, meets, meets_all}
use Rattle.kahn_model.specs.Functions.{Arg, Around, Meaning, Said, arg_at, args_said, cells_at, clocks_said, def, given, nowhere, param_in, part_arg, row_of, stream}
use Rattle.ls_places.specs.Patterns.{has_name}
use Rattle.kahn_model.proofs.Within.{ArgIn, ArgsIn, AroundIn, ClocksIn, MeaningIn, RowIn, TableIn, delay_below}
use Rattle.kahn_model.specs.Rows.{Below, Row, both, either, know, know_all, previous}
use Rattle.ls_places.specs.Search.{nth, param_clock, signal_arms, signal_at, sites_of, start_of, whole_of}
use Rattle.ls_places.specs.Search.{E}
use Rattle.kahn_model.specs.Turn.{Table}
use Rattle.kahn_model.specs.Values.{case_of, eval, nil, tuple}
use Rattle.kahn_model.specs.declared.cell.Cell.{Cell}
use Rattle.kahn_model.specs.declared.cell.Cell.TheVariants.{Absent, Chosen, Present, Silent}
use Rattle.kahn_model.specs.declared.cell.Reach.{Reach}
use Rattle.kahn_model.specs.declared.cell.Reach.TheVariants.{Elsewhere, Here, NoArm}
use Rattle.ls_places.specs.declared.definition.Definition.{Definition}
use Rattle.ls_ast.specs.declared.tree.Case.{Case}
use Rattle.ls_ast.specs.declared.tree.Expr.{Expr-F, fold-Expr}
use Rattle.ls_ast.specs.declared.tree.Form.TheOpen.{Form-F}
use Rattle.ls_ast.specs.declared.tree.Pat.{Pat}
use Rattle.ls_places.specs.Patterns.{names_of}
use Rattle.ls_places.specs.Places.{InnerArm, Place, arms}
use Rattle.ls_sig.specs.declared.binder.Binder.{Binder}
use Rattle.ls_sig.specs.declared.binder.Note.{Note}
use Rattle.ls_places.specs.declared.places.Named.{Named}
use Rattle.ls_places.specs.declared.places.Right.{Right}
use Rattle.ls_places.specs.declared.places.Site.{Site}
use Rattle.ls_places.specs.declared.places.Start.{Start}
use Rattle.ls_places.specs.declared.places.Transition.{Transition}
use Rattle.ls_places.specs.declared.places.Variable.{Variable}
use Rattle.ls_terms.specs.declared.clocks.ClockTerm.{ClockTerm, fold-ClockTerm, fold-roll-ClockTerm, ind-ClockTerm, map-ClockTerm, out-ClockTerm, roll-ClockTerm}
use Rattle.ls_terms.specs.declared.clocks.ClockTerm.TheOpen.{ClockTerm-F}
use Rattle.kahn_model.specs.Functions
use Rattle.kahn_model.proofs.Related
use Rattle.ls_places.specs.Search
use Rattle.kahn_model.specs.Choices
use Rattle.kahn_model.specs.Turn
use Rattle.ls_sig.specs.declared.binder.Binder.TheVariants as b
use Rattle.ls_places.specs.declared.places.Frame.TheVariants as frame
use Rattle.ls_places.specs.declared.definition.Key.TheVariants as key
use Rattle.ls_value.specs.declared.leaf.Leaf.TheVariants as leaf
use Rattle.ls_places.specs.declared.places.Named.TheVariants as named
use Rattle.ls_places.specs.declared.places.Right.TheVariants as rhs
use Rattle.kahn_model.specs.declared.cell.Value.TheVariants as v

pub if_rel : {A : Type 0} (R : A → A → Type 0) (t : Bool) (x x' y y' : A) → R x x' → R y y' → R (if t then x else y) (if t then x' else y')
if_rel R true x x' y y' p q = p
if_rel R false x x' y y' p q = q

pub say_below : (f : Cell → Bool) (c c' : Option Cell) → Below c c' → Below (say f c) (say f c')
say_below f c c' p = know_below c c' (λ x. Some (f x)) (λ x. Some (f x)) p (λ x. below_refl (Some (f x)))

pub at_below : (o o' : Option Bool) (c c' : Option Cell) → Below o o' → Below c c' → Below (at o c) (at o' c')
at_below (Some true) o' c c' p q x e = ap (λ o. at o c') (p true refl) ∙ q x e
at_below (Some false) o' c c' p q x e = ap (λ o. at o c') (p false refl) ∙ e
at_below None o' c c' p q x e = none_below (at o' c') x e

module _ (In : ℕ → Type 0) (down : (i : ℕ) → In (suc i) → In i) where
  abbrev pub SaidBelow : Said → Said → Type 0
  SaidBelow s t = (s.note ≡ t.note) × ArgIn In s.arg t.arg

  abbrev pub SaidsBelow : List Said → List Said → Type 0
  SaidsBelow [] [] = Unit {0}
  SaidsBelow (x ∷ xs) (y ∷ ys) = SaidBelow x y × SaidsBelow xs ys
  SaidsBelow _ _ = ⊥

  pub row_below : (x y : Arg) → ArgIn In x y → RowIn In (row_of x) (row_of y)
  row_below (stream r) (stream s) p = p
  row_below (def k c) (def l d) p = λ i h x e. e
  row_below (given f x) (given g y) p = λ i h x e. e
  row_below _ _ p = absurd p

  pub part_below : (p : Pat) (x : ℕ) (f g : Arg) → ArgIn In f g → ArgIn In (part_arg p x f) (part_arg p x g)
  part_below p x (stream r) (stream s) q = λ i h. know_below (r i) (s i) (λ c. Some (part p x c)) (λ c. Some (part p x c)) (q i h) (λ c. below_refl (Some (part p x c)))
  part_below p x (def k c) (def l d) q = q
  part_below p x (given f g) (given f' g') q = q
  part_below p x _ _ q = absurd q

  pub param_below : (x : ℕ) (ps : List Pat) (fs gs : List Arg) → ArgsIn In fs gs → ArgIn In (param_in x ps fs) (param_in x ps gs)
  param_below x [] fs gs q = λ i h x e. e
  param_below x (p ∷ ps) [] [] q = λ i h x e. e
  param_below x (p ∷ ps) (f ∷ fs) (g ∷ gs) q =
      if_rel (ArgIn In) (has_name x (names_of p)) (part_arg p x f) (part_arg p x g) (param_in x ps fs) (param_in x ps gs) (part_below p x f g q.0) (param_below x ps fs gs q.1)
  param_below x _ _ _ q = absurd q

  pub arg_at_below : (k : ℕ) (fs gs : List Arg) → ArgsIn In fs gs → ArgIn In (arg_at k fs) (arg_at k gs)
  arg_at_below k [] [] q = λ i h x e. e
  arg_at_below zero (f ∷ fs) (g ∷ gs) q = q.0
  arg_at_below (suc k) (f ∷ fs) (g ∷ gs) q = arg_at_below k fs gs q.1
  arg_at_below k _ _ q = absurd q

  pub cells_below : (i : ℕ) → In i → (xs ys : List Said) → SaidsBelow xs ys → AllBelow (cells_at i xs) (cells_at i ys)
  cells_below i h [] [] q = tt
  cells_below i h (x ∷ xs) (y ∷ ys) q = (row_below x.arg y.arg q.0.1 i h, cells_below i h xs ys q.1)
  cells_below i h _ _ q = absurd q

  pub args_below : (xs ys : List Said) → SaidsBelow xs ys → ArgsIn In (args_said xs) (args_said ys)
  args_below [] [] q = tt
  args_below (x ∷ xs) (y ∷ ys) q = (q.0.1, args_below xs ys q.1)
  args_below _ _ q = absurd q

  pub clocks_same : (xs ys : List Said) → SaidsBelow xs ys → clocks_said xs ≡ clocks_said ys
  clocks_same [] [] q = refl
  clocks_same (x ∷ xs) (y ∷ ys) q = ap₂ (λ (n : Note) ns. n.ck ∷ ns) q.0.0 (clocks_same xs ys q.1)
  clocks_same _ _ q = absurd q

  pub give_below : (f g : Arg) (xs ys : List Arg) → ArgIn In f g → ArgsIn In xs ys → ArgIn In (Functions.give_args f xs) (Functions.give_args g ys)
  give_below f g [] [] p q = p
  give_below f g (x ∷ xs) (y ∷ ys) p q = give_below (given f x) (given g y) xs ys (p, q.0) q.1
  give_below f g _ _ p q = absurd q

  module _ (cases : ℕ → Option ℕ) (defs : List Definition) (call call' : Meaning) (mono : MeaningIn In call call') (d : Definition)
      (a a' : Around) (ab : AroundIn In a a') (T T' : Table) (tb : TableIn In T T') where
    active_from_below : (r r' : Row Bool) (p : List InnerArm) → RowIn In r r'
        → RowIn In (Turn.active_from cases defs call d a T r p) (Turn.active_from cases defs call' d a' T' r' p)
    active_from_below r r' [] q = q
    active_from_below r r' (mj ∷ p) q = active_from_below (λ i. say (is_case mj.1) (T (key.Name mj.0) i)) (λ i. say (is_case mj.1) (T' (key.Name mj.0) i)) p
        (λ i h. say_below (is_case mj.1) (T (key.Name mj.0) i) (T' (key.Name mj.0) i) (tb (key.Name mj.0) i h))

    pub active_below : (p : Place) → RowIn In (Turn.active cases defs call d a T p) (Turn.active cases defs call' d a' T' p)
    active_below p = active_from_below a.active a'.active (arms p) ab.active

    again_from_below : (r r' : Row Bool) (p : Place) → RowIn In r r'
        → RowIn In (Turn.again_from cases defs call d a T r p) (Turn.again_from cases defs call' d a' T' r' p)
    again_from_below r r' [] q = q
    again_from_below r r' (frame.Reset k ∷ p) q = again_from_below (λ i. either (r i) (say is_yes (T (key.Reset k) i))) (λ i. either (r' i) (say is_yes (T' (key.Reset k) i))) p
        (λ i h. either_below (r i) (r' i) (say is_yes (T (key.Reset k) i)) (say is_yes (T' (key.Reset k) i)) (q i h) (say_below is_yes (T (key.Reset k) i) (T' (key.Reset k) i) (tb (key.Reset k) i h)))
    again_from_below r r' (frame.Arm m j ∷ p) q = again_from_below (λ i. either (r i) (say (restarts j) (T (key.Name m) i))) (λ i. either (r' i) (say (restarts j) (T' (key.Name m) i))) p
        (λ i h. either_below (r i) (r' i) (say (restarts j) (T (key.Name m) i)) (say (restarts j) (T' (key.Name m) i)) (q i h) (say_below (restarts j) (T (key.Name m) i) (T' (key.Name m) i) (tb (key.Name m) i h)))

    pub again_below : (p : Place) → RowIn In (Turn.again cases defs call d a T p) (Turn.again cases defs call' d a' T' p)
    again_below p = again_from_below a.again a'.again p ab.again

    too_below : (r r' : Row Bool) (xs : List ℕ) → RowIn In r r' → RowIn In (Turn.again_too cases defs call d a T r xs) (Turn.again_too cases defs call' d a' T' r' xs)
    too_below r r' [] q = q
    too_below r r' (x ∷ xs) q = too_below (λ i. either (r i) (say is_yes (T (key.Var x) i))) (λ i. either (r' i) (say is_yes (T' (key.Var x) i))) xs
        (λ i h. either_below (r i) (r' i) (say is_yes (T (key.Var x) i)) (say is_yes (T' (key.Var x) i)) (q i h) (say_below is_yes (T (key.Var x) i) (T' (key.Var x) i) (tb (key.Var x) i h)))

    named_below : (n : Option Named) (m : ℕ) → RowIn In (Turn.named_row cases defs call d a T n m) (Turn.named_row cases defs call' d a' T' n m)
    named_below (Some (named.Clock x)) m = tb (key.Var x)
    named_below (Some (named.Match e all p)) m = tb (key.Name m)
    named_below (Some (named.Present xs p)) m = tb (key.Name m)
    named_below (Some (named.Active states p)) m = tb (key.Name m)
    named_below (Some (named.Tested states p)) m = tb (key.Name m)
    named_below None m = tb (key.Name m)

    case_row_below : (m : ℕ) → RowIn In (Turn.case_row cases defs call d a T m) (Turn.case_row cases defs call' d a' T' m)
    case_row_below m = if_rel (RowIn In) (nat_lt m (length d.params)) (row_of (arg_at m a.args)) (row_of (arg_at m a'.args))
        (Turn.named_row cases defs call d a T (nth d.places.names (m - length d.params)) m) (Turn.named_row cases defs call' d a' T' (nth d.places.names (m - length d.params)) m)
        (row_below (arg_at m a.args) (arg_at m a'.args) (arg_at_below m a.args a'.args ab.args)) (named_below (nth d.places.names (m - length d.params)) m)

    abbrev On : ClockTerm → Type 0
    On ck = RowIn In (Turn.on cases defs call d a T ck) (Turn.on cases defs call' d a' T' ck)

    abbrev step : ClockTerm-F (Row Bool) → Row Bool
    step = Turn.on_step cases defs call d a T

    abbrev step' : ClockTerm-F (Row Bool) → Row Bool
    step' = Turn.on_step cases defs call' d a' T'

    abbrev WithOn : Type 0
    WithOn = (ck : ClockTerm) × On ck

    abbrev bare_terms : ClockTerm-F WithOn → ClockTerm-F ClockTerm
    bare_terms = map-ClockTerm WithOn ClockTerm (λ p. p.0)

    on_layer : (y : ClockTerm-F WithOn) → RowIn In (step (map-ClockTerm ClockTerm (Row Bool) (fold-ClockTerm (Row Bool) step) (bare_terms y)))
        (step' (map-ClockTerm ClockTerm (Row Bool) (fold-ClockTerm (Row Bool) step') (bare_terms y)))
    on_layer (ClockTerm-F.Var w) = if_rel (RowIn In) (Search.in_signature d w) (a.clocks w) (a'.clocks w)
        (Turn.active_from cases defs call d a T a.active (Search.home_of w d.places.exprs))
        (Turn.active_from cases defs call' d a' T' a'.active (Search.home_of w d.places.exprs))
        (ab.clocks w) (active_from_below a.active a'.active (Search.home_of w d.places.exprs) ab.active)
    on_layer (ClockTerm-F.On p m k) = λ i h. both_below (fold-ClockTerm (Row Bool) step p.0 i) (fold-ClockTerm (Row Bool) step' p.0 i)
        (say (is_case k) (Turn.case_row cases defs call d a T m i)) (say (is_case k) (Turn.case_row cases defs call' d a' T' m i)) (p.1 i h)
        (say_below (is_case k) (Turn.case_row cases defs call d a T m i) (Turn.case_row cases defs call' d a' T' m i) (case_row_below m i h))
    on_layer ClockTerm-F.Pointwise = λ i h x e. e
    on_layer (ClockTerm-F.Arrow cks ck) = λ i h x e. e

    pub on_below : (ck : ClockTerm) → On ck
    on_below = ind-ClockTerm On (λ x y from. subst (λ z. On (roll-ClockTerm z)) from
        (subst (λ r. RowIn In r (fold-ClockTerm (Row Bool) step' (roll-ClockTerm (bare_terms y)))) (sym (fold-roll-ClockTerm (Row Bool) step (bare_terms y)))
        (subst (λ r. RowIn In (step (map-ClockTerm ClockTerm (Row Bool) (fold-ClockTerm (Row Bool) step) (bare_terms y))) r) (sym (fold-roll-ClockTerm (Row Bool) step' (bare_terms y))) (on_layer y))))

    look_below : (bound : Binder) (x : ℕ) → ArgIn In (Turn.look cases defs call d a T bound x) (Turn.look cases defs call' d a' T' bound x)
    look_below (b.Var k) x = tb (key.Var k)
    look_below (b.Param k) x = param_below x d.params a.args a'.args ab.args
    look_below b.Nothing x = λ i h x e. e
    look_below (b.Def k) x = λ i h x e. e
    look_below (b.Case t k) x = λ i h x e. e

    right_here_below : (s : Site) (r : Right) → RowIn In (Turn.right_here cases defs call d a T s r) (Turn.right_here cases defs call' d a' T' s r)
    right_here_below s (rhs.Part p k) = on_below (bare (length s.inner) (whole_of d k).expr.note.ck)
    right_here_below s (rhs.Whole k) = on_below (bare (length s.inner) (whole_of d k).expr.note.ck)
    right_here_below s (rhs.Pattern x p) = active_below s.place

    variable_here_at_below : (s : Option Site) → RowIn In (Turn.variable_here_at cases defs call d a T s) (Turn.variable_here_at cases defs call' d a' T' s)
    variable_here_at_below None = λ i h x e. e
    variable_here_at_below (Some s) = right_here_below s s.right

    variable_here_below : (x : ℕ) → RowIn In (Turn.variable_here cases defs call d a T x) (Turn.variable_here cases defs call' d a' T' x)
    variable_here_below x = variable_here_at_below (nth (sites_of x d.places.sites) 0)

    where_on_below : (o : Option ClockTerm) → RowIn In (Turn.where_on cases defs call d a T o) (Turn.where_on cases defs call' d a' T' o)
    where_on_below None = λ i h x e. e
    where_on_below (Some ck) = on_below ck

    in_arms_below : (r r' : Row Bool) (p : List InnerArm) → RowIn In r r'
        → RowIn In (Turn.in_arms cases defs call d a T r p) (Turn.in_arms cases defs call' d a' T' r' p)
    in_arms_below r r' [] q = q
    in_arms_below r r' (mj ∷ p) q = in_arms_below (λ i. both (r i) (say (is_case mj.1) (T (key.Name mj.0) i))) (λ i. both (r' i) (say (is_case mj.1) (T' (key.Name mj.0) i))) p
        (λ i h. both_below (r i) (r' i) (say (is_case mj.1) (T (key.Name mj.0) i)) (say (is_case mj.1) (T' (key.Name mj.0) i)) (q i h)
        (say_below (is_case mj.1) (T (key.Name mj.0) i) (T' (key.Name mj.0) i) (tb (key.Name mj.0) i h)))

    signal_clock_below : (x : ℕ) (o : Option ℕ) → RowIn In (Turn.signal_clock cases defs call d a T x o) (Turn.signal_clock cases defs call' d a' T' x o)
    signal_clock_below x (Some k) = variable_here_below k
    signal_clock_below x None = where_on_below (param_clock x d.params d.clocks)

    signal_here_below : (x : ℕ) (p : List InnerArm) → RowIn In (Turn.signal_here cases defs call d a T x p) (Turn.signal_here cases defs call' d a' T' x p)
    signal_here_below x p = in_arms_below (Turn.signal_clock cases defs call d a T x (signal_at d x p)) (Turn.signal_clock cases defs call' d a' T' x (signal_at d x p))
        (signal_arms d x p) (signal_clock_below x (signal_at d x p))

    start_row_below : (x : ℕ) (s : Option Start) → RowIn In (Turn.start_row cases defs call d a T x s) (Turn.start_row cases defs call' d a' T' x s)
    start_row_below x None = λ i h. below_refl (Some (Present nil))
    start_row_below x (Some s) = tb (key.Start x)

    last_of_below : (x : ℕ) (w : Option Variable) → RowIn In (Turn.last_of cases defs call d a T x w) (Turn.last_of cases defs call' d a' T' x w)
    last_of_below x None = λ i h x e. e
    last_of_below x (Some w) = λ i h. delay_below In down
        (Turn.variable_here cases defs call d a T x) (Turn.variable_here cases defs call' d a' T' x) (Turn.again cases defs call d a T w.place) (Turn.again cases defs call' d a' T' w.place)
        (after_first (Turn.start_row cases defs call d a T x (start_of w d.places.starts) i) (T (key.Var x)))
        (after_first (Turn.start_row cases defs call' d a' T' x (start_of w d.places.starts) i) (T' (key.Var x)))
        (variable_here_below x) (again_below w.place) i h (start_row_below x (start_of w d.places.starts) i h) (tb (key.Var x))

    last_below : (x : ℕ) → RowIn In (Turn.last cases defs call d a T x) (Turn.last cases defs call' d a' T' x)
    last_below x = last_of_below x (nth d.places.vars x)

    last_bound_below : (bound : Binder) → RowIn In (Turn.last_bound cases defs call d a T bound) (Turn.last_bound cases defs call' d a' T' bound)
    last_bound_below (b.Var x) = last_below x
    last_bound_below _ = λ i h x e. e

    instance_below : (e : Option Definition) (cks : List ClockTerm) (ck : ClockTerm) (w : ℕ) → RowIn In (Turn.instance_of cases defs call d a T e cks ck w) (Turn.instance_of cases defs call' d a' T' e cks ck w)
    instance_below None cks ck w = λ i h x e. e
    instance_below (Some e) cks ck w = where_on_below (meets_all (map meets (e.clocks ++ e.result.note.ck ∷ [])) (cks ++ ck ∷ []) w)

    clocks_at_below : (k : ℕ) (cks : List ClockTerm) (ck : ClockTerm) (o : ClockTerm-F ClockTerm) → ClocksIn In (Turn.clocks_at cases defs call d a T k cks ck o) (Turn.clocks_at cases defs call' d a' T' k cks ck o)
    clocks_at_below k cks ck ClockTerm-F.Pointwise = tt
    clocks_at_below k cks ck (ClockTerm-F.Arrow more result) = λ w. instance_below (nth defs k) (cks ++ more) result w
    clocks_at_below k cks ck _ = λ w. instance_below (nth defs k) cks ck w

    pub head_below : (bound : Binder) (ck : ClockTerm) (x : ℕ) (cks : List ClockTerm) → ArgIn In (Turn.head_of cases defs call d a T bound ck x cks) (Turn.head_of cases defs call' d a' T' bound ck x cks)
    head_below (b.Def k) ck x cks = (refl, clocks_at_below k cks ck (out-ClockTerm ck))
    head_below (b.Var k) ck x cks = look_below (b.Var k) x
    head_below (b.Param k) ck x cks = look_below (b.Param k) x
    head_below b.Nothing ck x cks = look_below b.Nothing x
    head_below (b.Case t k) ck x cks = look_below (b.Case t k) x

    own_or_below : (c c' : Option (ℕ → Row Bool)) (h h' : Row Bool) → ClocksIn In c c' → RowIn In h h' → (w : ℕ) → RowIn In (unwrap_or c (λ w. h) w) (unwrap_or c' (λ w. h') w)
    own_or_below None None h h' p q w = q
    own_or_below (Some f) (Some g) h h' p q w = p w
    own_or_below _ _ h h' p q w = absurd p

    pub apply_below : (f f' : Arg) (xs xs' : List Arg) (h h' act act' rst rst' : Row Bool) → ArgIn In f f' → ArgsIn In xs xs' → RowIn In h h' → RowIn In act act' → RowIn In rst rst'
        → RowIn In (Turn.apply cases defs call d a T f xs h act rst) (Turn.apply cases defs call' d a' T' f' xs' h' act' rst')
    apply_below (stream r) (stream s) xs xs' h h' act act' rst rst' p q e g z = λ i l x e. e
    apply_below (def k c) (def l c') xs xs' h h' act act' rst rst' p q e g z =
        subst (λ m. RowIn In (call k (record { active = act; again = rst; clocks = unwrap_or c (λ w. h); args = xs })) (call' m (record { active = act'; again = rst'; clocks = unwrap_or c' (λ w. h'); args = xs' }))) p.0
        (mono k (record { active = act; again = rst; clocks = unwrap_or c (λ w. h); args = xs }) (record { active = act'; again = rst'; clocks = unwrap_or c' (λ w. h'); args = xs' })
        (record { active = g; again = z; clocks = own_or_below c c' h h' p.1 e; args = q }))
    apply_below (given f x) (given f' x') xs xs' h h' act act' rst rst' p q e g z = apply_below f f' (x ∷ xs) (x' ∷ xs') h h' act act' rst rst' p.0 (p.1, q) e g z
    apply_below _ _ xs xs' h h' act act' rst rst' p q e g z = absurd p

    abbrev pub EveryBelow : Option Said → Option Said → Type 0
    EveryBelow None None = Unit {0}
    EveryBelow (Some s) (Some t) = SaidBelow s t
    EveryBelow _ _ = ⊥

    pub every_below : (r r' : Row Bool) (s t : Option Said) → RowIn In r r' → EveryBelow s t → RowIn In (Turn.every_too cases defs call d a T r s) (Turn.every_too cases defs call' d a' T' r' t)
    every_below r r' None None p q = p
    every_below r r' (Some s) (Some t) p q = λ i h. either_below (r i) (r' i) (say is_yes (row_of s.arg i)) (say is_yes (row_of t.arg i)) (p i h)
        (say_below is_yes (row_of s.arg i) (row_of t.arg i) (row_below s.arg t.arg q.1 i h))
    every_below r r' _ _ p q = absurd q

    called_below : (act act' rst rst' : Row Bool) (n : Note) (f f' : Arg) (xs ys : List Said) (s t : Option Said) → RowIn In act act' → RowIn In rst rst' → ArgIn In f f' → SaidsBelow xs ys → EveryBelow s t
        → ArgIn In (Turn.called cases defs call d a T act rst n f xs s) (Turn.called cases defs call' d a' T' act' rst' n f' ys t)
    called_below act act' rst rst' n f f' xs ys s t p q r u e = if_rel (ArgIn In) (is_function n)
        (Functions.give_args f (args_said xs)) (Functions.give_args f' (args_said ys))
        (stream (Turn.apply cases defs call d a T f (args_said xs) (Turn.on cases defs call d a T n.ck) act (Turn.every_too cases defs call d a T rst s)))
        (stream (Turn.apply cases defs call' d a' T' f' (args_said ys) (Turn.on cases defs call' d a' T' n.ck) act' (Turn.every_too cases defs call' d a' T' rst' t)))
        (give_below f f' (args_said xs) (args_said ys) r (args_below xs ys u))
        (apply_below f f' (args_said xs) (args_said ys) (Turn.on cases defs call d a T n.ck) (Turn.on cases defs call' d a' T' n.ck) act act'
        (Turn.every_too cases defs call d a T rst s) (Turn.every_too cases defs call' d a' T' rst' t) r (args_below xs ys u) (on_below n.ck) p (every_below rst rst' s t q e))

    used_below : (act act' rst rst' : Row Bool) (n : Note) (bound : Binder) (x : ℕ) → RowIn In act act' → RowIn In rst rst'
        → ArgIn In (Turn.used cases defs call d a T act rst n bound x) (Turn.used cases defs call' d a' T' act' rst' n bound x)
    used_below act act' rst rst' n (b.Def k) x p q = called_below act act' rst rst' n (Turn.head_of cases defs call d a T (b.Def k) n.ck x []) (Turn.head_of cases defs call' d a' T' (b.Def k) n.ck x []) [] [] None None p q (head_below (b.Def k) n.ck x []) tt tt
    used_below act act' rst rst' n (b.Var k) x p q = look_below (b.Var k) x
    used_below act act' rst rst' n (b.Param k) x p q = look_below (b.Param k) x
    used_below act act' rst rst' n b.Nothing x p q = look_below b.Nothing x
    used_below act act' rst rst' n (b.Case t k) x p q = look_below (b.Case t k) x

    abbrev Branches : Type 0
    Branches = List (Case × Said)

    abbrev ChoicesBelow : Branches → Branches → Type 0
    ChoicesBelow [] [] = Unit {0}
    ChoicesBelow (x ∷ xs) (y ∷ ys) = ((x.0 ≡ y.0) × SaidBelow x.1 y.1) × ChoicesBelow xs ys
    ChoicesBelow _ _ = ⊥

    branch_below : (k : ℕ) (xs ys : Branches) → ChoicesBelow xs ys → RowIn In (Turn.branch cases defs call d a T k xs) (Turn.branch cases defs call' d a' T' k ys)
    branch_below k [] [] q = λ i h. below_refl (Some Absent)
    branch_below k (x ∷ xs) (y ∷ ys) q = subst (λ c. RowIn In (Turn.branch cases defs call d a T k (x ∷ xs)) (Turn.branch cases defs call' d a' T' k ((c, y.1) ∷ ys))) q.0.0
        (if_rel (RowIn In) (unwrap_or (option_map (λ j. Search.same_number j k) (Turn.case_number cases defs call d a T x.0)) false) (row_of x.1.arg) (row_of y.1.arg)
        (Turn.branch cases defs call d a T k xs) (Turn.branch cases defs call' d a' T' k ys) (row_below x.1.arg y.1.arg q.0.1.1) (branch_below k xs ys q.1))
    branch_below k _ _ q = absurd q

    merged_below : (xs ys : Branches) → ChoicesBelow xs ys → (i : ℕ) → In i → (o : Option ℕ) → Below (Turn.merged_case cases defs call d a T xs i o) (Turn.merged_case cases defs call' d a' T' ys i o)
    merged_below xs ys q i h None = below_refl (Some (Present nil))
    merged_below xs ys q i h (Some k) = branch_below k xs ys q i h

    on_clock_below : (n : Note) (f g : Arg) → ArgIn In f g → ArgIn In (Turn.on_clock cases defs call d a T n f) (Turn.on_clock cases defs call' d a' T' n g)
    on_clock_below n (stream r) (stream s) p = λ i h. at_below (Turn.on cases defs call d a T n.ck i) (Turn.on cases defs call' d a' T' n.ck i) (r i) (s i) (on_below n.ck i h) (p i h)
    on_clock_below n (def k c) (def l e) p = p
    on_clock_below n (given f x) (given g y) p = p
    on_clock_below n _ _ p = absurd p

    abbrev pub RelF : (Note → Arg) → (Note → Arg) → Type 0
    RelF f g = (n : Note) → ArgIn In (f n) (g n)

    abbrev pub TwoF : Type 0
    TwoF = (f : Note → Arg) × (g : Note → Arg) × RelF f g

    abbrev pub TwoS : Type 0
    TwoS = (s : Said) × (t : Said) × SaidBelow s t

    pub saids_two : (ps : List TwoS) → SaidsBelow (map {A = TwoS} {B = Said} (λ p. p.0) ps) (map {A = TwoS} {B = Said} (λ p. p.1) ps)
    saids_two [] = tt
    saids_two (p ∷ ps) = (p.2, saids_two ps)

    choices_two : (ps : List (Case × TwoS)) → ChoicesBelow (in_choices {X = TwoS} {Y = Said} (λ p. p.0) ps) (in_choices {X = TwoS} {Y = Said} (λ p. p.1) ps)
    choices_two [] = tt
    choices_two (p ∷ ps) = ((refl, p.1.2), choices_two ps)

    pub know_all_then : {B : Type 0} (i : ℕ) → In i → (xs ys : List Said) (f : List Cell → B) → SaidsBelow xs ys
        → Below (know (know_all (cells_at i xs)) (λ cs. Some (f cs))) (know (know_all (cells_at i ys)) (λ cs. Some (f cs)))
    know_all_then i h xs ys f q = know_below (know_all (cells_at i xs)) (know_all (cells_at i ys)) (λ cs. Some (f cs)) (λ cs. Some (f cs))
        (know_all_below (cells_at i xs) (cells_at i ys) (cells_below i h xs ys q)) (λ cs. below_refl (Some (f cs)))

    module _ (act act' rst rst' : Row Bool) (actb : RowIn In act act') (rstb : RowIn In rst rst') where
      abbrev pub fs : Form-F Note (Note → Arg) Said → Note → Arg
      fs = Turn.form_step cases defs call d a T act rst

      abbrev pub fs' : Form-F Note (Note → Arg) Said → Note → Arg
      fs' = Turn.form_step cases defs call' d a' T' act' rst'

      abbrev pub es : Expr-F Note (Note → Arg) Said → Said
      es = Turn.expr_step cases defs call d a T

      abbrev pub es' : Expr-F Note (Note → Arg) Said → Said
      es' = Turn.expr_step cases defs call' d a' T'

      abbrev pub Lefts : Form-F Note TwoF TwoS → Form-F Note (Note → Arg) Said
      Lefts = Related.lefts fs es fs' es' RelF SaidBelow

      abbrev pub Rights : Form-F Note TwoF TwoS → Form-F Note (Note → Arg) Said
      Rights = Related.rights fs es fs' es' RelF SaidBelow

      delay : (n : Note) (i : ℕ) → In i → (c c' : Option Cell) (r r' : Row Cell) → Below c c' → ((j : ℕ) → In j → Below (r j) (r' j))
          → Below (know (previous (Turn.on cases defs call d a T n.ck) (Turn.again_too cases defs call d a T rst n.restarts) i) (after_first c r))
          (know (previous (Turn.on cases defs call' d a' T' n.ck) (Turn.again_too cases defs call' d a' T' rst' n.restarts) i) (after_first c' r'))
      delay n i h c c' r r' p q = delay_below In down (Turn.on cases defs call d a T n.ck) (Turn.on cases defs call' d a' T' n.ck)
          (Turn.again_too cases defs call d a T rst n.restarts) (Turn.again_too cases defs call' d a' T' rst' n.restarts) (after_first c r) (after_first c' r') (on_below n.ck) (too_below rst rst' n.restarts rstb) i h p q

      call_layer : (n : Note) (x : ℕ) (args : List TwoS) (s t : Option Said) → EveryBelow s t
          → ArgIn In (Turn.called cases defs call d a T act rst n (Turn.head_of cases defs call d a T n.bound n.ck x (clocks_said (map {A = TwoS} {B = Said} (λ p. p.0) args))) (map {A = TwoS} {B = Said} (λ p. p.0) args) s)
          (Turn.called cases defs call' d a' T' act' rst' n (Turn.head_of cases defs call' d a' T' n.bound n.ck x (clocks_said (map {A = TwoS} {B = Said} (λ p. p.1) args))) (map {A = TwoS} {B = Said} (λ p. p.1) args) t)
      call_layer n x args s t q =
          let xs : List Said = map {A = TwoS} {B = Said} (λ p. p.0) args in
          let ys : List Said = map {A = TwoS} {B = Said} (λ p. p.1) args in
          called_below act act' rst rst' n (Turn.head_of cases defs call d a T n.bound n.ck x (clocks_said xs)) (Turn.head_of cases defs call' d a' T' n.bound n.ck x (clocks_said ys)) xs ys s t actb rstb
          (subst (λ cks. ArgIn In (Turn.head_of cases defs call d a T n.bound n.ck x (clocks_said xs)) (Turn.head_of cases defs call' d a' T' n.bound n.ck x cks)) (clocks_same xs ys (saids_two args))
          (head_below n.bound n.ck x (clocks_said xs)))
          (saids_two args) q

      pub layer : (y : Form-F Note TwoF TwoS) → RelF (fs (Lefts y)) (fs' (Rights y))
      layer (Form-F.Leaf l) n = λ i h. below_refl (Some (Present (v.Leaf l)))
      layer (Form-F.Case x) n = λ i h. below_refl (Some (Present (Choices.case_value n.bound)))
      layer (Form-F.Var x) n = used_below act act' rst rst' n n.bound x.0 actb rstb
      layer (Form-F.Last x) n = last_bound_below n.bound
      layer (Form-F.Asked x) n = λ i h. know_below (row_of (Turn.look cases defs call d a T n.bound x.0) i) (row_of (Turn.look cases defs call' d a' T' n.bound x.0) i)
          (λ c. Some (Present (v.Leaf (leaf.Bool (emitted c))))) (λ c. Some (Present (v.Leaf (leaf.Bool (emitted c)))))
          (row_below (Turn.look cases defs call d a T n.bound x.0) (Turn.look cases defs call' d a' T' n.bound x.0) (look_below n.bound x.0) i h) (λ c. below_refl (Some (Present (v.Leaf (leaf.Bool (emitted c))))))
      layer (Form-F.Op o args) n = λ i h. know_all_then i h (map {A = TwoS} {B = Said} (λ p. p.0) args) (map {A = TwoS} {B = Said} (λ p. p.1) args) (λ cs. Present (eval o (values_in cs))) (saids_two args)
      layer (Form-F.Tuple all) n = λ i h. know_all_then i h (map {A = TwoS} {B = Said} (λ p. p.0) all) (map {A = TwoS} {B = Said} (λ p. p.1) all) (λ cs. Present (tuple (values_in cs))) (saids_two all)
      layer (Form-F.Pre e) n = λ i h. delay n i h (Some (Present nil)) (Some (Present nil)) (row_of e.0.arg) (row_of e.1.arg) (below_refl (Some (Present nil))) (row_below e.0.arg e.1.arg e.2.1)
      layer (Form-F.Fby x y) n = λ i h. delay n i h (row_of x.0.arg i) (row_of x.1.arg i) (row_of y.0.arg) (row_of y.1.arg) (row_below x.0.arg x.1.arg x.2.1 i h) (row_below y.0.arg y.1.arg y.2.1)
      layer (Form-F.Init x y) n = λ i h. delay n i h (row_of x.0.arg i) (row_of x.1.arg i) (λ j. row_of y.0.arg i) (λ j. row_of y.1.arg i) (row_below x.0.arg x.1.arg x.2.1 i h) (λ j l. row_below y.0.arg y.1.arg y.2.1 i h)
      layer (Form-F.When e x k) n = row_below e.0.arg e.1.arg e.2.1
      layer (Form-F.Merge x choices) n = λ i h. know_below (row_of (Turn.look cases defs call d a T n.bound x.0) i) (row_of (Turn.look cases defs call' d a' T' n.bound x.0) i)
          (Turn.merged cases defs call d a T (in_choices {X = TwoS} {Y = Said} (λ p. p.0) choices) i) (Turn.merged cases defs call' d a' T' (in_choices {X = TwoS} {Y = Said} (λ p. p.1) choices) i)
          (row_below (Turn.look cases defs call d a T n.bound x.0) (Turn.look cases defs call' d a' T' n.bound x.0) (look_below n.bound x.0) i h)
          (λ c. merged_below (in_choices {X = TwoS} {Y = Said} (λ p. p.0) choices) (in_choices {X = TwoS} {Y = Said} (λ p. p.1) choices) (choices_two choices) i h (case_of (value_in c)))
      layer (Form-F.Call run head args None) n = call_layer n head.0 args None None tt
      layer (Form-F.Call run head args (Some e)) n = call_layer n head.0 args (Some e.0) (Some e.1) e.2

      pub es_below : (n : Note) (p : TwoF) → SaidBelow (es (record { note = n; form = p.0 })) (es' (record { note = n; form = p.1 }))
      es_below n p = (refl, on_clock_below n (p.0 n) (p.1 n) (p.2 n))

      said_below : (e : E) → SaidBelow (fold-Expr Note (Note → Arg) Said fs es e) (fold-Expr Note (Note → Arg) Said fs' es' e)
      said_below = related fs es fs' es' RelF SaidBelow layer es_below

    pub cell_below : (p : Place) (e : E) → RowIn In (Turn.cell cases defs call d a T p e) (Turn.cell cases defs call' d a' T' p e)
    cell_below p e = row_below
        (fold-Expr Note (Note → Arg) Said (Turn.form_step cases defs call d a T (Turn.active cases defs call d a T p) (Turn.again cases defs call d a T p)) (Turn.expr_step cases defs call d a T) e).arg
        (fold-Expr Note (Note → Arg) Said (Turn.form_step cases defs call' d a' T' (Turn.active cases defs call' d a' T' p) (Turn.again cases defs call' d a' T' p)) (Turn.expr_step cases defs call' d a' T') e).arg
        (said_below (Turn.active cases defs call d a T p) (Turn.active cases defs call' d a' T' p) (Turn.again cases defs call d a T p) (Turn.again cases defs call' d a' T' p) (active_below p) (again_below p) e).1

    whole_below : (k : ℕ) → RowIn In (Turn.whole cases defs call d a T k) (Turn.whole cases defs call' d a' T' k)
    whole_below k = cell_below (whole_of d k).place (whole_of d k).expr

    reach_case_below : (j : ℕ) (m m' : Option Reach) → Below m m' → (c : Cell) → Below (Choices.reach_case j m c) (Choices.reach_case j m' c)
    reach_case_below j m m' p (Chosen None restart) = below_refl (Some NoArm)
    reach_case_below j m m' p (Chosen (Some k) restart) = if_rel Below (Search.same_number k j) m m' (Some Elsewhere) (Some Elsewhere) p (below_refl (Some Elsewhere))
    reach_case_below j m m' p Absent = below_refl (Some Elsewhere)
    reach_case_below j m m' p Silent = below_refl (Some Elsewhere)
    reach_case_below j m m' p (Present w) = below_refl (Some Elsewhere)

    reach_below : (inner : List InnerArm) → RowIn In (Turn.reach cases defs call d a T inner) (Turn.reach cases defs call' d a' T' inner)
    reach_below [] = λ i h. below_refl (Some Here)
    reach_below (mj ∷ rest) = λ i h. know_below (T (key.Name mj.0) i) (T' (key.Name mj.0) i)
        (Choices.reach_case mj.1 (Turn.reach cases defs call d a T rest i)) (Choices.reach_case mj.1 (Turn.reach cases defs call' d a' T' rest i)) (tb (key.Name mj.0) i h)
        (reach_case_below mj.1 (Turn.reach cases defs call d a T rest i) (Turn.reach cases defs call' d a' T' rest i) (reach_below rest i h))

    signal_at_below : (x : ℕ) (o : Option ℕ) → RowIn In (Turn.signal_row_at cases defs call d a T x o) (Turn.signal_row_at cases defs call' d a' T' x o)
    signal_at_below x (Some k) = tb (key.Var k)
    signal_at_below x None = row_below (param_in x d.params a.args) (param_in x d.params a'.args) (param_below x d.params a.args a'.args ab.args)

    signal_below : (x : ℕ) (p : Place) → RowIn In (Turn.signal_row cases defs call d a T x p) (Turn.signal_row cases defs call' d a' T' x p)
    signal_below x p = signal_at_below x (signal_at d x (arms p))

    right_below : (x : ℕ) (place : Place) (r : Right) → RowIn In (Turn.right_cell cases defs call d a T x place r) (Turn.right_cell cases defs call' d a' T' x place r)
    right_below x place (rhs.Part p k) = λ i h. know_below (Turn.whole cases defs call d a T k i) (Turn.whole cases defs call' d a' T' k i)
        (λ c. Some (part p x c)) (λ c. Some (part p x c)) (whole_below k i h) (λ c. below_refl (Some (part p x c)))
    right_below x place (rhs.Whole k) = whole_below k
    right_below x place (rhs.Pattern y p) = λ i h. know_below (Turn.signal_row cases defs call d a T y place i) (Turn.signal_row cases defs call' d a' T' y place i)
        (λ c. Some (part p x c)) (λ c. Some (part p x c)) (signal_below y place i h) (λ c. below_refl (Some (part p x c)))

    by_reach_below : (c c' m m' : Option Cell) (signal : Bool) → Below c c' → Below m m' → (r : Reach) → Below (Choices.by_reach c m signal r) (Choices.by_reach c' m' signal r)
    by_reach_below c c' m m' signal p q Here = p
    by_reach_below c c' m m' signal p q Elsewhere = q
    by_reach_below c c' m m' signal p q NoArm = below_refl (Some (if signal then Silent else Present nil))

    by_sites_below : (w : Variable) (o o' : Row Cell) (all : List Site) → RowIn In o o' → RowIn In (Turn.by_sites cases defs call d a T w o all) (Turn.by_sites cases defs call' d a' T' w o' all)
    by_sites_below w o o' [] q = q
    by_sites_below w o o' (s ∷ rest) q = λ i h. know_below (Turn.reach cases defs call d a T s.inner i) (Turn.reach cases defs call' d a' T' s.inner i)
        (Choices.by_reach (Turn.right_cell cases defs call d a T w.name s.place s.right i) (Turn.by_sites cases defs call d a T w o rest i) w.signal)
        (Choices.by_reach (Turn.right_cell cases defs call' d a' T' w.name s.place s.right i) (Turn.by_sites cases defs call' d a' T' w o' rest i) w.signal)
        (reach_below s.inner i h)
        (by_reach_below (Turn.right_cell cases defs call d a T w.name s.place s.right i) (Turn.right_cell cases defs call' d a' T' w.name s.place s.right i)
        (Turn.by_sites cases defs call d a T w o rest i) (Turn.by_sites cases defs call' d a' T' w o' rest i) w.signal (right_below w.name s.place s.right i h) (by_sites_below w o o' rest q i h))

    otherwise_below : (x : ℕ) (w : Variable) → RowIn In (Turn.otherwise cases defs call d a T x w) (Turn.otherwise cases defs call' d a' T' x w)
    otherwise_below x w =
        let t : Bool = Search.lacks d (sites_of x d.places.sites) in
        if_rel (RowIn In) w.signal (λ j. Some Silent) (λ j. Some Silent)
        (if t then Turn.last cases defs call d a T x else nowhere) (if t then Turn.last cases defs call' d a' T' x else nowhere)
        (λ j h. below_refl (Some Silent))
        (if_rel (RowIn In) t (Turn.last cases defs call d a T x) (Turn.last cases defs call' d a' T' x) nowhere nowhere (last_below x) (λ i h. below_refl (nowhere i)))

    variable_below : (x : ℕ) (w : Option Variable) → RowIn In (Turn.variable_cell cases defs call d a T x w) (Turn.variable_cell cases defs call' d a' T' x w)
    variable_below x None = λ i h x e. e
    variable_below x (Some w) = λ i h. at_below (Turn.variable_here cases defs call d a T x i) (Turn.variable_here cases defs call' d a' T' x i)
        (Turn.by_sites cases defs call d a T w (Turn.otherwise cases defs call d a T x w) (sites_of x d.places.sites) i)
        (Turn.by_sites cases defs call' d a' T' w (Turn.otherwise cases defs call' d a' T' x w) (sites_of x d.places.sites) i)
        (variable_here_below x i h)
        (by_sites_below w (Turn.otherwise cases defs call d a T x w) (Turn.otherwise cases defs call' d a' T' x w) (sites_of x d.places.sites) (otherwise_below x w) i h)

    start_below : (s : Option Start) → RowIn In (Turn.start_cell cases defs call d a T s) (Turn.start_cell cases defs call' d a' T' s)
    start_below None = λ i h. below_refl (Some Absent)
    start_below (Some s) = whole_below s.right

    start_variable_below : (w : Option Variable) → RowIn In (Turn.start_of_variable cases defs call d a T w) (Turn.start_of_variable cases defs call' d a' T' w)
    start_variable_below None = λ i h x e. e
    start_variable_below (Some w) = start_below (start_of w d.places.starts)

    mode_on_below : (o : Option ClockTerm) (x : Option ℕ) (p : Place) → RowIn In (Turn.mode_on cases defs call d a T o x p) (Turn.mode_on cases defs call' d a' T' o x p)
    mode_on_below (Some ck) x p = on_below ck
    mode_on_below None (Some x) p = signal_here_below x (arms p)
    mode_on_below None None p = active_below p

    mode_below : (m : ℕ) (p : Place) → RowIn In (Turn.mode_here cases defs call d a T m p) (Turn.mode_here cases defs call' d a' T' m p)
    mode_below m p = mode_on_below (Search.mode_clock m d.places.exprs) (Search.tested_outside d m) p

    yes_or_below : (c m m' : Option Cell) → Below m m' → (t : Bool) → Below (Choices.yes_or c m t) (Choices.yes_or c m' t)
    yes_or_below c m m' p true = below_refl c
    yes_or_below c m m' p false = p

    first_true_below : (states : List (ℕ × List Transition)) (o : Option Cell) (gs : List Transition)
        → RowIn In (Turn.first_true cases defs call d a T states o gs) (Turn.first_true cases defs call' d a' T' states o gs)
    first_true_below states o [] = λ i h. below_refl o
    first_true_below states o (g ∷ gs) = λ i h. know_below (Turn.whole cases defs call d a T g.cond i) (Turn.whole cases defs call' d a' T' g.cond i)
        (λ c. Choices.yes_or (Some (Chosen (Some (Search.state_of g.target states 0)) g.restart)) (Turn.first_true cases defs call d a T states o gs i) (is_yes c))
        (λ c. Choices.yes_or (Some (Chosen (Some (Search.state_of g.target states 0)) g.restart)) (Turn.first_true cases defs call' d a' T' states o gs i) (is_yes c))
        (whole_below g.cond i h)
        (λ c. yes_or_below (Some (Chosen (Some (Search.state_of g.target states 0)) g.restart)) (Turn.first_true cases defs call d a T states o gs i) (Turn.first_true cases defs call' d a' T' states o gs i)
        (first_true_below states o gs i h) (is_yes c))

    choice_below : (keep : Bool) (states : List (ℕ × List Transition)) (i : ℕ) → In i → (c : Cell)
        → Below (Turn.choice cases defs call d a T keep states i c) (Turn.choice cases defs call' d a' T' keep states i c)
    choice_below keep states i h (Chosen (Some s) restart) = first_true_below states (Some (Chosen (Some s) (Search.and keep restart))) (Search.guards_of states s) i h
    choice_below keep states i h (Chosen None restart) = below_refl (Some (Chosen None restart))
    choice_below keep states i h Absent = below_refl (Some Absent)
    choice_below keep states i h Silent = below_refl (Some Silent)
    choice_below keep states i h (Present w) = below_refl (Some (Present w))

    emitted_below : (xs : List ℕ) (p : Place) (j : ℕ) → RowIn In (Turn.first_emitted cases defs call d a T xs p j) (Turn.first_emitted cases defs call' d a' T' xs p j)
    emitted_below [] p j = λ i h. below_refl (Some (Chosen (Some j) false))
    emitted_below (x ∷ xs) p j = λ i h. know_below (Turn.signal_row cases defs call d a T x p i) (Turn.signal_row cases defs call' d a' T' x p i)
        (λ c. Choices.yes_or (Some (Chosen (Some j) false)) (Turn.first_emitted cases defs call d a T xs p (suc j) i) (emitted c))
        (λ c. Choices.yes_or (Some (Chosen (Some j) false)) (Turn.first_emitted cases defs call' d a' T' xs p (suc j) i) (emitted c))
        (signal_below x p i h)
        (λ c. yes_or_below (Some (Chosen (Some j) false)) (Turn.first_emitted cases defs call d a T xs p (suc j) i) (Turn.first_emitted cases defs call' d a' T' xs p (suc j) i) (emitted_below xs p (suc j) i h) (emitted c))

    present_below : (xs : List ℕ) (p : Place) → RowIn In (Turn.present_here cases defs call d a T xs p) (Turn.present_here cases defs call' d a' T' xs p)
    present_below [] p = active_below p
    present_below (x ∷ xs) p = signal_here_below x (arms p)

    name_below : (m : ℕ) (n : Option Named) → RowIn In (Turn.name_cell cases defs call d a T m n) (Turn.name_cell cases defs call' d a' T' m n)
    name_below m None = λ i h x e. e
    name_below m (Some (named.Clock x)) = λ i h. below_refl (Some Absent)
    name_below m (Some (named.Match k all p)) =
        let ck : ClockTerm = (whole_of d k).expr.note.ck in
        λ i h. at_below (Turn.on cases defs call d a T ck i) (Turn.on cases defs call' d a' T' ck i)
        (know (Turn.whole cases defs call d a T k i) (λ c. Some (Chosen (Choices.chosen_arm all (value_in c)) false)))
        (know (Turn.whole cases defs call' d a' T' k i) (λ c. Some (Chosen (Choices.chosen_arm all (value_in c)) false)))
        (on_below ck i h)
        (know_below (Turn.whole cases defs call d a T k i) (Turn.whole cases defs call' d a' T' k i) (λ c. Some (Chosen (Choices.chosen_arm all (value_in c)) false)) (λ c. Some (Chosen (Choices.chosen_arm all (value_in c)) false))
        (whole_below k i h) (λ c. below_refl (Some (Chosen (Choices.chosen_arm all (value_in c)) false))))
    name_below m (Some (named.Present xs p)) = λ i h. at_below (Turn.present_here cases defs call d a T xs p i) (Turn.present_here cases defs call' d a' T' xs p i)
        (Turn.first_emitted cases defs call d a T xs p 0 i) (Turn.first_emitted cases defs call' d a' T' xs p 0 i) (present_below xs p i h) (emitted_below xs p 0 i h)
    name_below m (Some (named.Active states p)) = λ i h. at_below (Turn.mode_here cases defs call d a T m p i) (Turn.mode_here cases defs call' d a' T' m p i)
        (know (T (key.Name (m + 1)) i) (Turn.choice cases defs call d a T true states i)) (know (T' (key.Name (m + 1)) i) (Turn.choice cases defs call' d a' T' true states i))
        (mode_below m p i h)
        (know_below (T (key.Name (m + 1)) i) (T' (key.Name (m + 1)) i) (Turn.choice cases defs call d a T true states i) (Turn.choice cases defs call' d a' T' true states i)
        (tb (key.Name (m + 1)) i h) (choice_below true states i h))
    name_below m (Some (named.Tested states p)) = λ i h. at_below (Turn.mode_here cases defs call d a T (m - 1) p i) (Turn.mode_here cases defs call' d a' T' (m - 1) p i)
        (know (previous (Turn.mode_here cases defs call d a T (m - 1) p) (Turn.again cases defs call d a T p) i) (Turn.after_state cases defs call d a T (Turn.choice cases defs call d a T false states) (T (key.Name (m - 1)))))
        (know (previous (Turn.mode_here cases defs call' d a' T' (m - 1) p) (Turn.again cases defs call' d a' T' p) i) (Turn.after_state cases defs call' d a' T' (Turn.choice cases defs call' d a' T' false states) (T' (key.Name (m - 1)))))
        (mode_below (m - 1) p i h)
        (delay_below In down (Turn.mode_here cases defs call d a T (m - 1) p) (Turn.mode_here cases defs call' d a' T' (m - 1) p) (Turn.again cases defs call d a T p) (Turn.again cases defs call' d a' T' p)
        (Turn.after_state cases defs call d a T (Turn.choice cases defs call d a T false states) (T (key.Name (m - 1)))) (Turn.after_state cases defs call' d a' T' (Turn.choice cases defs call' d a' T' false states) (T' (key.Name (m - 1))))
        (mode_below (m - 1) p) (again_below p) i h (below_refl (Some (Chosen (Some 0) false)))
        (λ j l. know_below (T (key.Name (m - 1)) j) (T' (key.Name (m - 1)) j) (Turn.choice cases defs call d a T false states j) (Turn.choice cases defs call' d a' T' false states j)
        (tb (key.Name (m - 1)) j l) (choice_below false states j l)))

    reset_below : (o : Option ℕ) → RowIn In (Turn.reset_cell cases defs call d a T o) (Turn.reset_cell cases defs call' d a' T' o)
    reset_below None = λ i h x e. e
    reset_below (Some k) = whole_below k

    pub turn_below : TableIn In (Turn.turn cases defs call d a T) (Turn.turn cases defs call' d a' T')
    turn_below (key.Var x) = variable_below x (nth d.places.vars x)
    turn_below (key.Start x) = start_variable_below (nth d.places.vars x)
    turn_below (key.Name m) = name_below m (nth d.places.names (m - length d.params))
    turn_below (key.Reset r) = reset_below (nth d.places.resets r)

    pub answer_below : RowIn In (Turn.answer cases defs call d a T) (Turn.answer cases defs call' d a' T')
    answer_below = cell_below [] d.result
