-- What the model reads of a body that names what is there is there.
use Rattle.std.specs.Prelude.{◌≡◌, refl, ℕ, zero, suc, ◌+◌, ◌-◌, ◌==◌, ◌≤◌, Bool, true, false, List, [], ◌∷◌, ◌++◌, map, length, Option, Some, None, if◌then◌else◌, nat_lt, ◌&&◌}
use Rattle.std.proofs.Common.{ap, sym, ◌∙◌, subst, inl, inr, arith}
use Rattle.std.proofs.lemmas.Bool.{cases_lt, eq-eqb, lt-ltb}
use Rattle.ls_value.specs.declared.leaf.Leaf.TheVariants as leaf
use Rattle.ls_ast.specs.declared.tree.Case.{Case}
use Rattle.ls_ast.specs.declared.tree.Expr.{Expr, Expr-F, fold_out-Expr}
use Rattle.ls_ast.specs.declared.tree.Form.{fold-roll-Form}
use Rattle.ls_ast.specs.declared.tree.Form.TheOpen.{Form-F}
use Rattle.ls_ast.specs.declared.tree.Form.TheVariants as form
use Rattle.ls_ast.specs.declared.tree.Pat.{Pat}
use Rattle.ls_terms.specs.declared.clocks.ClockTerm.{ClockTerm, out-ClockTerm, fold_out-ClockTerm, fold-roll-ClockTerm, map-ClockTerm}
use Rattle.ls_terms.specs.declared.clocks.ClockTerm.TheVariants as ct
use Rattle.ls_terms.specs.declared.clocks.ClockTerm.TheOpen.{ClockTerm-F}
use Rattle.ls_sig.specs.declared.binder.Binder.{Binder}
use Rattle.ls_sig.specs.declared.binder.Binder.TheVariants as b
use Rattle.ls_sig.specs.declared.binder.Note.{Note}
use Rattle.ls_places.specs.Clocks.{bare, bare_step, below, below_open, clock_depth, clocks_in, clocks_form, clocks_expr, noted, or_else, choice_parts}
use Rattle.ls_places.specs.Patterns.{joined, has_name, names_of}
use Rattle.ls_places.specs.Places.{Place, InnerArm, arms}
use Rattle.ls_places.specs.Search.{nth, all_clocks, arms_within, lacks, mode_clock, never, param_clock, count_up, signal_arms, signal_at, signal_in, signal_list, sites_of, starts_with, start_of, tested_outside, whole_at, whole_of}
use Rattle.ls_places.specs.declared.places.Frame.TheVariants as frame
use Rattle.ls_places.specs.declared.places.Named.{Named}
use Rattle.ls_places.specs.declared.places.Named.TheVariants as named
use Rattle.ls_places.specs.declared.places.Right.{Right}
use Rattle.ls_places.specs.declared.places.Right.TheVariants as rhs
use Rattle.ls_places.specs.declared.places.Site.{Site}
use Rattle.ls_places.specs.declared.places.Start.{Start}
use Rattle.ls_places.specs.declared.places.Transition.{Transition}
use Rattle.ls_places.specs.declared.places.Variable.{Variable}
use Rattle.ls_places.specs.declared.places.Whole.{Whole}
use Rattle.ls_places.specs.declared.definition.Key.{Key}
use Rattle.ls_places.specs.declared.definition.Key.TheVariants as key
use Rattle.ls_places.specs.declared.definition.Definition.{Definition}
use Rattle.tree_notes.specs.Each.{Each}
use Rattle.tree_notes.specs.Order as Or
use Rattle.tree_notes.proofs.Related.{related, lefts, rights}
use Rattle.kahn_model.specs.Causality.{InTable}
use Rattle.kahn_model.specs.Fullness.{All, HasKey}
use Rattle.kahn_model.specs.Reads as R
use Rattle.kahn_model.specs.Reads.{Shape, Needs, Formed, Reading, nothing, now_only, together, earlier, all_needs, every_needs, clocks_read, around_keys, arm_keys, clock_keys, bound_keys, start_keys, name_key}
use Rattle.kahn_model.specs.Table.{row_keys, same_key}
use Rattle.causality_links.specs.Close.{Scoped}
use Rattle.causality_links.proofs.Causes.{block_name}
use Rattle.causality_premises.specs.Premises.{There, AllThere, ClockThere, BoundThere, NoteThere, NamesThere, WholeThere, SiteThere, VariableThere, Ranges}

each_left : {A : Type 0} (Q : A → Type 0) (xs ys : List A) → Each Q (xs ++ ys) → Each Q xs
each_left Q [] ys a = tt
each_left Q (x ∷ xs) ys a = (a.0, each_left Q xs ys a.1)

each_right : {A : Type 0} (Q : A → Type 0) (xs ys : List A) → Each Q (xs ++ ys) → Each Q ys
each_right Q [] ys a = a
each_right Q (x ∷ xs) ys a = each_right Q xs ys a.1

each_both : {A : Type 0} (Q : A → Type 0) (xs ys : List A) → Each Q xs → Each Q ys → Each Q (xs ++ ys)
each_both Q [] ys a b = b
each_both Q (x ∷ xs) ys a b = (a.0, each_both Q xs ys a.1 b)

-- rows by number

pub same_number : (x : ℕ) → x == x ≡ true
same_number x = eq-eqb x x refl

pub has_left : (k : Key) (xs ys : List Key) → HasKey k xs → HasKey k (xs ++ ys)
has_left k [] ys h = absurd h
has_left k (x ∷ xs) ys (inl e) = inl e
has_left k (x ∷ xs) ys (inr h) = inr (has_left k xs ys h)

pub has_right : (k : Key) (xs ys : List Key) → HasKey k ys → HasKey k (xs ++ ys)
has_right k [] ys h = h
has_right k (x ∷ xs) ys h = inr (has_right k xs ys h)

pub keys_in : (f : ℕ → Key) → ((x : ℕ) → same_key (f x) (f x) ≡ true) → (n i k : ℕ) → i ≤ k → suc k ≤ i + n → HasKey (f k) (map f (count_up n i))
keys_in f self zero i k low high = absurd (omega (arith, low, high))
keys_in f self (suc n) i k low high = elim (cases_lt i k) [
  | inl l ↦ inr (keys_in f self n (suc i) k (omega (arith, l)) (omega (arith, high)))
  | inr g ↦ let e : i ≡ k = omega (arith, low, g) in inl (subst (λ z. same_key (f z) (f k) ≡ true) (sym e) (self k))
]

nth_below : {X : Type 0} (xs : List X) (k : ℕ) (x : X) → nth xs k ≡ Some x → suc k ≤ length xs
nth_below [] k x e = absurd (cc)
nth_below (y ∷ xs) zero x e = omega arith
nth_below (y ∷ xs) (suc k) x e = let h = nth_below xs k x e in omega (arith, h)

pub not_below : (m n : ℕ) → nat_lt m n ≡ false → n ≤ m
not_below m n e = elim (cases_lt m n) [
  | inl l ↦ let h = lt-ltb m n l in absurd (cc)
  | inr g ↦ omega (arith, g)
]

module _ (d : Definition) (shapes : List Shape) where
  abbrev A : List Key → Type 0
  A = AllThere d shapes

  abbrev In : Needs → Type 0
  In = InTable d

  abbrev N : Note → Type 0
  N = NoteThere d shapes

  abbrev K : ClockTerm → Type 0
  K = ClockThere d shapes

  all_both : (xs ys : List Key) → A xs → A ys → A (xs ++ ys)
  all_both [] ys a b = b
  all_both (x ∷ xs) ys a b = (a.0, all_both xs ys a.1 b)

  all_right : (xs ys : List Key) → A (xs ++ ys) → A ys
  all_right [] ys a = a
  all_right (x ∷ xs) ys a = all_right xs ys a.1

  none_in : In nothing
  none_in = record { now = tt; before = tt }

  now_in : (ks : List Key) → A ks → In (now_only ks)
  now_in ks a = record { now = a; before = tt }

  both_in : (r s : Needs) → In r → In s → In (together r s)
  both_in r s a b = record { now = all_both r.now s.now a.now b.now; before = all_both r.before s.before a.before b.before }

  earlier_in : (r : Needs) → In r → In (earlier r)
  earlier_in r a = record { now = tt; before = all_both r.now r.before a.now a.before }

  -- clocks

  bare_layer : (ck : ClockTerm) (x : ClockTerm-F ClockTerm) → A (R.clock_step d shapes (map-ClockTerm ClockTerm (List Key) (clock_keys d shapes) x)) → K ck → K (bare_step ck x)
  bare_layer ck (ClockTerm-F.On inner m k) a c = all_right (R.case_keys d shapes m) (clock_keys d shapes inner) a
  bare_layer ck (ClockTerm-F.Var v) a c = c
  bare_layer ck ClockTerm-F.Pointwise a c = c
  bare_layer ck (ClockTerm-F.Arrow cks t) a c = c

  opened : (ck : ClockTerm) → K ck → A (R.clock_step d shapes (map-ClockTerm ClockTerm (List Key) (clock_keys d shapes) (out-ClockTerm ck)))
  opened ck c = subst A (fold_out-ClockTerm (List Key) (R.clock_step d shapes) ck) c

  bare_there : (n : ℕ) (ck : ClockTerm) → K ck → K (bare n ck)
  bare_there zero ck c = c
  bare_there (suc n) ck c = bare_there n (bare_step ck (out-ClockTerm ck)) (bare_layer ck (out-ClockTerm ck) (opened ck c) c)

  abbrev SomeThere : Option ClockTerm → Type 0
  SomeThere None = Unit {0}
  SomeThere (Some ck) = K ck

  some_if : (c : Bool) (ck : ClockTerm) (o : Option ClockTerm) → K ck → SomeThere o → SomeThere (if c then Some ck else o)
  some_if true ck o a s = a
  some_if false ck o a s = s

  below_layer : (m : ℕ) (go : ClockTerm → Option ClockTerm) → ((t : ClockTerm) → K t → SomeThere (go t)) → (x : ClockTerm-F ClockTerm) → A (R.clock_step d shapes (map-ClockTerm ClockTerm (List Key) (clock_keys d shapes) x)) → SomeThere (below_open m go x)
  below_layer m go h (ClockTerm-F.On ck n k) a = let c = all_right (R.case_keys d shapes n) (clock_keys d shapes ck) a in some_if (n == m) ck (go ck) c (h ck c)
  below_layer m go h (ClockTerm-F.Var v) a = tt
  below_layer m go h ClockTerm-F.Pointwise a = tt
  below_layer m go h (ClockTerm-F.Arrow cks t) a = tt

  below_there : (n m : ℕ) (ck : ClockTerm) → K ck → SomeThere (below n m ck)
  below_there zero m ck c = tt
  below_there (suc n) m ck c = below_layer m (below n m) (below_there n m) (out-ClockTerm ck) (opened ck c)

  or_there : (o q : Option ClockTerm) → SomeThere o → SomeThere q → SomeThere (or_else o q)
  or_there None q a s = s
  or_there (Some ck) q a s = a

  noted_there : (m : ℕ) (cks : List ClockTerm) → Each K cks → SomeThere (noted m cks)
  noted_there m [] a = tt
  noted_there m (ck ∷ cks) a = or_there (below (clock_depth ck) m ck) (noted m cks) (below_there (clock_depth ck) m ck a.0) (noted_there m cks a.1)

  or_mode : (m : ℕ) (cks : List ClockTerm) → Each K cks → SomeThere (or_else (noted m cks) (noted (m + 1) cks))
  or_mode m cks a = or_there (noted m cks) (noted (m + 1) cks) (noted_there m cks a) (noted_there (m + 1) cks a)

  clocks_keys_there : (cks : List ClockTerm) → Each K cks → A (R.clocks_keys d shapes cks)
  clocks_keys_there [] a = tt
  clocks_keys_there (ck ∷ cks) a = all_both (clock_keys d shapes ck) (R.clocks_keys d shapes cks) a.0 (clocks_keys_there cks a.1)

  -- the clocks of an expression are those of its notes

  abbrev L : Type 0
  L = List Note

  abbrev W : Type 0
  W = List ClockTerm

  abbrev CR : W → L → Type 0
  CR cks ns = Each N ns → Each K cks

  abbrev CTwo : Type 0
  CTwo = (a : W) × (c : L) × CR a c

  abbrev c1 : List CTwo → List W
  c1 = map {A = CTwo} {B = W} (λ p. p.0)

  abbrev n1 : List CTwo → List L
  n1 = map {A = CTwo} {B = L} (λ p. p.1)

  clocks_all : (ps : List CTwo) → Each N (Or.joined (n1 ps)) → Each K (joined (c1 ps))
  clocks_all [] h = tt
  clocks_all (p ∷ ps) h = each_both K p.0 (joined (c1 ps)) (p.2 (each_left N p.1 (Or.joined (n1 ps)) h)) (clocks_all ps (each_right N p.1 (Or.joined (n1 ps)) h))

  clocks_choices : (ps : List (Case × CTwo)) → Each N (Or.choices_joined (map {A = Case × CTwo} {B = Case × L} (λ c. (c.0, c.1.1)) ps)) → Each K (joined (choice_parts (map {A = Case × CTwo} {B = Case × W} (λ c. (c.0, c.1.0)) ps)))
  clocks_choices [] h = tt
  clocks_choices (p ∷ ps) h =
      let ns = Or.choices_joined (map {A = Case × CTwo} {B = Case × L} (λ c. (c.0, c.1.1)) ps) in
      each_both K p.1.0 (joined (choice_parts (map {A = Case × CTwo} {B = Case × W} (λ c. (c.0, c.1.0)) ps))) (p.1.2 (each_left N p.1.1 ns h)) (clocks_choices ps (each_right N p.1.1 ns h))

  joined_both : (xs ys : List W) → Each K (joined xs) → Each K (joined ys) → Each K (joined (xs ++ ys))
  joined_both [] ys a c = c
  joined_both (x ∷ xs) ys a c = each_both K x (joined (xs ++ ys)) (each_left K x (joined xs) a) (joined_both xs ys (each_right K x (joined xs) a) c)

  one_clock : (p : CTwo) → Each N p.1 → Each K (p.0 ++ [])
  one_clock p h = each_both K p.0 [] (p.2 h) tt

  two_clocks : (p q : CTwo) → Each N (p.1 ++ q.1) → Each K (p.0 ++ (q.0 ++ []))
  two_clocks p q h = each_both K p.0 (q.0 ++ []) (p.2 (each_left N p.1 q.1 h)) (one_clock q (each_right N p.1 q.1 h))

  clock_layer : (y : Form-F Note CTwo CTwo) → CR (clocks_form (lefts clocks_form clocks_expr (Or.form_notes Note) (Or.expr_notes Note) CR CR y)) (Or.form_notes Note (rights clocks_form clocks_expr (Or.form_notes Note) (Or.expr_notes Note) CR CR y))
  clock_layer (Form-F.Leaf l) h = tt
  clock_layer (Form-F.Case x) h = tt
  clock_layer (Form-F.Var x) h = tt
  clock_layer (Form-F.Last x) h = tt
  clock_layer (Form-F.Asked x) h = tt
  clock_layer (Form-F.Op o ps) h = clocks_all ps h
  clock_layer (Form-F.Tuple ps) h = clocks_all ps h
  clock_layer (Form-F.Pre p) h = one_clock p h
  clock_layer (Form-F.Fby p q) h = two_clocks p q h
  clock_layer (Form-F.Init p q) h = two_clocks p q h
  clock_layer (Form-F.When p x c) h = one_clock p h
  clock_layer (Form-F.Merge x ps) h = clocks_choices ps h
  clock_layer (Form-F.Call run x ps None) h = joined_both (c1 ps) [] (clocks_all ps (each_left N (Or.joined (n1 ps)) [] h)) tt
  clock_layer (Form-F.Call run x ps (Some p)) h = joined_both (c1 ps) (p.0 ∷ []) (clocks_all ps (each_left N (Or.joined (n1 ps)) p.1 h)) (one_clock p (each_right N (Or.joined (n1 ps)) p.1 h))

  clocks_notes : (e : Expr Note) → Each N (Or.notes Note e) → Each K (clocks_in e)
  clocks_notes = related clocks_form clocks_expr (Or.form_notes Note) (Or.expr_notes Note) CR CR clock_layer (λ n p h. (h.0.clock, p.2 h.1))

  -- places

  pub arms_there : (p : Place) → A (around_keys p) → A (arm_keys (arms p))
  arms_there [] a = tt
  arms_there (frame.Reset r ∷ p) a = arms_there p a.1
  arms_there (frame.Arm m j ∷ p) a = (a.0, arms_there p a.1)

  within_there : (l p : List InnerArm) → A (arm_keys p) → A (arm_keys (arms_within l p))
  within_there [] p a = a
  within_there (x ∷ l) [] a = tt
  within_there (x ∷ l) (c ∷ p) a = within_there l p a.1

  module _ (r : Ranges d shapes) where
    -- items by number

    abbrev Maybe : {X : Type 0} → (X → Type 0) → Option X → Type 0
    Maybe Q None = Unit {0}
    Maybe Q (Some x) = Q x

    each_nth : {X : Type 0} (Q : X → Type 0) (xs : List X) (k : ℕ) → Each Q xs → Maybe Q (nth xs k)
    each_nth Q [] k a = tt
    each_nth Q (x ∷ xs) zero a = a.0
    each_nth Q (x ∷ xs) (suc k) a = each_nth Q xs k a.1

    -- what stands where there is no expression

    never_notes : Or.notes Note never ≡ never.note ∷ []
    never_notes =
        fold_out-Expr Note L L (Or.form_notes Note) (Or.expr_notes Note) never
        ∙ ap (λ z. never.note ∷ z) (ap (Or.notes_form Note) (sym (form.rolls-Leaf leaf.Nil)) ∙ fold-roll-Form Note L L (Or.form_notes Note) (Or.expr_notes Note) (Form-F.Leaf leaf.Nil))

    pointwise_there : K never.note.ck
    pointwise_there = subst A (sym (ap (clock_keys d shapes) (sym ct.rolls-Pointwise) ∙ fold-roll-ClockTerm (List Key) (R.clock_step d shapes) ClockTerm-F.Pointwise)) tt

    never_there : Each N (Or.notes Note never)
    never_there = subst (Each N) (sym never_notes) (record { clock = pointwise_there; bound = tt; restarts = tt }, tt)

    abbrev WT : Whole Note → Type 0
    WT = WholeThere d shapes

    whole_there : (xs : List (Whole Note)) (k : ℕ) → Each WT xs → WT (whole_at xs k)
    whole_there [] k a = record { place = tt; notes = never_there }
    whole_there (x ∷ xs) zero a = a.0
    whole_there (x ∷ xs) (suc k) a = whole_there xs k a.1

    note_there : (e : Expr Note) → Each N (Or.notes Note e) → N e.note
    note_there e h = (subst (Each N) (fold_out-Expr Note L L (Or.form_notes Note) (Or.expr_notes Note) e) h).0

    whole_clock : (k : ℕ) → K (whole_of d k).expr.note.ck
    whole_clock k = (note_there (whole_of d k).expr (whole_there d.places.exprs k r.exprs).notes).clock

    -- variables

    abbrev ST : Site → Type 0
    ST = SiteThere d shapes

    site_if : (c : Bool) (s : Site) (ss : List Site) → ST s → Each ST ss → Each ST (if c then s ∷ ss else ss)
    site_if true s ss a h = (a, h)
    site_if false s ss a h = h

    sites_there : (x : ℕ) (ss : List Site) → Each ST ss → Each ST (sites_of x ss)
    sites_there x [] h = tt
    sites_there x (s ∷ ss) h = site_if (has_name x s.vars) s (sites_of x ss) h.0 (sites_there x ss h.1)

    right_clock : (s : Site) (q : Right) → ST s → A (R.right_clock_keys d shapes s q)
    right_clock s (rhs.Part p k) h = bare_there (length s.inner) (whole_of d k).expr.note.ck (whole_clock k)
    right_clock s (rhs.Whole k) h = bare_there (length s.inner) (whole_of d k).expr.note.ck (whole_clock k)
    right_clock s (rhs.Pattern x p) h = arms_there s.place h.place

    site_clock : (o : Option Site) → Maybe ST o → A (R.site_clock_keys d shapes o)
    site_clock None h = tt
    site_clock (Some s) h = right_clock s s.right h

    variable_clock : (x : ℕ) → A (R.variable_clock_keys d shapes x)
    variable_clock x = site_clock (nth (sites_of x d.places.sites) 0) (each_nth ST (sites_of x d.places.sites) 0 (sites_there x d.places.sites r.sites))

    start_there : (x : ℕ) (o : Option Start) → There d shapes (key.Start x) → A (start_keys x o)
    start_there x None h = tt
    start_there x (Some s) h = (h, tt)

    last_of : (x : ℕ) (o : Option Variable) → Maybe (VariableThere d shapes) o → There d shapes (key.Var x) → There d shapes (key.Start x) → In (R.last_needs_of d shapes x o)
    last_of x None h v s = none_in
    last_of x (Some w) h v s = record {
      now = all_both (around_keys w.place) (start_keys x (start_of w d.places.starts)) h (start_there x (start_of w d.places.starts) s);
      before = (v, variable_clock x);
    }

    -- expressions

    bound_there : (z : Binder) → BoundThere d shapes z → A (bound_keys z)
    bound_there (b.Var k) h = (h.0, tt)
    bound_there b.Nothing h = tt
    bound_there (b.Def k) h = tt
    bound_there (b.Param k) h = tt
    bound_there (b.Case e k) h = tt

    last_there : (z : Binder) → BoundThere d shapes z → In (R.last_needs d shapes z)
    last_there (b.Var k) h = last_of k (nth d.places.vars k) (each_nth (VariableThere d shapes) d.places.vars k r.vars) h.0 h.1
    last_there b.Nothing h = none_in
    last_there (b.Def k) h = none_in
    last_there (b.Param k) h = none_in
    last_there (b.Case e k) h = none_in

    restarts_there : (xs : List ℕ) → Each (λ x. There d shapes (key.Var x)) xs → A (R.restart_keys d shapes xs)
    restarts_there [] h = tt
    restarts_there (x ∷ xs) h = (h.0, restarts_there xs h.1)

    abbrev s : Form-F Note (Note → Formed) Reading → Note → Formed
    s = R.form_reading d shapes

    abbrev s' : Expr-F Note (Note → Formed) Reading → Reading
    s' = R.expr_reading d shapes

    abbrev t : Form-F Note L L → L
    t = Or.form_notes Note

    abbrev t' : Expr-F Note L L → L
    t' = Or.expr_notes Note

    abbrev RF : (Note → Formed) → L → Type 0
    RF f ns = (n : Note) → N n → Each N ns → In (f n).needs

    pub record Read (q : Reading) : Type 0 where
      pub needs : In q.needs
      pub clock : K q.note.ck

    abbrev RE : Reading → L → Type 0
    RE q ns = Each N ns → Read q

    abbrev TF : Type 0
    TF = (f : Note → Formed) × (ns : L) × RF f ns

    abbrev T : Type 0
    T = (q : Reading) × (ns : L) × RE q ns

    abbrev qs : List T → List Reading
    qs = map {A = T} {B = Reading} (λ p. p.0)

    abbrev nss : List T → List L
    nss = map {A = T} {B = L} (λ p. p.1)

    all_in : (ps : List T) → Each N (Or.joined (nss ps)) → In (all_needs (qs ps))
    all_in [] h = none_in
    all_in (p ∷ ps) h = both_in p.0.needs (all_needs (qs ps)) (p.2 (each_left N p.1 (Or.joined (nss ps)) h)).needs (all_in ps (each_right N p.1 (Or.joined (nss ps)) h))

    all_clock : (ps : List T) → Each N (Or.joined (nss ps)) → Each K (clocks_read (qs ps))
    all_clock [] h = tt
    all_clock (p ∷ ps) h = ((p.2 (each_left N p.1 (Or.joined (nss ps)) h)).clock, all_clock ps (each_right N p.1 (Or.joined (nss ps)) h))

    choices_in : (ps : List (Case × T)) → Each N (Or.choices_joined (map {A = Case × T} {B = Case × L} (λ c. (c.0, c.1.1)) ps)) → In (all_needs (choice_parts (map {A = Case × T} {B = Case × Reading} (λ c. (c.0, c.1.0)) ps)))
    choices_in [] h = none_in
    choices_in (p ∷ ps) h =
        let ns = Or.choices_joined (map {A = Case × T} {B = Case × L} (λ c. (c.0, c.1.1)) ps) in
        both_in p.1.0.needs (all_needs (choice_parts (map {A = Case × T} {B = Case × Reading} (λ c. (c.0, c.1.0)) ps))) (p.1.2 (each_left N p.1.1 ns h)).needs (choices_in ps (each_right N p.1.1 ns h))

    abbrev reading_if : Option T → Option Reading
    reading_if None = None
    reading_if (Some p) = Some p.0

    abbrev notes_if : Option T → L
    notes_if None = []
    notes_if (Some p) = p.1

    every_in : (o : Option T) → Each N (notes_if o) → In (every_needs (reading_if o))
    every_in None h = none_in
    every_in (Some p) h = (p.2 h).needs

    called_in : (n : Note) (z : Binder) (x : ℕ) (ps : List T) (o : Option T) → N n → BoundThere d shapes z → Each N (Or.joined (nss ps)) → Each N (notes_if o) → In (R.called d shapes n z x (qs ps) (reading_if o)).needs
    called_in n z x ps o here bd h g =
        let cks = clocks_read (qs ps) ++ n.ck ∷ [] in
        let more = together (all_needs (qs ps)) (every_needs (reading_if o)) in
        let m = both_in (all_needs (qs ps)) (every_needs (reading_if o)) (all_in ps h) (every_in o g) in
        record {
          now = all_both (bound_keys z ++ R.clocks_keys d shapes cks) more.now (all_both (bound_keys z) (R.clocks_keys d shapes cks) (bound_there z bd) (clocks_keys_there cks (each_both K (clocks_read (qs ps)) (n.ck ∷ []) (all_clock ps h) (here.clock, tt)))) m.now;
          before = m.before;
        }

    used_in : (n : Note) (z : Binder) (x : ℕ) → N n → BoundThere d shapes z → In (R.used d shapes n z x).needs
    used_in n (b.Def k) x here h = called_in n (b.Def k) x [] None here h tt tt
    used_in n (b.Var k) x here h = now_in (bound_keys (b.Var k)) (bound_there (b.Var k) h)
    used_in n b.Nothing x here h = now_in [] tt
    used_in n (b.Param k) x here h = now_in [] tt
    used_in n (b.Case e k) x here h = now_in [] tt

    delayed_in : (n : Note) (q : Needs) → N n → In q → In (R.delayed d shapes n q)
    delayed_in n q here h = both_in (now_only (R.restart_keys d shapes n.restarts)) q (now_in (R.restart_keys d shapes n.restarts) (restarts_there n.restarts here.restarts)) h

    layer : (y : Form-F Note TF T) → RF (s (lefts s s' t t' RF RE y)) (t (rights s s' t t' RF RE y))
    layer (Form-F.Leaf l) n here h = none_in
    layer (Form-F.Case x) n here h = none_in
    layer (Form-F.Var x) n here h = used_in n n.bound x.0 here here.bound
    layer (Form-F.Last x) n here h = last_there n.bound here.bound
    layer (Form-F.Asked x) n here h = now_in (bound_keys n.bound) (bound_there n.bound here.bound)
    layer (Form-F.Op o ps) n here h = all_in ps h
    layer (Form-F.Tuple ps) n here h = all_in ps h
    layer (Form-F.Pre p) n here h = delayed_in n (earlier p.0.needs) here (earlier_in p.0.needs (p.2 h).needs)
    layer (Form-F.Fby p q) n here h =
        delayed_in n (together p.0.needs (earlier q.0.needs)) here (both_in p.0.needs (earlier q.0.needs) (p.2 (each_left N p.1 q.1 h)).needs (earlier_in q.0.needs (q.2 (each_right N p.1 q.1 h)).needs))
    layer (Form-F.Init p q) n here h = delayed_in n (together p.0.needs q.0.needs) here (both_in p.0.needs q.0.needs (p.2 (each_left N p.1 q.1 h)).needs (q.2 (each_right N p.1 q.1 h)).needs)
    layer (Form-F.When p x c) n here h = (p.2 h).needs
    layer (Form-F.Merge x ps) n here h =
        both_in (now_only (bound_keys n.bound)) (all_needs (choice_parts (map {A = Case × T} {B = Case × Reading} (λ c. (c.0, c.1.0)) ps))) (now_in (bound_keys n.bound) (bound_there n.bound here.bound)) (choices_in ps h)
    layer (Form-F.Call run x ps None) n here h = called_in n n.bound x.0 ps None here here.bound (each_left N (Or.joined (nss ps)) [] h) tt
    layer (Form-F.Call run x ps (Some p)) n here h = called_in n n.bound x.0 ps (Some p) here here.bound (each_left N (Or.joined (nss ps)) p.1 h) (each_right N (Or.joined (nss ps)) p.1 h)

    at_expr : (n : Note) (p : TF) → RE (s' (record { note = n; form = p.0 })) (t' (record { note = n; form = p.1 }))
    at_expr n p h = record { needs = both_in (now_only (clock_keys d shapes n.ck)) (p.0 n).needs (now_in (clock_keys d shapes n.ck) h.0.clock) (p.2 n h.0 h.1); clock = h.0.clock }

    read_there : (e : Expr Note) → Each N (Or.notes Note e) → In (R.reading d shapes e).needs
    read_there e h = (related s s' t t' RF RE layer at_expr e h).needs

    needs_there : (p : Place) (e : Expr Note) → A (around_keys p) → Each N (Or.notes Note e) → In (R.needs_at d shapes p e)
    needs_there p e a h = both_in (now_only (around_keys p)) (R.reading d shapes e).needs (now_in (around_keys p) a) (read_there e h)

    whole_in : (k : ℕ) → In (R.whole_needs d shapes k)
    whole_in k = let w = whole_there d.places.exprs k r.exprs in needs_there (whole_of d k).place (whole_of d k).expr w.place w.notes

    -- variables and signals by number

    abbrev count : ℕ
    count = length d.places.vars

    abbrev names_from : List Key
    names_from = map key.Name (count_up (length d.places.names) (length d.params))

    abbrev resets_from : List Key
    resets_from = map key.Reset (count_up (length d.places.resets) 0)

    abbrev variables_from : List Key
    variables_from = map key.Var (count_up count 0)

    abbrev starts_from : List Key
    starts_from = map key.Start (count_up count 0)

    var_row : (x : ℕ) → suc x ≤ count → There d shapes (key.Var x)
    var_row x l =
        let z : suc x ≤ 0 + count = omega (arith, l) in
        has_left (key.Var x) ((variables_from ++ starts_from) ++ names_from) resets_from
        (has_left (key.Var x) (variables_from ++ starts_from) names_from (has_left (key.Var x) variables_from starts_from (keys_in key.Var same_number count 0 x (omega arith) z)))

    start_row : (x : ℕ) → suc x ≤ count → There d shapes (key.Start x)
    start_row x l =
        let z : suc x ≤ 0 + count = omega (arith, l) in
        has_left (key.Start x) ((variables_from ++ starts_from) ++ names_from) resets_from
        (has_left (key.Start x) (variables_from ++ starts_from) names_from (has_right (key.Start x) variables_from starts_from (keys_in key.Start same_number count 0 x (omega arith) z)))

    abbrev Below : Option ℕ → Type 0
    Below None = Unit {0}
    Below (Some k) = suc k ≤ count

    below_if : (c : Bool) (k : ℕ) (o : Option ℕ) → suc k ≤ count → Below o → Below (if c then Some k else o)
    below_if true k o l h = l
    below_if false k o l h = h

    signal_below : (x : ℕ) (p : List InnerArm) (ws : List Variable) (k : ℕ) → count ≡ k + length ws → Below (signal_in x p ws k)
    signal_below x p [] k e = tt
    signal_below x p (w ∷ ws) k e = below_if (w.name == x && starts_with p w.list) k (signal_in x p ws (suc k)) (omega (arith, e)) (signal_below x p ws (suc k) (omega (arith, e)))

    signal_key : (o : Option ℕ) → Below o → A (R.signal_keys_of d shapes o)
    signal_key None h = tt
    signal_key (Some k) h = (var_row k h, tt)

    signal_there : (p : Place) (x : ℕ) → A (R.signal_keys d shapes p x)
    signal_there p x = signal_key (signal_at d x (arms p)) (signal_below x (arms p) d.places.vars 0 (omega arith))

    signals_there : (p : Place) (xs : List ℕ) → A (joined (map (R.signal_keys d shapes p) xs))
    signals_there p [] = tt
    signals_there p (x ∷ xs) = all_both (R.signal_keys d shapes p x) (joined (map (R.signal_keys d shapes p) xs)) (signal_there p x) (signals_there p xs)

    param_if : (c : Bool) (ck : ClockTerm) (o : Option ClockTerm) → K ck → SomeThere o → SomeThere (if c then Some ck else o)
    param_if true ck o a h = a
    param_if false ck o a h = h

    param_there : (x : ℕ) (ps : List Pat) (cks : List ClockTerm) → Each K cks → SomeThere (param_clock x ps cks)
    param_there x [] [] h = tt
    param_there x [] (ck ∷ cks) h = tt
    param_there x (p ∷ ps) [] h = tt
    param_there x (p ∷ ps) (ck ∷ cks) h = param_if (has_name x (names_of p)) ck (param_clock x ps cks) h.0 (param_there x ps cks h.1)

    some_keys : (o : Option ClockTerm) → SomeThere o → A (R.some_clock_keys d shapes o)
    some_keys None h = tt
    some_keys (Some ck) h = h

    signal_clock : (x : ℕ) (o : Option ℕ) → A (R.signal_clock_keys d shapes x o)
    signal_clock x (Some k) = variable_clock k
    signal_clock x None = some_keys (param_clock x d.params d.clocks) (param_there x d.params d.clocks r.clocks)

    signal_here : (x : ℕ) (p : List InnerArm) → A (arm_keys p) → A (R.signal_here_keys d shapes x p)
    signal_here x p a = all_both (R.signal_clock_keys d shapes x (signal_at d x p)) (arm_keys (signal_arms d x p)) (signal_clock x (signal_at d x p)) (within_there (signal_list d x p) p a)

    -- rows of variables

    right_in : (p : Place) (q : Right) → In (R.right_needs d shapes p q)
    right_in p (rhs.Part pat k) = whole_in k
    right_in p (rhs.Whole k) = whole_in k
    right_in p (rhs.Pattern y pat) = now_in (R.signal_keys d shapes p y) (signal_there p y)

    site_in : (inner : List InnerArm) (q more : Needs) → A (arm_keys inner) → In q → In more → In (R.site_needs d shapes inner q more)
    site_in [] q more a h m = h
    site_in (mj ∷ inner) q more a h m = both_in (together (now_only (arm_keys (mj ∷ inner))) q) more (both_in (now_only (arm_keys (mj ∷ inner))) q (now_in (arm_keys (mj ∷ inner)) a) h) m

    sites_in : (more : Needs) (ss : List Site) → Each ST ss → In more → In (R.sites_needs d shapes more ss)
    sites_in more [] h m = m
    sites_in more (x ∷ ss) h m = site_in x.inner (R.right_needs d shapes x.place x.right) (R.sites_needs d shapes more ss) h.0.inner (right_in x.place x.right) (sites_in more ss h.1 m)

    in_if : (c : Bool) (q m : Needs) → In q → In m → In (if c then q else m)
    in_if true q m a h = a
    in_if false q m a h = h

    variable_in : (x : ℕ) (o : Option Variable) → (o ≡ nth d.places.vars x) → Maybe (VariableThere d shapes) o → In (R.variable_needs d shapes x o)
    variable_in x None e h = none_in
    variable_in x (Some w) e h =
        let l : suc x ≤ count = nth_below d.places.vars x w (sym e) in
        let last = last_of x (Some w) h (var_row x l) (start_row x l) in
        let otherwise = in_if w.signal nothing (if lacks d (sites_of x d.places.sites) then R.last_needs_of d shapes x (Some w) else nothing) none_in
        (in_if (lacks d (sites_of x d.places.sites)) (R.last_needs_of d shapes x (Some w)) nothing last none_in) in
        both_in (now_only (R.variable_clock_keys d shapes x)) (R.sites_needs d shapes (R.otherwise_needs d shapes x w) (sites_of x d.places.sites)) (now_in (R.variable_clock_keys d shapes x) (variable_clock x))
        (sites_in (R.otherwise_needs d shapes x w) (sites_of x d.places.sites) (sites_there x d.places.sites r.sites) otherwise)

    start_in : (o : Option Start) → In (R.start_needs d shapes o)
    start_in None = none_in
    start_in (Some q) = whole_in q.right

    variable_start : (o : Option Variable) → In (R.variable_start_needs d shapes o)
    variable_start None = none_in
    variable_start (Some w) = start_in (start_of w d.places.starts)

    -- rows of blocks

    guards_of : (gs : List Transition) → In (R.transitions_needs d shapes gs)
    guards_of [] = none_in
    guards_of (g ∷ gs) = both_in (R.whole_needs d shapes g.cond) (R.transitions_needs d shapes gs) (whole_in g.cond) (guards_of gs)

    guards_in : (ts : List (ℕ × List Transition)) → In (R.guards_needs d shapes ts)
    guards_in [] = none_in
    guards_in (x ∷ ts) = both_in (R.transitions_needs d shapes x.1) (R.guards_needs d shapes ts) (guards_of x.1) (guards_in ts)

    all_clocks_there : (xs : List (Whole Note)) → Each WT xs → Each K (all_clocks xs)
    all_clocks_there [] h = tt
    all_clocks_there (x ∷ xs) h = each_both K (clocks_in x.expr) (all_clocks xs) (clocks_notes x.expr h.0.notes) (all_clocks_there xs h.1)

    mode_of : (o : Option ClockTerm) (q : Option ℕ) (p : Place) → SomeThere o → A (around_keys p) → A (R.mode_keys_of d shapes o q p)
    mode_of (Some ck) q p h a = h
    mode_of None (Some x) p h a = signal_here x (arms p) (arms_there p a)
    mode_of None None p h a = arms_there p a

    mode_there : (m : ℕ) (p : Place) → A (around_keys p) → A (R.mode_keys d shapes m p)
    mode_there m p a = mode_of (mode_clock m d.places.exprs) (tested_outside d m) p (or_mode m (all_clocks d.places.exprs) (all_clocks_there d.places.exprs r.exprs)) a

    present_there : (xs : List ℕ) (p : Place) → A (around_keys p) → A (R.present_keys d shapes xs p)
    present_there [] p a = arms_there p a
    present_there (x ∷ xs) p a = signal_here x (arms p) (arms_there p a)

    abbrev NamedThere : ℕ → Option Named → Type 0
    NamedThere m None = Unit {0}
    NamedThere m (Some (named.Clock x)) = Unit {0}
    NamedThere m (Some (named.Match k all p)) = Unit {0}
    NamedThere m (Some (named.Present xs p)) = A (around_keys p)
    NamedThere m (Some (named.Active all p)) = A (around_keys p) × There d shapes (key.Name (m + 1))
    NamedThere m (Some (named.Tested all p)) = A (around_keys p) × There d shapes (key.Name (m - 1))

    named_at : (ns : List Named) (m i : ℕ) → NamesThere d shapes m ns → NamedThere (m + i) (nth ns i)
    named_at [] m i h = tt
    named_at (named.Clock x ∷ ns) m zero h = tt
    named_at (named.Match k all p ∷ ns) m zero h = tt
    named_at (named.Present xs p ∷ ns) m zero h = h.0
    named_at (named.Active all p ∷ ns) m zero h = let z : m ≡ m + 0 = omega arith in (h.0, subst (λ j. There d shapes (key.Name (j + 1))) z h.1)
    named_at (named.Tested all p ∷ ns) m zero h = let z : m ≡ m + 0 = omega arith in (h.0, subst (λ j. There d shapes (key.Name (j - 1))) z h.1)
    named_at (named.Clock x ∷ ns) m (suc i) h = let z : suc m + i ≡ m + suc i = omega arith in subst (λ j. NamedThere j (nth ns i)) z (named_at ns (suc m) i h)
    named_at (named.Match k all p ∷ ns) m (suc i) h = let z : suc m + i ≡ m + suc i = omega arith in subst (λ j. NamedThere j (nth ns i)) z (named_at ns (suc m) i h)
    named_at (named.Present xs p ∷ ns) m (suc i) h = let z : suc m + i ≡ m + suc i = omega arith in subst (λ j. NamedThere j (nth ns i)) z (named_at ns (suc m) i h.1)
    named_at (named.Active all p ∷ ns) m (suc i) h = let z : suc m + i ≡ m + suc i = omega arith in subst (λ j. NamedThere j (nth ns i)) z (named_at ns (suc m) i h.2)
    named_at (named.Tested all p ∷ ns) m (suc i) h = let z : suc m + i ≡ m + suc i = omega arith in subst (λ j. NamedThere j (nth ns i)) z (named_at ns (suc m) i h.2)

    name_in : (m : ℕ) (o : Option Named) → NamedThere m o → In (R.name_needs d shapes m o)
    name_in m None h = none_in
    name_in m (Some (named.Clock x)) h = none_in
    name_in m (Some (named.Match k all p)) h =
        let ck = (whole_of d k).expr.note.ck in
        both_in (now_only (clock_keys d shapes ck)) (R.whole_needs d shapes k) (now_in (clock_keys d shapes ck) (whole_clock k)) (whole_in k)
    name_in m (Some (named.Present xs p)) h =
        now_in (R.present_keys d shapes xs p ++ joined (map (R.signal_keys d shapes p) xs)) (all_both (R.present_keys d shapes xs p) (joined (map (R.signal_keys d shapes p) xs)) (present_there xs p h) (signals_there p xs))
    name_in m (Some (named.Active all p)) h =
        let ks = R.mode_keys d shapes m p ++ key.Name (m + 1) ∷ [] in
        both_in (now_only ks) (R.guards_needs d shapes all) (now_in ks (all_both (R.mode_keys d shapes m p) (key.Name (m + 1) ∷ []) (mode_there m p h.0) (h.1, tt))) (guards_in all)
    name_in m (Some (named.Tested all p)) h =
        let ks = R.mode_keys d shapes (m - 1) p ++ around_keys p in
        let one = now_only (key.Name (m - 1) ∷ []) in
        both_in (now_only ks) (earlier (together one (R.guards_needs d shapes all))) (now_in ks (all_both (R.mode_keys d shapes (m - 1) p) (around_keys p) (mode_there (m - 1) p h.0) h.0))
        (earlier_in (together one (R.guards_needs d shapes all)) (both_in one (R.guards_needs d shapes all) (now_in (key.Name (m - 1) ∷ []) (h.1, tt)) (guards_in all)))

    reset_in : (o : Option ℕ) → In (R.reset_needs d shapes o)
    reset_in None = none_in
    reset_in (Some k) = whole_in k

    key_in : (k : Key) → HasKey k (row_keys d) → In (R.key_needs d shapes k)
    key_in (key.Var x) h = variable_in x (nth d.places.vars x) refl (each_nth (VariableThere d shapes) d.places.vars x r.vars)
    key_in (key.Start x) h = variable_start (nth d.places.vars x)
    key_in (key.Reset q) h = reset_in (nth d.places.resets q)
    key_in (key.Name m) h =
        let low : length d.params ≤ m = not_below m (length d.params) (block_name d m h) in
        let z : length d.params + (m - length d.params) ≡ m = omega (arith, low) in
        name_in m (nth d.places.names (m - length d.params)) (subst (λ j. NamedThere j (nth d.places.names (m - length d.params))) z (named_at d.places.names (length d.params) (m - length d.params) r.names))

    exprs_in : (xs : List (Whole Note)) → Each WT xs → All (λ (w : Whole Note). InTable d (R.needs_at d shapes w.place w.expr)) xs
    exprs_in [] h = tt
    exprs_in (x ∷ xs) h = (needs_there x.place x.expr h.0.place h.0.notes, exprs_in xs h.1)

    pub scoped : Scoped d shapes
    scoped = record {
      rows = key_in;
      exprs = exprs_in d.places.exprs r.exprs;
      result = needs_there [] d.result tt r.result;
    }
