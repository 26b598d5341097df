-- Every cycle of rows gives items that wait for one another.
use Rattle.std.specs.Prelude.{◌≡◌, refl, ℕ, ◌-◌, ◌<◌, ◌⊎◌, nat_lt, Bool, true, false, List, [], ◌∷◌, ◌++◌, map, length, Option, Some, None, if◌then◌else◌}
use Rattle.std.proofs.Common.{sym, subst, arith, inl, inr}
use Rattle.ls_ast.specs.declared.tree.Case.{Case}
use Rattle.ls_ast.specs.declared.tree.Expr.{Expr-F}
use Rattle.ls_ast.specs.declared.tree.Form.TheOpen.{Form-F}
use Rattle.ls_terms.specs.declared.clocks.ClockTerm.{ClockTerm, fold-roll-ClockTerm, ind-ClockTerm, map-ClockTerm, roll-ClockTerm}
use Rattle.ls_terms.specs.declared.clocks.ClockTerm.TheOpen.{ClockTerm-F}
use Rattle.ls_places.specs.Patterns.{joined}
use Rattle.ls_places.specs.Places.{Place}
use Rattle.ls_sig.specs.declared.binder.Binder.{Binder}
use Rattle.ls_sig.specs.declared.binder.Binder.TheVariants as b
use Rattle.ls_sig.specs.declared.binder.Note.{Note}
use Rattle.ls_places.specs.declared.places.Frame.TheVariants as frame
use Rattle.ls_places.specs.declared.places.Named.{Named}
use Rattle.ls_places.specs.declared.places.Named.TheVariants as named
use Rattle.ls_places.specs.declared.places.Start.{Start}
use Rattle.ls_places.specs.declared.places.Variable.{Variable}
use Rattle.ls_places.specs.declared.definition.Key.{Key}
use Rattle.ls_places.specs.declared.definition.Key.TheVariants as key
use Rattle.ls_places.specs.declared.definition.Definition.{Definition}
use Rattle.ls_places.specs.Clocks.{choice_parts}
use Rattle.ls_places.specs.Search.{E, nth, start_of, sites_of, whole_of}
use Rattle.tree_notes.proofs.Related
use Rattle.tree_notes.proofs.Refold.{in_choices}
use Rattle.tree_notes.proofs.Related.{related}
use Rattle.digraph.specs.Graph.{In, first, later}
use Rattle.digraph.specs.Numbering.{Cycle, Within, here, further, for_itself, WaitCycle}
use Rattle.digraph.proofs.Numbering.{cycle_of_items}
use Rattle.causality_rules.specs.Reads as Causal
use Rattle.causality_rules.specs.Reads.{Read, restart_rows, all_read, every_read, bound_rows, start_rows, reset_rows, place_rows, reads}
use Rattle.causality_rules.specs.Items.{is_condition, Cyclic}
use Rattle.causality_rules.specs.Laws.{ResetsNested, CycleGivesItems}
use Rattle.digraph.proofs.Marks.{none_in, in_left, in_either as in_split}
use Rattle.causality_rules.proofs.Lists.{in_cons}

-- ---- an expression that reads the condition of a `reset` has `last x` of a variable inside it

module _ (d : Definition) where
  abbrev pub Found : ℕ → Type 0
  Found q = (x : ℕ) × (w : Variable) × (nth d.places.vars x ≡ Some w) × In (key.Reset q) (reset_rows w.place)

  abbrev P : List Key → Type 0
  P xs = (q : ℕ) → In (key.Reset q) xs → Found q

  p_none : P []
  p_none q h = absurd (none_in h)

  p_append : (xs ys : List Key) → P xs → P ys → P (xs ++ ys)
  p_append xs ys f g q h = elim (in_split (key.Reset q) xs ys h) [ inl a ↦ f q a | inr a ↦ g q a ]

  p_var : (k : ℕ) → P (key.Var k ∷ [])
  p_var k q h = elim (in_cons (key.Reset q) (key.Var k) [] h) [ inl e ↦ absurd (cc e) | inr a ↦ absurd (none_in a) ]

  p_start : (k : ℕ) → P (key.Start k ∷ [])
  p_start k q h = elim (in_cons (key.Reset q) (key.Start k) [] h) [ inl e ↦ absurd (cc e) | inr a ↦ absurd (none_in a) ]

  p_name : (k : ℕ) → P (key.Name k ∷ [])
  p_name k q h = elim (in_cons (key.Reset q) (key.Name k) [] h) [ inl e ↦ absurd (cc e) | inr a ↦ absurd (none_in a) ]

  p_bound : (bound : Binder) → P (bound_rows bound)
  p_bound (b.Var k) = p_var k
  p_bound (b.Def k) = p_none
  p_bound (b.Param k) = p_none
  p_bound b.Nothing = p_none
  p_bound (b.Case c k) = p_none

  p_name_of : (m : ℕ) (t : Bool) (o : Option Named) → P (if t then [] else Causal.name_row d m o)
  p_name_of m true o = p_none
  p_name_of m false None = p_none
  p_name_of m false (Some (named.Clock x)) = p_var x
  p_name_of m false (Some (named.Match e all p)) = p_name m
  p_name_of m false (Some (named.Present xs p)) = p_name m
  p_name_of m false (Some (named.Active states p)) = p_name m
  p_name_of m false (Some (named.Tested states p)) = p_name m

  p_restarts : (ks : List ℕ) → P (restart_rows ks)
  p_restarts [] = p_none
  p_restarts (k ∷ ks) = p_append (key.Var k ∷ []) (restart_rows ks) (p_var k) (p_restarts ks)

  -- clocks read none

  abbrev rows : ClockTerm → List Key
  rows = Causal.clock_rows d

  abbrev C : ClockTerm → Type 0
  C ck = P (rows ck)

  abbrev With : Type 0
  With = (ck : ClockTerm) × C ck

  abbrev tops : ClockTerm-F With → ClockTerm-F ClockTerm
  tops = map-ClockTerm With ClockTerm (λ p. p.0)

  p_all : (cks : List With) → P (joined (map rows (map (λ p. p.0) cks)))
  p_all [] = p_none
  p_all (p ∷ cks) = p_append (rows p.0) (joined (map rows (map (λ p. p.0) cks))) p.1 (p_all cks)

  clock_layer : (y : ClockTerm-F With) → P (Causal.clock_rows_step d (map-ClockTerm ClockTerm (List Key) rows (tops y)))
  clock_layer (ClockTerm-F.Var w) = p_none
  clock_layer (ClockTerm-F.On p m k) = p_append (Causal.name_rows d m) (rows p.0) (p_name_of m (nat_lt m (length d.params)) (nth d.places.names (m - length d.params))) p.1
  clock_layer ClockTerm-F.Pointwise = p_none
  clock_layer (ClockTerm-F.Arrow cks p) = p_append (joined (map rows (map (λ p. p.0) cks))) (rows p.0) (p_all cks) p.1

  p_clock : (ck : ClockTerm) → C ck
  p_clock = ind-ClockTerm C (λ x y from. subst (λ z. C (roll-ClockTerm z)) from
      (subst P (sym (fold-roll-ClockTerm (List Key) (Causal.clock_rows_step d) (tops y))) (clock_layer y)))

  -- forms

  p_starts : (x : ℕ) (s : Option Start) → P (start_rows x s)
  p_starts x None = p_none
  p_starts x (Some s) = p_start x

  p_last_of : (x : ℕ) (o : Option Variable) → nth d.places.vars x ≡ o → P (Causal.last_rows_of d x o)
  p_last_of x None e = p_none
  p_last_of x (Some w) e = p_append (start_rows x (start_of w d.places.starts)) (reset_rows w.place) (p_starts x (start_of w d.places.starts)) (λ q h. (x, w, e, h))

  p_last : (bound : Binder) → P (Causal.last_rows d bound)
  p_last (b.Var x) = p_last_of x (nth d.places.vars x) refl
  p_last (b.Def k) = p_none
  p_last (b.Param k) = p_none
  p_last b.Nothing = p_none
  p_last (b.Case c k) = p_none

  abbrev R : (Note → List Key) → (Note → List Key) → Type 0
  R f g = (n : Note) → P (f n)

  abbrev R' : Read → Read → Type 0
  R' r s = P r.rows

  abbrev TwoF : Type 0
  TwoF = (f : Note → List Key) × (g : Note → List Key) × R f g

  abbrev TwoS : Type 0
  TwoS = (r : Read) × (s : Read) × R' r s

  p_reads : (ps : List TwoS) → P (all_read (map {A = TwoS} {B = Read} (λ p. p.0) ps))
  p_reads [] = p_none
  p_reads (p ∷ ps) = p_append p.0.rows (all_read (map {A = TwoS} {B = Read} (λ p. p.0) ps)) p.2 (p_reads ps)

  p_choices : (cs : List (Case × TwoS)) → P (all_read (choice_parts (in_choices {X = TwoS} {Y = Read} (λ p. p.0) cs)))
  p_choices [] = p_none
  p_choices (c ∷ cs) = p_append c.1.0.rows (all_read (choice_parts (in_choices {X = TwoS} {Y = Read} (λ p. p.0) cs))) c.1.2 (p_choices cs)

  abbrev fs : Form-F Note (Note → List Key) Read → Note → List Key
  fs = Causal.form_rows d

  abbrev es : Expr-F Note (Note → List Key) Read → Read
  es = Causal.expr_rows d

  layer : (y : Form-F Note TwoF TwoS) → R (fs (Related.lefts fs es fs es R R' y)) (fs (Related.rights fs es fs es R R' y))
  layer (Form-F.Leaf l) n = p_none
  layer (Form-F.Case x) n = p_none
  layer (Form-F.Var x) n = p_bound n.bound
  layer (Form-F.Last x) n = p_last n.bound
  layer (Form-F.Asked x) n = p_bound n.bound
  layer (Form-F.Op o ps) n = p_reads ps
  layer (Form-F.Tuple ps) n = p_reads ps
  layer (Form-F.Pre p) n = p_restarts n.restarts
  layer (Form-F.Fby x y) n = p_append (restart_rows n.restarts) x.0.rows (p_restarts n.restarts) x.2
  layer (Form-F.Init x y) n = p_append (restart_rows n.restarts) (x.0.rows ++ y.0.rows) (p_restarts n.restarts) (p_append x.0.rows y.0.rows x.2 y.2)
  layer (Form-F.When p x k) n = p_append (bound_rows n.bound) p.0.rows (p_bound n.bound) p.2
  layer (Form-F.Merge x cs) n = p_append (bound_rows n.bound) (all_read (choice_parts (in_choices {X = TwoS} {Y = Read} (λ p. p.0) cs))) (p_bound n.bound) (p_choices cs)
  layer (Form-F.Call run x ps None) n = p_append (bound_rows n.bound) (all_read (map {A = TwoS} {B = Read} (λ p. p.0) ps) ++ []) (p_bound n.bound)
      (p_append (all_read (map {A = TwoS} {B = Read} (λ p. p.0) ps)) [] (p_reads ps) p_none)
  layer (Form-F.Call run x ps (Some q)) n = p_append (bound_rows n.bound) (all_read (map {A = TwoS} {B = Read} (λ p. p.0) ps) ++ q.0.rows) (p_bound n.bound)
      (p_append (all_read (map {A = TwoS} {B = Read} (λ p. p.0) ps)) q.0.rows (p_reads ps) q.2)

  p_expr : (e : E) → P (Causal.read_by d e)
  p_expr e = related fs es fs es R R' layer (λ n p. p_append (rows n.ck) (p.0 n) (p_clock n.ck) (p.2 n)) e

  -- ---- conditions

  abbrev W : Key → Key → Type 0
  W = Within is_condition (reads d)

  reset_place : (q : ℕ) (p : Place) → In (key.Reset q) (reset_rows p) → In (key.Reset q) (place_rows p)
  reset_place q [] h = h
  reset_place q (frame.Reset r ∷ p) h = elim (in_cons (key.Reset q) (key.Reset r) (reset_rows p) h) [
    | inl e ↦ subst (λ z. In z (key.Reset r ∷ place_rows p)) e (first (place_rows p))
    | inr g ↦ later (key.Reset r) (place_rows p) (reset_place q p g)
  ]
  reset_place q (frame.Arm m j ∷ p) h = later (key.Name m) (place_rows p) (reset_place q p h)

  module _ (nested : ResetsNested d) where
    -- a condition reads those around it, which are earlier, and that of a `last x`
    edge_of : (r : ℕ) (o : Option ℕ) → nth d.places.resets r ≡ o → (q : ℕ) → In (key.Reset q) (Causal.condition_rows d o) → (q < r) ⊎ Found q
    edge_of r None e q h = absurd (none_in h)
    edge_of r (Some k) e q h = elim (in_split (key.Reset q) (place_rows (whole_of d k).place) (Causal.read_by d (whole_of d k).expr) h) [
      | inl a ↦ inl (nested r k e q a)
      | inr a ↦ inr (p_expr (whole_of d k).expr q a)
    ]

    pub edge : (r q : ℕ) → In (key.Reset q) (reads d (key.Reset r)) → (q < r) ⊎ Found q
    edge r q h = edge_of r (nth d.places.resets r) refl q h

    -- on the way from one to another, or the other is earlier
    abbrev On : ℕ → ℕ → Type 0
    On i j = (j < i) ⊎ ((m : ℕ) × Found m × W (key.Reset i) (key.Reset m) × ((m ≡ j) ⊎ W (key.Reset m) (key.Reset j)))

    condition_is : (k : Key) → is_condition k ≡ true → (r : ℕ) × (k ≡ key.Reset r)
    condition_is (key.Reset r) e = (r, refl)
    condition_is (key.Var k) e = absurd (cc e)
    condition_is (key.Start k) e = absurd (cc e)
    condition_is (key.Name k) e = absurd (cc e)

    on_here : (i j : ℕ) → In (key.Reset j) (reads d (key.Reset i)) → On i j
    on_here i j h = elim (edge i j h) [ inl l ↦ inl l | inr f ↦ inr (j, f, here (key.Reset i) (key.Reset j) h refl, inl refl) ]

    on_further : (i m j : ℕ) → In (key.Reset m) (reads d (key.Reset i)) → W (key.Reset m) (key.Reset j) → On m j → On i j
    on_further i m j h w o = elim (edge i m h) [
      | inr f ↦ inr (m, f, here (key.Reset i) (key.Reset m) h refl, inr w)
      | inl l ↦ elim o [
        | inl k ↦ inl (omega (arith, l, k))
        | inr y ↦ inr (y.0, y.1, further (key.Reset i) (key.Reset m) (key.Reset y.0) h refl y.2, y.3)
      ]
    ]

    abbrev Between : Key → Key → Type 0
    Between n q = (i j : ℕ) → n ≡ key.Reset i → q ≡ key.Reset j → On i j

    between_further : (n p q : Key) → In p (reads d n) → W p q → (m : ℕ) → p ≡ key.Reset m → Between p q → Between n q
    between_further n p q h w m e f i j a c = on_further i m j (subst (λ z. In z (reads d (key.Reset i))) e (subst (λ z. In p (reads d z)) a h))
        (subst (λ z. W z (key.Reset j)) e (subst (W p) c w)) (f m j e c)

    on : (n q : Key) → W n q → Between n q
    on _ _ (here n q h e) = λ i j a c. on_here i j (subst (λ z. In z (reads d (key.Reset i))) c (subst (λ z. In q (reads d z)) a h))
    on _ _ (further n p q h e w) = let m = condition_is p e in between_further n p q h w m.0 m.1 (on p q w)

    pub join : (n m q : Key) → is_condition m ≡ true → W n m → W m q → W n q
    join _ _ q c (here n m h e) v = further n m q h e v
    join _ _ q c (further n p m h e w) v = further n p q h e (join p m q c w v)

    self : (q m : ℕ) → W (key.Reset q) (key.Reset m) → (m ≡ q) ⊎ W (key.Reset m) (key.Reset q) → W (key.Reset m) (key.Reset m)
    self q m w (inl e) = subst (λ k. W (key.Reset k) (key.Reset m)) (sym e) w
    self q m w (inr v) = join (key.Reset m) (key.Reset q) (key.Reset m) refl v w

    pub var_reads : (q x : ℕ) (w : Variable) → nth d.places.vars x ≡ Some w → In (key.Reset q) (reset_rows w.place) → In (key.Reset q) (reads d (key.Var x))
    var_reads q x w e h = subst (λ o. In (key.Reset q) (Causal.variable_rows d x o)) (sym e)
        (in_left (key.Reset q) (place_rows w.place) (Causal.missing_rows d x w ++ Causal.sites_rows d (sites_of x d.places.sites)) (reset_place q w.place h))

    abbrev Given : Type 0
    Given = (items : List Key) × (items ≡ [] → ⊥) × Cyclic d items

    cons_not : (x : Key) (xs : List Key) → (x ∷ xs) ≡ [] → ⊥
    cons_not x xs e = absurd (cc e)

    -- a condition that waits for itself gives a variable that does
    from_condition : (q : Key) → is_condition q ≡ true → W q q → Given
    from_condition q c w =
        let r = condition_is q c in
        elim (on q q w r.0 r.0 r.1 r.1) [
          | inl l ↦ absurd (omega (arith, l))
          | inr y ↦ (
            (key.Var y.1.0 ∷ []),
            cons_not (key.Var y.1.0) [],
            (
              (refl, tt),
              for_itself (key.Reset y.0) (here (key.Var y.1.0) (key.Reset y.0) (var_reads y.0 y.1.0 y.1.1 y.1.2 y.1.3) refl) (self r.0 y.0 y.2 y.3),
            ),
          )
        ]

    last_condition : (n q : Key) → W n q → is_condition q ≡ true
    last_condition _ _ (here n q h e) = e
    last_condition _ _ (further n p q h e w) = last_condition p q w

    not_none : (items : List Key) → WaitCycle is_condition (reads d) items → items ≡ [] → ⊥
    not_none [] w e = w
    not_none (x ∷ xs) w e = cons_not x xs e

    pub gives_items : (c : List Key) → Cycle (reads d) c → Given
    gives_items c y = elim (cycle_of_items is_condition (reads d) c y) [
      | inl f ↦ (f.0, not_none f.0 f.2, (f.1, f.2))
      | inr f ↦ from_condition f.0 (last_condition f.0 f.0 f.1) f.1
    ]

pub cycle_gives_items : CycleGivesItems
cycle_gives_items d nested c y = gives_items d nested c y
