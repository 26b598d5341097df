-- Another variable in those clocks of variables and blocks that occur outside of the home of a variable: the rules still hold.
use Rattle.std.specs.Prelude.{◌≡◌, refl, ◌⊎◌, ℕ, zero, suc, ◌+◌, ◌-◌, ◌==◌, ◌<◌, ◌&&◌, not, nat_lt, Bool, true, false, List, [], ◌∷◌, ◌++◌, map, length, drop, Option, Some, None, option_map, unwrap_or, if◌then◌else◌}
use Rattle.std.proofs.Common.{ap, ap₂, sym, ◌∙◌, subst, inl, inr, arith, append_assoc}
use Rattle.std.proofs.lemmas.Bool.Decides.{nat_tests}
use Rattle.ls_ast.specs.declared.tree.BodyOf.{BodyOf}
use Rattle.ls_ast.specs.declared.tree.Case.{Case}
use Rattle.ls_ast.specs.declared.tree.Expr.{Expr}
use Rattle.ls_ast.specs.declared.tree.Form.TheOpen.{Form-F}
use Rattle.ls_ast.specs.declared.tree.Mark.{Mark}
use Rattle.ls_ast.specs.declared.tree.Pat.{Pat}
use Rattle.ls_terms.specs.declared.clocks.ClockTerm.{ClockTerm, fold-roll-ClockTerm, out-roll-ClockTerm}
use Rattle.ls_terms.specs.declared.clocks.ClockTerm.TheOpen.{ClockTerm-F}
use Rattle.ls_terms.specs.Clocks.{size, stands, stands_at}
use Rattle.ls_sig.specs.Notes.{is_signal}
use Rattle.ls_sig.specs.declared.binder.Binder.{Binder}
use Rattle.ls_sig.specs.declared.binder.Binder.TheVariants as b
use Rattle.ls_sig.specs.declared.binder.Note.{Note}
use Rattle.ls_places.specs.Clocks.{clocks_in, form_parts, mentions, mentions_step, option_part}
use Rattle.ls_places.specs.Places as F
use Rattle.ls_places.specs.Places.{InnerArm, Place, arms}
use Rattle.ls_places.specs.Definitions.{note_clocks}
use Rattle.ls_places.specs.Search.{home_of, list_of, nth, occurrences, signal_in, starts_with}
use Rattle.ls_places.specs.declared.places.Named.{Named}
use Rattle.ls_places.specs.declared.places.Named.TheVariants as named
use Rattle.ls_places.specs.declared.places.Right.{Right}
use Rattle.ls_places.specs.declared.places.Right.TheVariants as rhs
use Rattle.ls_places.specs.declared.places.Site.{Site}
use Rattle.ls_places.specs.declared.places.Start.{Start}
use Rattle.ls_places.specs.declared.places.Transition.{Transition}
use Rattle.ls_places.specs.declared.places.Variable.{Variable}
use Rattle.ls_places.specs.declared.places.Whole.{Whole}
use Rattle.digraph.specs.Graph.{In, first as here, later}
use Rattle.tree_notes.specs.Each.{Each}
use Rattle.clock_rules.specs.declared.scheme.ClockScheme.{ClockScheme}
use Rattle.clock_rules.specs.Facts.{Facts, nodes_of, placed}
use Rattle.clock_rules.specs.Fresh.{facts_of}
use Rattle.clock_rules.specs.Layers.{Layer, layers}
use Rattle.clock_rules.specs.Rules as R
use Rattle.clock_rules.specs.Rules.{Pair, Clocks, AreEqual, at, sampled, opt_pairs, innermost, list_at, is_clock_mark}
use Rattle.clock_rules.specs.Terms.{on, arrow, pointwise, instance, is_function, is_comb, names_in, IsClock, IsClockOf}
use Rattle.clock_rules.proofs.Sides.{all_left, all_right, all_both}
use Rattle.causality_accepted.proofs.Placed as Pl
use Rattle.causality_accepted.proofs.Occurs as Oc
use Rattle.causality_accepted.proofs.Occurs.{deep}
use Rattle.causality_accepted.proofs.Renamed as Re
use Rattle.causality_accepted.proofs.Parts as Pa

-- ---- lists

pub nth_in : {A : Type 0} (xs : List A) (k : ℕ) (x : A) → nth xs k ≡ Some x → In x xs
nth_in [] k x e = absurd (cc)
nth_in (y ∷ xs) zero x e = let s : y ≡ x = cc in subst (λ z. In z (y ∷ xs)) s (here xs)
nth_in (y ∷ xs) (suc k) x e = later y xs (nth_in xs k x e)

pub nth_map : {A B : Type 0} (f : A → B) (xs : List A) (k : ℕ) → nth (map f xs) k ≡ option_map f (nth xs k)
nth_map f [] k = refl
nth_map f (x ∷ xs) zero = refl
nth_map f (x ∷ xs) (suc k) = nth_map f xs k

pub each_in : {A : Type 0} (P : A → Type 0) (xs : List A) → ((x : A) → In x xs → P x) → Each P xs
each_in P [] f = tt
each_in P (x ∷ xs) f = (f x (here xs), each_in P xs (λ y i. f y (later x xs i)))

pub in_each : {A : Type 0} (P : A → Type 0) (xs : List A) (x : A) → Each P xs → In x xs → P x
in_each P [] x h i = absurd (Oc.none_in i)
in_each P (y ∷ xs) x h i = elim (Oc.in_cons x y xs i) [ inl e ↦ subst P e h.0 | inr j ↦ in_each P xs x h.1 j ]

pub each_nth : {A : Type 0} (P : A → Type 0) (xs : List A) (k : ℕ) (x : A) → Each P xs → nth xs k ≡ Some x → P x
each_nth P xs k x h e = in_each P xs x h (nth_in xs k x e)

pub each_zip : {A : Type 0} (P Q W : A → Type 0) → ((x : A) → P x → Q x → W x) → (xs : List A) → Each P xs → Each Q xs → Each W xs
each_zip P Q W h [] k l = tt
each_zip P Q W h (x ∷ xs) k l = (h x k.0 l.0, each_zip P Q W h xs k.1 l.1)

drop_on : {A : Type 0} (xs ys : List A) → drop (length xs) (xs ++ ys) ≡ ys
drop_on [] ys = refl
drop_on (x ∷ xs) ys = drop_on xs ys

some_at : {A : Type 0} (xs : List A) (k : ℕ) → k < length xs → (x : A) × (nth xs k ≡ Some x)
some_at [] k l = absurd (omega (arith, l))
some_at (x ∷ xs) zero l = (x, refl)
some_at (x ∷ xs) (suc k) l = some_at xs k (omega (arith, l))

innermost_is : (p : List InnerArm) (a : InnerArm) → innermost (p ++ a ∷ []) ≡ Some a
innermost_is [] a = refl
innermost_is (c ∷ []) a = refl
innermost_is (c ∷ e ∷ p) a = innermost_is (e ∷ p) a

both_equal : (x y u v : List Pair) → AreEqual (x ++ y) → (AreEqual x → AreEqual u) → (AreEqual y → AreEqual v) → AreEqual (u ++ v)
both_equal x y u v h f g = all_both R.IsEqual u v (f (all_left R.IsEqual x y h)) (g (all_right R.IsEqual x y h))

if_equal : (t : Bool) (x y u v : List Pair) → AreEqual (if t then x else y) → (t ≡ true → AreEqual x → AreEqual u) → (AreEqual y → AreEqual v) → AreEqual (if t then u else v)
if_equal true x y u v h f g = f refl h
if_equal false x y u v h f g = g h

-- ---- what scope says of the expressions: `V` are the variables

module _ (schemes : List ClockScheme) (V : List Variable) where
  -- a variable that is used is bound in a list around
  abbrev pub InSight : Place → Binder → Type 0
  InSight p (b.Var k) = (k < length V) × (starts_with (arms p) (list_at V k) ≡ true)
  InSight p _ = Unit {0}

  -- the variable of a condition is bound in the same arms
  abbrev pub Here : Place → Binder → Type 0
  Here p (b.Var k) = list_at V k ≡ arms p
  Here p _ = Unit {0}

  abbrev pub HereAt : Place → Option Note → Type 0
  HereAt p None = Unit {0}
  HereAt p (Some n) = Here p n.bound

  abbrev pub GivenHere : Place → List Note → Option ClockScheme → Type 0
  GivenHere p args None = Unit {0}
  GivenHere p args (Some s) = Each (λ q. HereAt p (nth args q)) s.names

  abbrev pub CallHere : Place → List Note → Binder → Type 0
  CallHere p args (b.Def j) = GivenHere p args (nth schemes j)
  CallHere p args _ = Unit {0}

  abbrev pub FormHere : Place → Note → Form-F Note (Unit {0}) Note → Type 0
  FormHere p n (Form-F.When e x k) = Here p n.bound
  FormHere p n (Form-F.Merge x all) = Here p n.bound
  FormHere p n (Form-F.Call run x args every) = CallHere p args n.bound
  FormHere p n _ = Unit {0}

  pub record NodeUsed (n : Layer Note × Place) : Type 0 where
    pub sight : InSight n.1 n.0.note.bound
    pub here : FormHere n.1 n.0.note n.0.form

module _ (schemes : List ClockScheme) (cases : ℕ → Option ℕ) (params : List Pat) (marks : List Mark) (notes : List Note) (body : BodyOf Note) where
  abbrev pub first : ℕ
  first = length params

  abbrev function : Note → Bool
  function n = is_function n.ty

  abbrev signal : Expr Note → Bool
  signal e = is_signal e.note.ty

  abbrev pub g : F.Found Note
  g = F.find Note first cases signal body

  abbrev pub d : Facts Note
  d = facts_of schemes cases params marks notes body

  abbrev pub E : List (Whole Note)
  E = g.exprs

  abbrev pub V : List Variable
  V = g.vars

  abbrev pub S : List (Option (List InnerArm))
  S = Pl.spots g.names

  abbrev spot : ℕ → Option (List InnerArm)
  spot = Pl.spot_of first E V S

  abbrev Homed : List InnerArm → Type 0
  Homed = Pl.Homed first E V S

  abbrev Stands : ℕ → List InnerArm → Type 0
  Stands = Pl.StandsAt first E V S

  pub pl : Pl.Placed first E V S g
  pl = Pl.found_placed first E V S cases signal body (record { exprs = Pl.more_none E; vars = Pl.more_none V; names = Pl.more_none S })

  -- the arms around the block of this place among the names
  abbrev pub place_at : ℕ → List InnerArm
  place_at j = unwrap_or (Pl.or_none (nth S j)) []

  spot_place : (m : ℕ) (l : List InnerArm) → spot m ≡ Some l → place_at (m - first) ≡ l
  spot_place m l e = by_case (nat_lt m first) e
    where
      by_case : (t : Bool) → (if t then None else Pl.or_none (nth S (m - first))) ≡ Some l → place_at (m - first) ≡ l
      by_case true f = absurd (cc)
      by_case false f = ap (λ o. unwrap_or o []) f

  pub whole_note : (k : ℕ) (x : Whole Note) → nth E k ≡ Some x → nth d.wholes k ≡ Some x.expr.note
  whole_note k x e = nth_map (λ (y : Whole Note). y.expr.note) E k ∙ ap (option_map (λ (y : Whole Note). y.expr.note)) e

  listed_is : (l : List InnerArm) (x : ℕ) → Pl.Listed V l x → list_at V x ≡ l
  listed_is l x h = ap list_of h.is ∙ h.list

  -- the signal that is seen at a place is bound in a list around it

  signal_if : (c : Bool) (k i : ℕ) (v : Variable) (vs : List Variable) (p : List InnerArm) → (c ≡ true → starts_with p v.list ≡ true) → (signal_rest : Option ℕ) → (signal_rest ≡ Some i → (j : ℕ) × (i ≡ suc k + j) × (starts_with p (list_at vs j) ≡ true))
      → (if c then Some k else signal_rest) ≡ Some i → (j : ℕ) × (i ≡ k + j) × (starts_with p (list_at (v ∷ vs) j) ≡ true)
  signal_if true k i v vs p f r h e = let s : k ≡ i = ap (λ z. unwrap_or z i) e in (0, omega (arith, s), f refl)
  signal_if false k i v vs p f r h e = let q = h e in let z = q.1 in (suc q.0, omega (arith, z), q.2)

  and_right : (a c : Bool) → (a && c) ≡ true → c ≡ true
  and_right true c e = e
  and_right false c e = absurd (cc)

  signal_from : (x : ℕ) (p : List InnerArm) (vs : List Variable) (k i : ℕ) → signal_in x p vs k ≡ Some i → (j : ℕ) × (i ≡ k + j) × (starts_with p (list_at vs j) ≡ true)
  signal_from x p [] k i e = absurd (cc)
  signal_from x p (v ∷ vs) k i e = signal_if (v.name == x && starts_with p v.list) k i v vs p (and_right (v.name == x) (starts_with p v.list)) (signal_in x p vs (suc k)) (signal_from x p vs (suc k) i) e

  pub signal_around : (x : ℕ) (p : List InnerArm) (i : ℕ) → signal_in x p V 0 ≡ Some i → starts_with p (list_at V i) ≡ true
  signal_around x p i e = let q = signal_from x p V 0 i e in let z = q.1 in let s : q.0 ≡ i = omega (arith, z) in subst (λ j. starts_with p (list_at V j) ≡ true) s q.2

  -- the clock of a variable is seen at an equation that binds it

  module _ (cs : Clocks) (o : R.Obeys schemes cases d cs) where
    site_equal : (s : Site) (all : List Site) → In s all → AreEqual (R.sites_pairs schemes cases d cs all) → AreEqual (R.vars_pairs schemes cases d cs s s.vars)
    site_equal s [] i e = absurd (Oc.none_in i)
    site_equal s (t ∷ all) i e = elim (Oc.in_cons s t all i) [
      | inl f ↦ subst (λ (z : Site). AreEqual (R.vars_pairs schemes cases d cs z z.vars)) f (all_left R.IsEqual (R.site_pairs schemes cases d cs t) (R.sites_pairs schemes cases d cs all) e)
      | inr j ↦ site_equal s all j (all_right R.IsEqual (R.site_pairs schemes cases d cs t) (R.sites_pairs schemes cases d cs all) e)
    ]

    var_equal : (s : Site) (x : ℕ) (xs : List ℕ) → In x xs → AreEqual (R.vars_pairs schemes cases d cs s xs) → AreEqual (R.right_pairs schemes cases d cs x s s.right)
    var_equal s x [] i e = absurd (Oc.none_in i)
    var_equal s x (y ∷ xs) i e = elim (Oc.in_cons x y xs i) [
      | inl f ↦ subst (λ z. AreEqual (R.right_pairs schemes cases d cs z s s.right)) f (all_left R.IsEqual (R.right_pairs schemes cases d cs y s s.right) (R.vars_pairs schemes cases d cs s xs) e)
      | inr j ↦ var_equal s x xs j (all_right R.IsEqual (R.right_pairs schemes cases d cs y s s.right) (R.vars_pairs schemes cases d cs s xs) e)
    ]

    pub right_equal : (s : Site) (x : ℕ) → In s g.sites → In x s.vars → AreEqual (R.right_pairs schemes cases d cs x s s.right)
    right_equal s x i j =
        var_equal s x s.vars j (site_equal s g.sites i
        (all_left R.IsEqual (R.sites_pairs schemes cases d cs d.sites) (R.starts_pairs schemes cases d cs d.starts ++ R.blocks_pairs schemes cases d cs first d.names) o.equal))

  module _ (w : ℕ) where
    abbrev pub home : List InnerArm
    home = home_of w E

    abbrev pub deep_at : List InnerArm → ClockTerm → Bool
    deep_at l t = deep home (occurrences w t l)

    -- the clock as it is where all that it says of the variable is inside its home
    abbrev pub put : List InnerArm → ClockTerm → ClockTerm
    put l t = if deep_at l t then t else Re.renamed w t

    put_deep : (l : List InnerArm) (t : ClockTerm) → deep_at l t ≡ true → put l t ≡ t
    put_deep l t e = ap (λ c. if c then t else Re.renamed w t) e

    put_not : (l : List InnerArm) (t : ClockTerm) → mentions w t ≡ false → put l t ≡ t
    put_not l t e = put_deep l t (ap (deep home) (Oc.occurs_not w t l e))

    put_pointwise : (l : List InnerArm) → put l pointwise ≡ pointwise
    put_pointwise l = put_not l pointwise (fold-roll-ClockTerm Bool (mentions_step w) ClockTerm-F.Pointwise)

    on_if : (c : Bool) (t : ClockTerm) (m k : ℕ) → (if c then on t m k else Re.renamed w (on t m k)) ≡ on (if c then t else Re.renamed w t) m k
    on_if true t m k = refl
    on_if false t m k = Re.renamed_on w t m k

    deep_on : (t : ClockTerm) (l r : List InnerArm) (m j k : ℕ) → Homed l → spot m ≡ Some l → deep_at (l ++ (m, j) ∷ r) (on t m k) ≡ deep_at l t
    deep_on t l r m j k h e = ap (deep home) (Oc.occ_arm w first E V S t l r m j k h e)

    put_on : (t : ClockTerm) (l r : List InnerArm) (m j k : ℕ) → Homed l → spot m ≡ Some l → put (l ++ (m, j) ∷ r) (on t m k) ≡ on (put l t) m k
    put_on t l r m j k h e = ap (λ c. if c then on t m k else Re.renamed w (on t m k)) (deep_on t l r m j k h e) ∙ on_if (deep_at l t) t m k

    -- of several, each by its place
    abbrev pub put_list : (ℕ → List InnerArm) → ℕ → List ClockTerm → List ClockTerm
    put_list f k [] = []
    put_list f k (t ∷ ts) = put (f k) t ∷ put_list f (suc k) ts

    pub at_put : (f : ℕ → List InnerArm) (k : ℕ) (ts : List ClockTerm) (x : ℕ) → at (put_list f k ts) x ≡ put (f (k + x)) (at ts x)
    at_put f k [] x = sym (put_pointwise (f (k + x)))
    at_put f k (t ∷ ts) zero = let z : k ≡ k + 0 = omega arith in ap (λ j. put (f j) t) z
    at_put f k (t ∷ ts) (suc x) = let z : suc k + x ≡ k + suc x = omega arith in at_put f (suc k) ts x ∙ ap (λ j. put (f j) (at ts x)) z

    long_put : (f : ℕ → List InnerArm) (k : ℕ) (ts : List ClockTerm) → length (put_list f k ts) ≡ length ts
    long_put f k [] = refl
    long_put f k (t ∷ ts) = ap suc (long_put f (suc k) ts)

    put_clock : (l : List InnerArm) (t : ClockTerm) → IsClock t → IsClock (put l t)
    put_clock l t h = by_case (deep_at l t)
      where
        by_case : (c : Bool) → IsClock (if c then t else Re.renamed w t)
        by_case true = h
        by_case false = record { stands = Re.renamed_stands w t h.stands; small = let e = Re.renamed_size w t in let s = h.small in omega (arith, e, s) }

    put_size : (l : List InnerArm) (t : ClockTerm) → size (put l t) ≡ size t
    put_size l t = by_case (deep_at l t)
      where
        by_case : (c : Bool) → size (if c then t else Re.renamed w t) ≡ size t
        by_case true = refl
        by_case false = Re.renamed_size w t

    put_names : (P : ℕ → Type 0) (l : List InnerArm) (t : ClockTerm) → Each P (names_in t) → Each P (names_in (put l t))
    put_names P l t h = by_case (deep_at l t)
      where
        by_case : (c : Bool) → Each P (names_in (if c then t else Re.renamed w t))
        by_case true = h
        by_case false = Re.renamed_names w P t h

    -- ---- what is noted occurs at home

    abbrev Deep : List InnerArm → ClockTerm → Type 0
    Deep l t = deep_at l t ≡ true

    abbrev pub NodeDeep : Layer Note × Place → Type 0
    NodeDeep n = Homed (arms n.1) × Pa.LayerGood function (Deep (arms n.1)) n.0

    layers_deep : (p : Place) (ls : List (Layer Note)) → Homed (arms p) → Each (Pa.LayerGood function (Deep (arms p))) ls → Each NodeDeep (placed Note p ls)
    layers_deep p [] h k = tt
    layers_deep p (l ∷ ls) h k = ((h, k.0), layers_deep p ls h k.1)

    clocks_deep : (x : Whole Note) → In x E → Each (Deep (arms x.place)) (clocks_in x.expr)
    clocks_deep x i = each_in (Deep (arms x.place)) (clocks_in x.expr) (λ t j. Oc.deep_noted w E x t i j)

    nodes_deep : (xs : List (Whole Note)) → ((x : Whole Note) → In x xs → In x E) → Each (λ (x : Whole Note). Homed (arms x.place)) xs → Each NodeDeep (nodes_of Note function xs)
    nodes_deep [] f h = tt
    nodes_deep (x ∷ xs) f h = all_both NodeDeep (placed Note x.place (layers Note function x.expr)) (nodes_of Note function xs)
        (layers_deep x.place (layers Note function x.expr) h.0 (Pa.layers_good function (Deep (arms x.place)) x.expr (clocks_deep x (f x (here xs)))))
        (nodes_deep xs (λ y i. f y (later x xs i)) h.1)

    pub all_deep : Each NodeDeep d.nodes
    all_deep = nodes_deep E (λ x i. i) pl.exprs

    whole_deep : (k : ℕ) (x : Whole Note) → nth E k ≡ Some x → Deep (arms x.place) x.expr.note.ck
    whole_deep k x e = in_each (Deep (arms x.place)) (clocks_in x.expr) x.expr.note.ck (clocks_deep x (nth_in E k x e)) (Pa.clock_here x.expr)

    -- a clock that is seen in arms as one that is noted there
    pub seen_deep : (cs : Clocks) (t : ClockTerm) (k : ℕ) (l p : List InnerArm) → Homed (l ++ p) → Stands k (l ++ p)
        → AreEqual (R.whole_pairs schemes cases d cs k (λ n. R.seen schemes cases d cs t p n.ck)) → deep_at l t ≡ true
    seen_deep cs t k l p h st a =
        let u : ClockTerm = st.whole.expr.note.ck in
        let e = subst (λ z. AreEqual (opt_pairs z (λ n. R.seen schemes cases d cs t p n.ck))) (whole_note k st.whole st.is) a in
        let f = (all_right R.IsEqual (R.borders schemes cases d cs t p) ((sampled t p, u) ∷ []) e).0 in
        ap (deep home) (sym (Oc.occ_sampled w first E V S t l p h) ∙ ap (λ z. occurrences w z (l ++ p)) f)
        ∙ subst (λ z. deep_at z u ≡ true) st.place (whole_deep k st.whole st.is)

    module _ (used : Each (NodeUsed schemes V) d.nodes) (cs : Clocks) (o : R.Obeys schemes cases d cs) (free : Each (λ (n : Note). mentions w n.ck ≡ false) notes) where
      abbrev pub C : Clocks
      C = record { vars = put_list (list_at V) 0 cs.vars; blocks = put_list place_at 0 cs.blocks }

      abbrev B : ℕ → ClockTerm
      B = R.block schemes cases d cs

      abbrev B' : ℕ → ClockTerm
      B' = R.block schemes cases d C

      var_at : (x : ℕ) → at C.vars x ≡ put (list_at V x) (at cs.vars x)
      var_at x = let z : 0 + x ≡ x = omega arith in at_put (list_at V) 0 cs.vars x ∙ ap (λ j. put (list_at V j) (at cs.vars x)) z

      pub block_at : (j : ℕ) → at C.blocks j ≡ put (place_at j) (at cs.blocks j)
      block_at j = let z : 0 + j ≡ j = omega arith in at_put place_at 0 cs.blocks j ∙ ap (λ i. put (place_at i) (at cs.blocks j)) z

      block_put : (m : ℕ) (l : List InnerArm) → spot m ≡ Some l → B' m ≡ put l (B m)
      block_put m l e = block_at (m - first) ∙ ap (λ z. put z (B m)) (spot_place m l e)

      -- ---- in arms

      abbrev bordersC : ClockTerm → List InnerArm → List Pair
      bordersC = R.borders schemes cases d C

      borders_moved : (t : ClockTerm) (l p : List InnerArm) → Homed (l ++ p) → AreEqual (R.borders schemes cases d cs t p) → AreEqual (bordersC (put l t) p) × (sampled (put l t) p ≡ put (l ++ p) (sampled t p))
      borders_moved t l [] h e = (tt, ap (λ z. put z t) (sym (Pl.end_nil l)))
      borders_moved t l (a ∷ p) h e =
          let s = Oc.homed_split w first E V S [] l p a h in
          let same : l ++ a ∷ p ≡ (l ++ a ∷ []) ++ p = sym (append_assoc l (a ∷ []) p) in
          let up : on (put l t) a.0 a.1 ≡ put (l ++ a ∷ []) (on t a.0 a.1) = sym (put_on t l [] a.0 a.1 a.1 s.0 s.1) in
          let r = borders_moved (on t a.0 a.1) (l ++ a ∷ []) p (subst Homed same h) e.1 in (
            (ap (put l) e.0 ∙ sym (block_put a.0 l s.1), subst (λ z. AreEqual (bordersC z p)) (sym up) r.0),
            ap (λ z. sampled z p) up ∙ r.1 ∙ ap (λ z. put z (sampled (on t a.0 a.1) p)) (sym same),
          )

      seen_moved : (t : ClockTerm) (l p : List InnerArm) (u : ClockTerm) → Homed (l ++ p) → AreEqual (R.seen schemes cases d cs t p u) → AreEqual (R.seen schemes cases d C (put l t) p (put (l ++ p) u))
      seen_moved t l p u h e =
          let q = borders_moved t l p h (all_left R.IsEqual (R.borders schemes cases d cs t p) ((sampled t p, u) ∷ []) e) in
          let f = all_right R.IsEqual (R.borders schemes cases d cs t p) ((sampled t p, u) ∷ []) e in
          all_both R.IsEqual (bordersC (put l t) p) ((sampled (put l t) p, put (l ++ p) u) ∷ []) q.0 (q.1 ∙ ap (put (l ++ p)) f.0, tt)

      -- seen at a place from a list around
      seen_here : (t : ClockTerm) (l : List InnerArm) (p : Place) (u : ClockTerm) → starts_with (arms p) l ≡ true → Homed (arms p)
          → AreEqual (R.seen schemes cases d cs t (R.between l p) u) → AreEqual (R.seen schemes cases d C (put l t) (R.between l p) (put (arms p) u))
      seen_here t l p u s h e =
          let r = Oc.begins (arms p) l s in
          let rest : R.between l p ≡ r.0 = ap (drop (length l)) r.1 ∙ drop_on l r.0 in
          subst (λ z. AreEqual (R.seen schemes cases d C (put l t) z (put (arms p) u))) (sym rest)
          (subst (λ z. AreEqual (R.seen schemes cases d C (put l t) r.0 (put z u))) (sym r.1)
          (seen_moved t l r.0 u (subst Homed r.1 h) (subst (λ z. AreEqual (R.seen schemes cases d cs t z u)) rest e)))

      -- ---- names

      var_stands : (k : ℕ) → k < length V → stands (at cs.vars k) ≡ true
      var_stands k l = let v = some_at V k l in (o.conditions.vars k v.0 v.1).clock.stands

      abbrev Uses : Clocks → Note → Place → (ClockTerm × List InnerArm) → List Pair
      Uses c n p m = if is_function n.ty then (m.0, n.ck) ∷ [] else R.seen_at schemes cases d c p n.ck m

      param_used : (n : Note) (p : Place) → Homed (arms p) → Deep (arms p) n.ck → (i : Option ℕ)
          → AreEqual (opt_pairs (R.with_list schemes cases d cs [] (R.param_clock schemes cases d cs i)) (Uses cs n p)) → AreEqual (opt_pairs (R.with_list schemes cases d C [] (R.param_clock schemes cases d C i)) (Uses C n p))
      param_used n p h k None e = tt
      param_used n p h k (Some i) e = by_note (nth notes i) refl e
        where
          by_note : (q : Option Note) → nth notes i ≡ q → AreEqual (opt_pairs (option_map (λ (t : ClockTerm). (t, [])) (option_map (λ (n : Note). n.ck) q)) (Uses cs n p))
              → AreEqual (opt_pairs (option_map (λ (t : ClockTerm). (t, [])) (option_map (λ (n : Note). n.ck) q)) (Uses C n p))
          by_note None f e = tt
          by_note (Some a) f e =
              let not_here : mentions w a.ck ≡ false = each_nth (λ (n : Note). mentions w n.ck ≡ false) notes i a free f in
              if_equal (is_function n.ty) ((a.ck, n.ck) ∷ []) (R.seen schemes cases d cs a.ck (R.between [] p) n.ck) ((a.ck, n.ck) ∷ []) (R.seen schemes cases d C a.ck (R.between [] p) n.ck) e (λ t x. x)
              (λ x. subst (λ z. AreEqual (R.seen schemes cases d C z (R.between [] p) n.ck)) (put_not [] a.ck not_here)
              (subst (λ z. AreEqual (R.seen schemes cases d C (put [] a.ck) (R.between [] p) z)) (put_deep (arms p) n.ck k) (seen_here a.ck [] p n.ck refl h x)))

      used_by : (n : Note) (p : Place) (bound : Binder) → IsClockOf n.ty n.ck → Homed (arms p) → Deep (arms p) n.ck → InSight schemes V p bound
          → AreEqual (opt_pairs (R.meaning schemes cases d cs bound) (Uses cs n p)) → AreEqual (opt_pairs (R.meaning schemes cases d C bound) (Uses C n p))
      used_by n p (b.Var k) c h q s e =
          let l = list_at V k in
          if_equal (is_function n.ty) ((at cs.vars k, n.ck) ∷ []) (R.seen schemes cases d cs (at cs.vars k) (R.between l p) n.ck)
          ((at C.vars k, n.ck) ∷ []) (R.seen schemes cases d C (at C.vars k) (R.between l p) n.ck) e
          (λ t x. absurd (Re.function_not n.ty n.ck t c.form (ap stands (sym x.0) ∙ var_stands k s.0)))
          (λ x. subst (λ z. AreEqual (R.seen schemes cases d C z (R.between l p) n.ck)) (sym (var_at k))
          (subst (λ z. AreEqual (R.seen schemes cases d C (put l (at cs.vars k)) (R.between l p) z)) (put_deep (arms p) n.ck q) (seen_here (at cs.vars k) l p n.ck s.1 h x)))
      used_by n p (b.Param k) c h q s e = param_used n p h q (R.param_at k params 0) e
      used_by n p b.Nothing c h q s e = tt
      used_by n p (b.Def k) c h q s e = tt
      used_by n p (b.Case t k) c h q s e = tt

      condition_moved : (p : Place) (bound : Binder) (t : ClockTerm) → Here schemes V p bound → Deep (arms p) t → AreEqual (R.condition schemes cases d cs bound t) → AreEqual (R.condition schemes cases d C bound t)
      condition_moved p (b.Var k) t s q e = (var_at k ∙ ap₂ put s e.0 ∙ put_deep (arms p) t q, tt)
      condition_moved p (b.Param k) t s q e = e
      condition_moved p b.Nothing t s q e = tt
      condition_moved p (b.Def k) t s q e = tt
      condition_moved p (b.Case c k) t s q e = tt

      -- ---- calls

      parts_same : (t : ClockTerm) (ns : List Note) → AreEqual (R.parts_on schemes cases d cs t ns) → AreEqual (R.parts_on schemes cases d C t ns)
      parts_same t [] e = tt
      parts_same t (n ∷ ns) e = (e.0, parts_same t ns e.1)

      streams_same : (t : ClockTerm) (ns : List Note) → AreEqual (R.streams_on schemes cases d cs t ns) → AreEqual (R.streams_on schemes cases d C t ns)
      streams_same t [] e = tt
      streams_same t (n ∷ ns) e = both_equal (if is_function n.ty then [] else (n.ck, t) ∷ []) (R.streams_on schemes cases d cs t ns) (if is_function n.ty then [] else (n.ck, t) ∷ []) (R.streams_on schemes cases d C t ns) e (λ x. x) (streams_same t ns)

      meet_same : (ts : List ClockTerm) (ns : List Note) → AreEqual (R.meet schemes cases d cs ts ns) → AreEqual (R.meet schemes cases d C ts ns)
      meet_same [] [] e = tt
      meet_same [] (n ∷ ns) e = tt
      meet_same (t ∷ ts) [] e = tt
      meet_same (t ∷ ts) (n ∷ ns) e = (e.0, meet_same ts ns e.1)

      number_same : (bound : Binder) → R.number_or schemes cases d C bound ≡ R.number_or schemes cases d cs bound
      number_same (b.Var k) = refl
      number_same (b.Param k) = refl
      number_same b.Nothing = refl
      number_same (b.Def k) = refl
      number_same (b.Case t k) = refl

      given_same : (args : List Note) → R.given_names schemes cases d C args ≡ R.given_names schemes cases d cs args
      given_same args = λ i q. unwrap_or (option_map (λ (n : Note). number_same n.bound i) (nth args q)) 0

      insts_same : (by : List ClockTerm) (args : List Note) (ts : List ClockTerm) → R.instances schemes cases d C by args ts ≡ R.instances schemes cases d cs by args ts
      insts_same by args ts = ap (λ f. map (instance f (at by)) ts) (given_same args)

      named_moved : (p : Place) (args : List Note) (qs : List ℕ) → Each (λ (n : Note). Deep (arms p) n.ck) args → Each (λ q. HereAt schemes V p (nth args q)) qs
          → AreEqual (R.named_pairs schemes cases d cs args qs) → AreEqual (R.named_pairs schemes cases d C args qs)
      named_moved p args [] k s e = tt
      named_moved p args (q ∷ qs) k s e = both_equal (opt_pairs (nth args q) (λ n. R.condition schemes cases d cs n.bound n.ck)) (R.named_pairs schemes cases d cs args qs)
          (opt_pairs (nth args q) (λ n. R.condition schemes cases d C n.bound n.ck)) (R.named_pairs schemes cases d C args qs) e (by_arg (nth args q) refl s.0) (named_moved p args qs k s.1)
        where
          by_arg : (a : Option Note) → nth args q ≡ a → HereAt schemes V p a → AreEqual (opt_pairs a (λ n. R.condition schemes cases d cs n.bound n.ck)) → AreEqual (opt_pairs a (λ n. R.condition schemes cases d C n.bound n.ck))
          by_arg None f s e = tt
          by_arg (Some n) f s e = condition_moved p n.bound n.ck s (each_nth (λ (n : Note). Deep (arms p) n.ck) args q n k f) e

      result_same : (by : List ClockTerm) (s : ClockScheme) (n : Note) (args : List Note) (holds : Bool) → AreEqual (R.result_pairs schemes cases d cs by s n args holds) → AreEqual (R.result_pairs schemes cases d C by s n args holds)
      result_same by s n args holds e = subst (λ f. AreEqual (if is_function n.ty
          then (if is_comb n.ty && not holds then [] else (arrow (drop (length args) (map (instance f (at by)) s.clocks)) (instance f (at by) s.result), n.ck) ∷ [])
          else (instance f (at by) s.result, n.ck) ∷ [])) (sym (given_same args)) e

      definition_moved : (p : Place) (by : List ClockTerm) (n : Note) (args : List Note) (holds : Bool) (s : Option ClockScheme) → Each (λ (n : Note). Deep (arms p) n.ck) args → GivenHere schemes V p args s
          → AreEqual (R.definition_pairs schemes cases d cs by n args holds s) → AreEqual (R.definition_pairs schemes cases d C by n args holds s)
      definition_moved p by n args holds None k h e = tt
      definition_moved p by n args holds (Some s) k h e =
          both_equal (R.meet schemes cases d cs (R.instances schemes cases d cs by args s.clocks) args) (R.named_pairs schemes cases d cs args s.names ++ R.result_pairs schemes cases d cs by s n args holds)
          (R.meet schemes cases d C (R.instances schemes cases d C by args s.clocks) args) (R.named_pairs schemes cases d C args s.names ++ R.result_pairs schemes cases d C by s n args holds) e
          (λ x. subst (λ z. AreEqual (R.meet schemes cases d C z args)) (sym (insts_same by args s.clocks)) (meet_same (R.instances schemes cases d cs by args s.clocks) args x))
          (λ x. both_equal (R.named_pairs schemes cases d cs args s.names) (R.result_pairs schemes cases d cs by s n args holds) (R.named_pairs schemes cases d C args s.names) (R.result_pairs schemes cases d C by s n args holds) x
          (named_moved p args s.names k h) (result_same by s n args holds))

      run_same : (run : Bool) (n : Note) (args : List Note) (m : Option (ClockTerm × List InnerArm)) → AreEqual (R.parameter_pairs schemes cases d cs run n args m) → AreEqual (R.parameter_pairs schemes cases d C run n args m)
      run_same true n args None e = tt
      run_same false n args None e = tt
      run_same true n args (Some m) e = e
      run_same false n args (Some m) e = streams_same n.ck args e

      arrow_not : (ts : List ClockTerm) (t : ClockTerm) → stands (arrow ts t) ≡ true → ⊥
      arrow_not ts t e = let f : false ≡ true = sym (ap stands_at (out-roll-ClockTerm (ClockTerm-F.Arrow ts t))) ∙ e in absurd (cc)

      run_var : (run : Bool) (n : Note) (args : List Note) (k : ℕ) → k < length V → AreEqual (R.parameter_pairs schemes cases d cs run n args (R.meaning schemes cases d cs (b.Var k)))
          → AreEqual (R.parameter_pairs schemes cases d C run n args (R.meaning schemes cases d C (b.Var k)))
      run_var true n args k l e = absurd (arrow_not (note_clocks args) n.ck (ap stands (sym e.0) ∙ var_stands k l))
      run_var false n args k l e = streams_same n.ck args e

      call_moved : (p : Place) (by : List ClockTerm) (run : Bool) (n : Note) (args : List Note) (holds : Bool) (bound : Binder) → Each (λ (n : Note). Deep (arms p) n.ck) args → InSight schemes V p bound → CallHere schemes V p args bound
          → AreEqual (R.call_pairs schemes cases d cs by run n args holds bound) → AreEqual (R.call_pairs schemes cases d C by run n args holds bound)
      call_moved p by run n args holds (b.Def j) k s h e = definition_moved p by n args holds (nth schemes j) k h e
      call_moved p by run n args holds (b.Var j) k s h e = run_var run n args j s.0 e
      call_moved p by run n args holds (b.Param j) k s h e = run_same run n args (R.meaning schemes cases d C (b.Param j)) e
      call_moved p by run n args holds b.Nothing k s h e = run_same run n args None e
      call_moved p by run n args holds (b.Case t j) k s h e = run_same run n args None e

      none_here : (p : Place) (s : Option ClockScheme) → GivenHere schemes V p [] s
      none_here p None = tt
      none_here p (Some s) = each_in (λ q. HereAt schemes V p (nth [] q)) s.names (λ q i. tt)

      name_moved : (p : Place) (by : List ClockTerm) (n : Note) (bound : Binder) → n.bound ≡ bound → IsClockOf n.ty n.ck → Homed (arms p) → Deep (arms p) n.ck → InSight schemes V p bound
          → AreEqual (R.name_pairs schemes cases d cs by n p bound) → AreEqual (R.name_pairs schemes cases d C by n p bound)
      name_moved p by n (b.Def j) f c h k s e = definition_moved p by n [] false (nth schemes j) tt (none_here p (nth schemes j)) e
      name_moved p by n (b.Var j) f c h k s e = used_by n p n.bound c h k (subst (InSight schemes V p) (sym f) s) e
      name_moved p by n (b.Param j) f c h k s e = used_by n p n.bound c h k (subst (InSight schemes V p) (sym f) s) e
      name_moved p by n b.Nothing f c h k s e = used_by n p n.bound c h k (subst (InSight schemes V p) (sym f) s) e
      name_moved p by n (b.Case t j) f c h k s e = used_by n p n.bound c h k (subst (InSight schemes V p) (sym f) s) e

      branches_same : (t : ClockTerm) (m m' : ℕ) → m' ≡ m → (all : List (Case × Note)) → AreEqual (R.branch_pairs schemes cases d cs t m all) → AreEqual (R.branch_pairs schemes cases d C t m' all)
      branches_same t m m' f [] e = tt
      branches_same t m m' f (c ∷ all) e = (e.0 ∙ ap (λ z. on t z (R.case_number schemes cases d cs c.0)) (sym f), branches_same t m m' f all e.1)

      -- ---- expressions

      form_moved : (p : Place) (by : List ClockTerm) (n : Note) (holds : Bool) (x : Form-F Note (Unit {0}) Note) → IsClockOf n.ty n.ck → Homed (arms p) → Deep (arms p) n.ck → Each (λ (n : Note). Deep (arms p) n.ck) (form_parts x)
          → InSight schemes V p n.bound → FormHere schemes V p n x → AreEqual (R.form_pairs schemes cases d cs by p n holds x) → AreEqual (R.form_pairs schemes cases d C by p n holds x)
      form_moved p by n holds (Form-F.Leaf l) c h k q s f e = tt
      form_moved p by n holds (Form-F.Case x) c h k q s f e = tt
      form_moved p by n holds (Form-F.Var x) c h k q s f e = name_moved p by n n.bound refl c h k s e
      form_moved p by n holds (Form-F.Last x) c h k q s f e = used_by n p n.bound c h k s e
      form_moved p by n holds (Form-F.Asked x) c h k q s f e = used_by n p n.bound c h k s e
      form_moved p by n holds (Form-F.Op x args) c h k q s f e = parts_same n.ck args e
      form_moved p by n holds (Form-F.Tuple all) c h k q s f e = parts_same n.ck all e
      form_moved p by n holds (Form-F.Pre y) c h k q s f e = e
      form_moved p by n holds (Form-F.Fby y z) c h k q s f e = e
      form_moved p by n holds (Form-F.Init y z) c h k q s f e = e
      form_moved p by n holds (Form-F.When y x v) c h k q s f e =
          both_equal (R.condition schemes cases d cs n.bound y.ck) ((on y.ck (R.number_or schemes cases d cs n.bound) (R.case_number schemes cases d cs v), n.ck) ∷ [])
          (R.condition schemes cases d C n.bound y.ck) ((on y.ck (R.number_or schemes cases d C n.bound) (R.case_number schemes cases d C v), n.ck) ∷ []) e
          (condition_moved p n.bound y.ck f q.0) (λ z. (ap (λ i. on y.ck i (R.case_number schemes cases d cs v)) (number_same n.bound) ∙ z.0, tt))
      form_moved p by n holds (Form-F.Merge x all) c h k q s f e =
          both_equal (R.condition schemes cases d cs n.bound n.ck) (R.branch_pairs schemes cases d cs n.ck (R.number_or schemes cases d cs n.bound) all)
          (R.condition schemes cases d C n.bound n.ck) (R.branch_pairs schemes cases d C n.ck (R.number_or schemes cases d C n.bound) all) e
          (condition_moved p n.bound n.ck f k) (branches_same n.ck (R.number_or schemes cases d cs n.bound) (R.number_or schemes cases d C n.bound) (number_same n.bound) all)
      form_moved p by n holds (Form-F.Call run x args every) c h k q s f e = call_moved p by run n args holds n.bound (all_left (λ (n : Note). Deep (arms p) n.ck) args (option_part every) q) s f e

      node_moved : (n : Layer Note × Place) → NodeDeep n → NodeUsed schemes V n → R.NodeObeys schemes cases d cs n → R.NodeObeys schemes cases d C n
      node_moved n k u h = record {
        clock = h.clock;
        by = h.by;
        many = h.many;
        clocks = h.clocks;
        equal = form_moved n.1 h.by n.0.note n.0.holds n.0.form h.clock k.0 k.1.own k.1.parts u.sight u.here h.equal;
      }

      nodes_moved : (ns : List (Layer Note × Place)) → Each NodeDeep ns → Each (NodeUsed schemes V) ns → Each (R.NodeObeys schemes cases d cs) ns → Each (R.NodeObeys schemes cases d C) ns
      nodes_moved [] k u h = tt
      nodes_moved (n ∷ ns) k u h = (node_moved n k.0 u.0 h.0, nodes_moved ns k.1 u.1 h.1)

      -- ---- equations

      whole_moved : (k : ℕ) (x : Whole Note) → nth E k ≡ Some x → (f f' : Note → List Pair) → (AreEqual (f x.expr.note) → AreEqual (f' x.expr.note))
          → AreEqual (R.whole_pairs schemes cases d cs k f) → AreEqual (R.whole_pairs schemes cases d C k f')
      whole_moved k x e f f' h a =
          subst (λ z. AreEqual (opt_pairs z f')) (sym (whole_note k x e)) (h (subst (λ z. AreEqual (opt_pairs z f)) (whole_note k x e) a))

      right_seen : (x k : ℕ) (s : Site) (l : List InnerArm) → list_at V x ≡ l → arms s.place ≡ l ++ s.inner → Homed (arms s.place) → Stands k (arms s.place)
          → AreEqual (R.whole_pairs schemes cases d cs k (λ n. R.seen schemes cases d cs (at cs.vars x) s.inner n.ck)) → AreEqual (R.whole_pairs schemes cases d C k (λ n. R.seen schemes cases d C (at C.vars x) s.inner n.ck))
      right_seen x k s l e f h st = whole_moved k st.whole st.is (λ n. R.seen schemes cases d cs (at cs.vars x) s.inner n.ck) (λ n. R.seen schemes cases d C (at C.vars x) s.inner n.ck)
          (λ a.
          let u : ClockTerm = st.whole.expr.note.ck in
          let q : put (l ++ s.inner) u ≡ u = ap (λ z. put z u) (sym (st.place ∙ f)) ∙ put_deep (arms st.whole.place) u (whole_deep k st.whole st.is) in
          subst (λ z. AreEqual (R.seen schemes cases d C z s.inner u)) (sym (var_at x ∙ ap (λ z. put z (at cs.vars x)) e))
          (subst (λ z. AreEqual (R.seen schemes cases d C (put l (at cs.vars x)) s.inner z)) q (seen_moved (at cs.vars x) l s.inner u (subst Homed f h) a)))

      pattern_moved : (x : ℕ) (p l : List InnerArm) → list_at V x ≡ l → p ≡ l → Homed p → Pl.LastArm first E V S p
          → AreEqual (R.pattern_pairs schemes cases d cs x (innermost p)) → AreEqual (R.pattern_pairs schemes cases d C x (innermost p))
      pattern_moved x p l e f h last a =
          let arm = last.arm in
          let in' : innermost p ≡ Some arm = ap innermost last.is ∙ innermost_is last.around arm in
          let s = Oc.homed_split w first E V S [] last.around [] arm (subst Homed last.is h) in
          let eq = subst (λ z. AreEqual (R.pattern_pairs schemes cases d cs x z)) in' a in
          subst (λ z. AreEqual (R.pattern_pairs schemes cases d C x z)) (sym in') (
            var_at x ∙ ap₂ put (e ∙ sym f ∙ last.is) eq.0 ∙ put_on (B arm.0) last.around [] arm.0 arm.1 arm.1 s.0 s.1 ∙ ap (λ z. on z arm.0 arm.1) (sym (block_put arm.0 last.around s.1)),
            tt,
          )

      right_moved : (x : ℕ) (s : Site) (r : Right) (l : List InnerArm) → list_at V x ≡ l → arms s.place ≡ l ++ s.inner → Homed (arms s.place) → Pl.RightPlaced first E V S (arms s.place) s.inner r
          → AreEqual (R.right_pairs schemes cases d cs x s r) → AreEqual (R.right_pairs schemes cases d C x s r)
      right_moved x s (rhs.Part q k) l e f h st a = right_seen x k s l e f h st a
      right_moved x s (rhs.Whole k) l e f h st a = right_seen x k s l e f h st a
      right_moved x s (rhs.Pattern y q) l e f h st a = pattern_moved x (arms s.place) l e (f ∙ ap (λ z. l ++ z) st.0 ∙ Pl.end_nil l) h st.1 a

      vars_moved : (s : Site) (q : Pl.SitePlaced first E V S s) (xs : List ℕ) → Each (Pl.Listed V q.list) xs → AreEqual (R.vars_pairs schemes cases d cs s xs) → AreEqual (R.vars_pairs schemes cases d C s xs)
      vars_moved s q [] l e = tt
      vars_moved s q (x ∷ xs) l e = both_equal (R.right_pairs schemes cases d cs x s s.right) (R.vars_pairs schemes cases d cs s xs) (R.right_pairs schemes cases d C x s s.right) (R.vars_pairs schemes cases d C s xs) e
          (right_moved x s s.right q.list (listed_is q.list x l.0) q.place q.homed q.right) (vars_moved s q xs l.1)

      sites_moved : (all : List Site) → Each (Pl.SitePlaced first E V S) all → AreEqual (R.sites_pairs schemes cases d cs all) → AreEqual (R.sites_pairs schemes cases d C all)
      sites_moved [] q e = tt
      sites_moved (s ∷ all) q e = both_equal (R.site_pairs schemes cases d cs s) (R.sites_pairs schemes cases d cs all) (R.site_pairs schemes cases d C s) (R.sites_pairs schemes cases d C all) e
          (vars_moved s q.0 s.vars q.0.vars) (sites_moved all q.1)

      -- bound by the pattern of a test
      record Tested (x : ℕ) (l : List InnerArm) : Type 0 where
        pub around : List InnerArm
        pub arm : InnerArm
        pub is : l ≡ around ++ arm ∷ []
        pub clock : at cs.vars x ≡ on (B arm.0) arm.0 arm.1

      bound_case : (x : ℕ) (s : Site) (r : Right) (l : List InnerArm) → arms s.place ≡ l ++ s.inner → Homed (arms s.place) → Pl.RightPlaced first E V S (arms s.place) s.inner r
          → AreEqual (R.right_pairs schemes cases d cs x s r) → (deep_at l (at cs.vars x) ≡ true) ⊎ Tested x l
      bound_case x s (rhs.Part q k) l f h st a = inl (seen_deep cs (at cs.vars x) k l s.inner (subst Homed f h) (subst (Stands k) f st) a)
      bound_case x s (rhs.Whole k) l f h st a = inl (seen_deep cs (at cs.vars x) k l s.inner (subst Homed f h) (subst (Stands k) f st) a)
      bound_case x s (rhs.Pattern y q) l f h st a =
          let last = st.1 in
          let in' : innermost (arms s.place) ≡ Some last.arm = ap innermost last.is ∙ innermost_is last.around last.arm in
          let e = subst (λ z. AreEqual (R.pattern_pairs schemes cases d cs x z)) in' a in
          inr (record { around = last.around; arm = last.arm; is = sym (f ∙ ap (λ z. l ++ z) st.0 ∙ Pl.end_nil l) ∙ last.is; clock = e.0 })

      bound_var : (x : ℕ) (l : List InnerArm) → Pl.Listed V l x → (deep_at l (at cs.vars x) ≡ true) ⊎ Tested x l
      bound_var x l h =
          let s = pl.sited x h.variable h.is in
          let q = in_each (Pl.SitePlaced first E V S) g.sites s.site pl.sites s.among in
          let same : q.list ≡ l = sym (listed_is q.list x (in_each (Pl.Listed V q.list) s.site.vars x q.vars s.binds)) ∙ listed_is l x h in
          bound_case x s.site s.site.right l (q.place ∙ ap (λ z. z ++ s.site.inner) same) q.homed q.right (right_equal cs o s.site x s.among s.binds)

      -- ---- initial equations

      begun : (x k : ℕ) (l inner : List InnerArm) → Pl.Listed V l x → Stands k (l ++ inner) → AreEqual (R.whole_pairs schemes cases d cs k (λ n. (at cs.vars x, n.ck) ∷ []))
          → AreEqual (R.whole_pairs schemes cases d C k (λ n. (at C.vars x, n.ck) ∷ []))
      begun x k l inner h st = whole_moved k st.whole st.is (λ n. (at cs.vars x, n.ck) ∷ []) (λ n. (at C.vars x, n.ck) ∷ [])
          (λ a. (var_at x ∙ ap (λ z. put z (at cs.vars x)) (listed_is l x h) ∙ put_deep l (at cs.vars x) (start_deep a.0) ∙ a.0, tt))
        where
          u : ClockTerm
          u = st.whole.expr.note.ck

          there : at cs.vars x ≡ u → deep_at (l ++ inner) (at cs.vars x) ≡ true
          there e = ap (deep_at (l ++ inner)) e ∙ subst (λ z. deep_at z u ≡ true) st.place (whole_deep k st.whole st.is)

          homed_all : Homed (l ++ inner)
          homed_all = subst Homed st.place (each_nth (λ (x : Whole Note). Homed (arms x.place)) E k st.whole pl.exprs st.is)

          tested : Tested x l → at cs.vars x ≡ u → deep_at l (at cs.vars x) ≡ true
          tested t e =
              let arm = t.arm in
              let long : l ++ inner ≡ t.around ++ arm ∷ inner = ap (λ z. z ++ inner) t.is ∙ append_assoc t.around (arm ∷ []) inner in
              let s = Oc.homed_split w first E V S [] t.around inner arm (subst Homed long homed_all) in
              ap₂ deep_at t.is t.clock ∙ deep_on (B arm.0) t.around [] arm.0 arm.1 arm.1 s.0 s.1
              ∙ sym (deep_on (B arm.0) t.around inner arm.0 arm.1 arm.1 s.0 s.1) ∙ sym (ap₂ deep_at long t.clock) ∙ there e

          start_deep : at cs.vars x ≡ u → deep_at l (at cs.vars x) ≡ true
          start_deep e = elim (bound_var x l h) [ inl q ↦ q | inr t ↦ tested t e ]

      begin_moved : (s : Start) (x : Option ℕ) → F.place_of s.name s.list V 0 ≡ x → Pl.StartPlaced first E V S s → AreEqual (R.begin_pairs schemes cases d cs s x) → AreEqual (R.begin_pairs schemes cases d C s x)
      begin_moved s None f q e = tt
      begin_moved s (Some x) f q e = begun x s.right s.list q.inner (Pl.listed_at first E V S cases signal s.name s.list V x f) q.at e

      starts_moved : (all : List Start) → Each (Pl.StartPlaced first E V S) all → AreEqual (R.starts_pairs schemes cases d cs all) → AreEqual (R.starts_pairs schemes cases d C all)
      starts_moved [] q e = tt
      starts_moved (s ∷ all) q e = both_equal (R.start_pairs schemes cases d cs s) (R.starts_pairs schemes cases d cs all) (R.start_pairs schemes cases d C s) (R.starts_pairs schemes cases d C all) e
          (begin_moved s (F.place_of s.name s.list V 0) refl q.0) (starts_moved all q.1)

      -- ---- blocks

      signal_moved : (m : ℕ) (p : Place) (x : ℕ) (i : Option ℕ) → Homed (arms p) → B' m ≡ put (arms p) (B m) → signal_in x (arms p) V 0 ≡ i
          → AreEqual (opt_pairs (R.signal_meaning schemes cases d cs x i) (R.seen_at schemes cases d cs p (B m))) → AreEqual (opt_pairs (R.signal_meaning schemes cases d C x i) (R.seen_at schemes cases d C p (B' m)))
      signal_moved m p x (Some k) h s f e =
          subst (λ z. AreEqual (R.seen schemes cases d C (at C.vars k) (R.between (list_at V k) p) z)) (sym s)
          (subst (λ z. AreEqual (R.seen schemes cases d C z (R.between (list_at V k) p) (put (arms p) (B m)))) (sym (var_at k)) (seen_here (at cs.vars k) (list_at V k) p (B m) (signal_around x (arms p) k f) h e))
      signal_moved m p x None h s f e = by_param (R.param_named x params 0) e
        where
          by_note : (q : Option Note) → ((a : Note) → q ≡ Some a → mentions w a.ck ≡ false) → AreEqual (opt_pairs (option_map (λ (t : ClockTerm). (t, [])) (option_map (λ (n : Note). n.ck) q)) (R.seen_at schemes cases d cs p (B m)))
              → AreEqual (opt_pairs (option_map (λ (t : ClockTerm). (t, [])) (option_map (λ (n : Note). n.ck) q)) (R.seen_at schemes cases d C p (B' m)))
          by_note None f e = tt
          by_note (Some a) f e =
              subst (λ z. AreEqual (R.seen schemes cases d C a.ck (R.between [] p) z)) (sym s)
              (subst (λ z. AreEqual (R.seen schemes cases d C z (R.between [] p) (put (arms p) (B m)))) (put_not [] a.ck (f a refl)) (seen_here a.ck [] p (B m) refl h e))

          by_param : (i : Option ℕ) → AreEqual (opt_pairs (R.with_list schemes cases d cs [] (R.param_clock schemes cases d cs i)) (R.seen_at schemes cases d cs p (B m)))
              → AreEqual (opt_pairs (R.with_list schemes cases d C [] (R.param_clock schemes cases d C i)) (R.seen_at schemes cases d C p (B' m)))
          by_param None e = tt
          by_param (Some i) e = by_note (nth notes i) (λ a q. each_nth (λ (n : Note). mentions w n.ck ≡ false) notes i a free q) e

      signals_moved : (m : ℕ) (p : Place) → Homed (arms p) → B' m ≡ put (arms p) (B m) → (xs : List ℕ) → AreEqual (R.signal_pairs schemes cases d cs (B m) p xs) → AreEqual (R.signal_pairs schemes cases d C (B' m) p xs)
      signals_moved m p h s [] e = tt
      signals_moved m p h s (x ∷ xs) e =
          both_equal (opt_pairs (R.signal_meaning schemes cases d cs x (signal_in x (arms p) V 0)) (R.seen_at schemes cases d cs p (B m))) (R.signal_pairs schemes cases d cs (B m) p xs)
          (opt_pairs (R.signal_meaning schemes cases d C x (signal_in x (arms p) V 0)) (R.seen_at schemes cases d C p (B' m))) (R.signal_pairs schemes cases d C (B' m) p xs) e
          (signal_moved m p x (signal_in x (arms p) V 0) h s refl) (signals_moved m p h s xs)

      conds_moved : (t t' : ClockTerm) (l : List InnerArm) → put l t ≡ t' → (gs : List Transition) → Pl.CondsAt first E V S l gs → AreEqual (R.conditions_on schemes cases d cs t gs) → AreEqual (R.conditions_on schemes cases d C t' gs)
      conds_moved t t' l s [] q e = tt
      conds_moved t t' l s (c ∷ gs) q e =
          both_equal (R.whole_pairs schemes cases d cs c.cond (λ n. (n.ck, t) ∷ [])) (R.conditions_on schemes cases d cs t gs) (R.whole_pairs schemes cases d C c.cond (λ n. (n.ck, t') ∷ [])) (R.conditions_on schemes cases d C t' gs) e
          (whole_moved c.cond q.0.whole q.0.is (λ n. (n.ck, t) ∷ []) (λ n. (n.ck, t') ∷ [])
          (λ a.
          let u : ClockTerm = q.0.whole.expr.note.ck in
          let noted : put l u ≡ u = ap (λ z. put z u) (sym q.0.place) ∙ put_deep (arms q.0.whole.place) u (whole_deep c.cond q.0.whole q.0.is) in
          (sym noted ∙ ap (put l) a.0 ∙ s, tt)))
          (conds_moved t t' l s gs q.1)

      guards_moved : (t t' : ClockTerm) (m j : ℕ) (l : List InnerArm) → put l t ≡ t' → Homed l → spot m ≡ Some l → (all : List (ℕ × List Transition)) → Pl.StatesAt first E V S m j l all
          → AreEqual (R.guard_pairs schemes cases d cs t m j all) → AreEqual (R.guard_pairs schemes cases d C t' m j all)
      guards_moved t t' m j l s h f [] q e = tt
      guards_moved t t' m j l s h f (gs ∷ all) q e =
          both_equal (R.conditions_on schemes cases d cs (on t m j) gs.1) (R.guard_pairs schemes cases d cs t m (suc j) all) (R.conditions_on schemes cases d C (on t' m j) gs.1) (R.guard_pairs schemes cases d C t' m (suc j) all) e
          (conds_moved (on t m j) (on t' m j) (l ++ (m, j) ∷ []) (put_on t l [] m j j h f ∙ ap (λ z. on z m j) s) gs.1 q.0) (guards_moved t t' m (suc j) l s h f all q.1)

      spot_name : (i : ℕ) (n : Named) → nth g.names i ≡ Some n → spot (first + i) ≡ Pl.spot_arms n
      spot_name i n e =
          let low : nat_lt (first + i) first ≡ false = grind (arith, nat_tests) in
          let j : (first + i) - first ≡ i = omega arith in
          ap (λ t. if t then None else Pl.or_none (nth S ((first + i) - first))) low ∙ ap (λ z. Pl.or_none (nth S z)) j ∙ ap Pl.or_none (nth_map Pl.spot_arms g.names i ∙ ap (option_map Pl.spot_arms) e)

      block_moved : (i m : ℕ) (n : Named) → m ≡ first + i → nth g.names i ≡ Some n → Pl.NamedPlaced first E V S i n → AreEqual (R.block_pairs schemes cases d cs m n) → AreEqual (R.block_pairs schemes cases d C m n)
      block_moved i m (named.Clock x) f e q a = tt
      block_moved i m (named.Match k all p) f e q a =
          let s : B' m ≡ put (arms p) (B m) = block_put m (arms p) (ap spot f ∙ spot_name i (named.Match k all p) e) in
          let st = q.1 in
          whole_moved k st.whole st.is (λ n. (n.ck, B m) ∷ []) (λ n. (n.ck, B' m) ∷ [])
          (λ x.
          let u : ClockTerm = st.whole.expr.note.ck in
          let noted : put (arms p) u ≡ u = ap (λ z. put z u) (sym st.place) ∙ put_deep (arms st.whole.place) u (whole_deep k st.whole st.is) in
          (sym noted ∙ ap (put (arms p)) x.0 ∙ sym s, tt)) a
      block_moved i m (named.Present xs p) f e q a = signals_moved m p q (block_put m (arms p) (ap spot f ∙ spot_name i (named.Present xs p) e)) xs a
      block_moved i m (named.Active all p) f e q a =
          let next : suc m ≡ suc (first + i) = ap suc f in
          let s : B' m ≡ put (arms p) (B m) = block_put m (arms p) (ap spot f ∙ spot_name i (named.Active all p) e) in
          let s' : B' (suc m) ≡ put (arms p) (B (suc m)) = block_put (suc m) (arms p) (ap spot next ∙ q.1) in (
            s' ∙ ap (put (arms p)) a.0 ∙ sym s,
            guards_moved (B m) (B' m) (suc m) 0 (arms p) (sym s) q.0 (ap spot next ∙ q.1) all (subst (λ z. Pl.StatesAt first E V S z 0 (arms p) all) (sym next) q.2) a.1,
          )
      block_moved i m (named.Tested all p) f e q a =
          let last : m - 1 ≡ first + i - 1 = ap (λ z. z - 1) f in
          let s : B' m ≡ put (arms p) (B m) = block_put m (arms p) (ap spot f ∙ spot_name i (named.Tested all p) e) in
          guards_moved (B m) (B' m) (m - 1) 0 (arms p) (sym s) q.0 (ap spot last ∙ q.1) all (subst (λ z. Pl.StatesAt first E V S z 0 (arms p) all) (sym last) q.2) a

      blocks_moved : (i m : ℕ) (ns : List Named) → m ≡ first + i → ((j : ℕ) → nth g.names (i + j) ≡ nth ns j) → Pl.NamesPlaced first E V S i ns → AreEqual (R.blocks_pairs schemes cases d cs m ns) → AreEqual (R.blocks_pairs schemes cases d C m ns)
      blocks_moved i m [] f e q a = tt
      blocks_moved i m (n ∷ ns) f e q a =
          let z : i ≡ i + 0 = omega arith in
          let up : suc m ≡ first + suc i = omega (arith, f) in
          both_equal (R.block_pairs schemes cases d cs m n) (R.blocks_pairs schemes cases d cs (suc m) ns) (R.block_pairs schemes cases d C m n) (R.blocks_pairs schemes cases d C (suc m) ns) a
          (block_moved i m n f (ap (nth g.names) z ∙ e 0) q.0) (blocks_moved (suc i) (suc m) ns up (λ j. let y : suc i + j ≡ i + suc j = omega arith in ap (nth g.names) y ∙ e (suc j)) q.1)

      equations_moved : AreEqual (R.equation_pairs schemes cases d C)
      equations_moved =
          both_equal (R.sites_pairs schemes cases d cs d.sites) (R.starts_pairs schemes cases d cs d.starts ++ R.blocks_pairs schemes cases d cs first d.names)
          (R.sites_pairs schemes cases d C d.sites) (R.starts_pairs schemes cases d C d.starts ++ R.blocks_pairs schemes cases d C first d.names) o.equal
          (sites_moved g.sites pl.sites)
          (λ x. both_equal (R.starts_pairs schemes cases d cs d.starts) (R.blocks_pairs schemes cases d cs first d.names) (R.starts_pairs schemes cases d C d.starts) (R.blocks_pairs schemes cases d C first d.names) x
          (starts_moved g.starts pl.starts)
          (blocks_moved 0 first g.names (let z : first ≡ first + 0 = omega arith in z) (λ j. let z : 0 + j ≡ j = omega arith in ap (nth g.names) z) pl.names))

      -- ---- conditions

      within_put : (list l : List InnerArm) (t : ClockTerm) → R.IsWithin schemes cases d cs list t → R.IsWithin schemes cases d C list (put l t)
      within_put list l t h = put_names (λ m. starts_with list (R.name_list schemes cases d cs m) ≡ true) l t h

      var_moved : (x : ℕ) (v : Variable) → R.VarObeys schemes cases d cs x v → R.VarObeys schemes cases d C x v
      var_moved x v h = record {
        clock = subst IsClock (sym (var_at x)) (put_clock (list_at V x) (at cs.vars x) h.clock);
        within = subst (R.IsWithin schemes cases d C v.list) (sym (var_at x)) (within_put v.list (list_at V x) (at cs.vars x) h.within);
      }

      block_condition : (j : ℕ) (n : Named) → R.BlockObeys schemes cases d cs j n → R.BlockObeys schemes cases d C j n
      block_condition j n h = record {
        clock = subst IsClock (sym (block_at j)) (put_clock (place_at j) (at cs.blocks j) h.clock);
        arm = (let e = ap size (block_at j) ∙ put_size (place_at j) (at cs.blocks j) in let a = h.arm in omega (arith, e, a));
        within = subst (R.IsWithin schemes cases d C (R.name_place schemes cases d C n)) (sym (block_at j)) (within_put (R.name_place schemes cases d cs n) (place_at j) (at cs.blocks j) h.within);
      }

      pub obeys : R.Obeys schemes cases d C
      obeys = record {
        nodes = nodes_moved d.nodes all_deep used o.nodes;
        equal = equations_moved;
        conditions = record {
          many_vars = long_put (list_at V) 0 cs.vars ∙ o.conditions.many_vars;
          many_blocks = long_put place_at 0 cs.blocks ∙ o.conditions.many_blocks;
          vars = λ x v e. var_moved x v (o.conditions.vars x v e);
          blocks = λ j n e. block_condition j n (o.conditions.blocks j n e);
          params = each_zip (R.ParamObeys schemes cases d cs) (R.ParamObeys schemes cases d cs) (R.ParamObeys schemes cases d C) (λ n x y. record { clock = x.clock; public = x.public }) notes o.conditions.params o.conditions.params;
          result = o.conditions.result;
          acyclic = record { rank = o.conditions.acyclic.rank; below = o.conditions.acyclic.below };
        };
      }
