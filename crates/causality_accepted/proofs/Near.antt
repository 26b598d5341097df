-- What the model reads and the rules of causality do not name stands around the place that reads it.
use Rattle.std.specs.Prelude.{◌≡◌, refl, ℕ, zero, suc, ◌+◌, ◌-◌, ◌==◌, ◌<◌, ◌≤◌, ◌||◌, nat_lt, Bool, true, false, List, [], ◌∷◌, ◌++◌, map, length, Option, Some, None, if◌then◌else◌}
use Rattle.std.proofs.Common.{ap, sym, ◌∙◌, subst, inl, inr, arith}
use Rattle.std.proofs.lemmas.Bool.{eqb-true, eq-eqb}
use Rattle.std.proofs.lemmas.Bool.Decides.{nat_tests}
use Rattle.ls_ast.specs.declared.tree.Case.{Case}
use Rattle.ls_ast.specs.declared.tree.Expr.{Expr-F}
use Rattle.ls_ast.specs.declared.tree.Form.TheOpen.{Form-F}
use Rattle.ls_terms.specs.declared.clocks.ClockTerm.{ClockTerm, fold-roll-ClockTerm, map-ClockTerm, out-ClockTerm, roll-ClockTerm, roll-out-ClockTerm}
use Rattle.ls_terms.specs.declared.clocks.ClockTerm.TheOpen.{ClockTerm-F}
use Rattle.ls_sig.specs.declared.binder.Note.{Note}
use Rattle.ls_places.specs.Clocks.{any, below, below_open, choice_parts, clock_depth, clocks_in, mentions, mentions_step, noted, or_else}
use Rattle.ls_places.specs.Patterns.{joined}
use Rattle.ls_places.specs.Places.{InnerArm}
use Rattle.ls_places.specs.Search.{E, all_clocks, arms_within, home_of, in_signature, nth}
use Rattle.ls_places.specs.declared.places.Whole.{Whole}
use Rattle.ls_places.specs.declared.definition.Key.{Key}
use Rattle.ls_places.specs.declared.definition.Definition.{Definition}
use Rattle.digraph.specs.Graph.{In, first as here, later}
use Rattle.tree_notes.specs.Each.{Each}
use Rattle.tree_notes.specs.Order as Or
use Rattle.tree_notes.proofs.Related
use Rattle.tree_notes.proofs.Refold.{in_choices}
use Rattle.tree_notes.proofs.Related.{related}
use Rattle.kahn_model.specs.Reads.{arm_key, arm_keys}
use Rattle.clock_rules.specs.Layers.{Layer, Laid, Inside, expr_layers, form_layers, laid_layers, layers}
use Rattle.clock_rules.proofs.Sides.{all_left, all_right, all_both}
use Rattle.clock_rules.proofs.Substitution.{With, bottoms, induct}
use Rattle.clock_laws.specs.WellFormed.{samplings}
use Rattle.clock_laws.proofs.Shrink.{samplings_on, samplings_arrow}
use Rattle.causality_links.specs.Close as close
use Rattle.causality_links.specs.Close.{Sub, Two, Wide, all_wide, every_wide}
use Rattle.causality_premises.specs.Premises.{names_sampled, sampled_step}
use Rattle.causality_accepted.proofs.Occurs as Oc

-- ---- rows among rows

pub sub_none : (zs : List Key) → Sub [] zs
sub_none zs l h = absurd (Oc.none_in h)

pub sub_both : (xs ys zs : List Key) → Sub xs zs → Sub ys zs → Sub (xs ++ ys) zs
sub_both xs ys zs f g l h = elim (Oc.in_split l xs ys h) [ inl a ↦ f l a | inr a ↦ g l a ]

pub arms_within_sub : (l p : List InnerArm) → Sub (arm_keys (arms_within l p)) (arm_keys p)
arms_within_sub [] p k h = h
arms_within_sub (a ∷ l) [] k h = h
arms_within_sub (a ∷ l) (c ∷ p) k h = later (arm_key c) (arm_keys p) (arms_within_sub l p k h)

-- ---- the names that a clock is sampled on

module _ (P : ℕ → Type 0) where
  abbrev OfName : ClockTerm × ℕ → Type 0
  OfName z = P z.1

  abbrev Told : ClockTerm → Type 0
  Told t = Each OfName (samplings t) → Each P (names_sampled t)

  abbrev terms : List (With Told) → List ClockTerm
  terms = map {A = With Told} {B = ClockTerm} (λ q. q.0)

  names_roll : (x : ClockTerm-F ClockTerm) → names_sampled (roll-ClockTerm x) ≡ sampled_step (map-ClockTerm ClockTerm (List ℕ) names_sampled x)
  names_roll x = fold-roll-ClockTerm (List ℕ) sampled_step x

  told_all : (qs : List (With Told)) → Each OfName (Or.joined (map samplings (terms qs))) → Each P (joined (map names_sampled (terms qs)))
  told_all [] h = tt
  told_all (q ∷ qs) h = all_both P (names_sampled q.0) (joined (map names_sampled (terms qs))) (q.1 (all_left OfName (samplings q.0) (Or.joined (map samplings (terms qs))) h))
      (told_all qs (all_right OfName (samplings q.0) (Or.joined (map samplings (terms qs))) h))

  told_at : (y : ClockTerm-F (With Told)) → Told (roll-ClockTerm (bottoms Told y))
  told_at (ClockTerm-F.Var v) h = subst (Each P) (sym (names_roll (ClockTerm-F.Var v))) tt
  told_at (ClockTerm-F.On q m k) h =
      let s = subst (Each OfName) (samplings_on q.0 m k) h in subst (Each P) (sym (names_roll (ClockTerm-F.On q.0 m k))) (s.0, q.1 s.1)
  told_at ClockTerm-F.Pointwise h = subst (Each P) (sym (names_roll ClockTerm-F.Pointwise)) tt
  told_at (ClockTerm-F.Arrow qs q) h =
      let ts : List ClockTerm = terms qs in
      let s = subst (Each OfName) (samplings_arrow ts q.0) h in
      subst (Each P) (sym (names_roll (ClockTerm-F.Arrow ts q.0))) (all_both P (joined (map names_sampled ts)) (names_sampled q.0)
      (told_all qs (all_left OfName (Or.joined (map samplings ts)) (samplings q.0) s)) (q.1 (all_right OfName (Or.joined (map samplings ts)) (samplings q.0) s)))

  pub names_of_samplings : (t : ClockTerm) → Each OfName (samplings t) → Each P (names_sampled t)
  names_of_samplings = induct Told told_at

-- ---- the clock that is noted below a sampling

below_at : (n m : ℕ) (c : ClockTerm) (x : ClockTerm-F ClockTerm) → ((t : ClockTerm) → below n m t ≡ Some c → In (c, m) (samplings t)) → below_open m (below n m) x ≡ Some c → In (c, m) (samplings (roll-ClockTerm x))
below_at n m c (ClockTerm-F.On t i k) f e = subst (λ z. In (c, m) z) (sym (samplings_on t i k)) (by_case (i == m) refl e)
  where
    by_case : (b : Bool) → (i == m) ≡ b → (if b then Some t else below n m t) ≡ Some c → In (c, m) ((t, i) ∷ samplings t)
    by_case true g h = let s : t ≡ c = cc in subst (λ (z : ClockTerm × ℕ). In z ((t, i) ∷ samplings t)) (λ j. (s j, eqb-true i m g j)) (here (samplings t))
    by_case false g h = later (t, i) (samplings t) (f t h)
below_at n m c (ClockTerm-F.Var v) f e = absurd (cc)
below_at n m c ClockTerm-F.Pointwise f e = absurd (cc)
below_at n m c (ClockTerm-F.Arrow ts t) f e = absurd (cc)

below_in : (n m : ℕ) (t c : ClockTerm) → below n m t ≡ Some c → In (c, m) (samplings t)
below_in zero m t c e = absurd (cc)
below_in (suc n) m t c e = subst (λ z. In (c, m) (samplings z)) (roll-out-ClockTerm t) (below_at n m c (out-ClockTerm t) (λ u f. below_in n m u c f) e)

record NotedIn (m : ℕ) (c : ClockTerm) (ts : List ClockTerm) : Type 0 where
  pub clock : ClockTerm
  pub among : In clock ts
  pub below : In (c, m) (samplings clock)

noted_if : (m : ℕ) (c t : ClockTerm) (ts : List ClockTerm) (o : Option ClockTerm) → (o ≡ Some c → In (c, m) (samplings t)) → (noted m ts ≡ Some c → NotedIn m c ts) → or_else o (noted m ts) ≡ Some c → NotedIn m c (t ∷ ts)
noted_if m c t ts None f g e = let r = g e in record { clock = r.clock; among = later t ts r.among; below = r.below }
noted_if m c t ts (Some u) f g e = record { clock = t; among = here ts; below = f e }

noted_in : (m : ℕ) (ts : List ClockTerm) (c : ClockTerm) → noted m ts ≡ Some c → NotedIn m c ts
noted_in m [] c e = absurd (cc)
noted_in m (t ∷ ts) c e = noted_if m c t ts (below (clock_depth t) m t) (below_in (clock_depth t) m t c) (noted_in m ts c) e

record ClockOf (t : ClockTerm) (xs : List (Whole Note)) : Type 0 where
  pub whole : Whole Note
  pub among : In whole xs
  pub is : In t (clocks_in whole.expr)

clock_of : (t : ClockTerm) (xs : List (Whole Note)) → In t (all_clocks xs) → ClockOf t xs
clock_of t [] i = absurd (Oc.none_in i)
clock_of t (x ∷ xs) i = elim (Oc.in_split t (clocks_in x.expr) (all_clocks xs) i) [
  | inl j ↦ record { whole = x; among = here xs; is = j }
  | inr j ↦ let r = clock_of t xs j in record { whole = r.whole; among = later x xs r.among; is = r.is }
]

-- a clock below a sampling on this name is noted in a whole expression
pub record NotedAt (m : ℕ) (c : ClockTerm) (xs : List (Whole Note)) : Type 0 where
  pub whole : Whole Note
  pub clock : ClockTerm
  pub among : In whole xs
  pub is : In clock (clocks_in whole.expr)
  pub below : In (c, m) (samplings clock)

pub noted_at : (m : ℕ) (xs : List (Whole Note)) (c : ClockTerm) → noted m (all_clocks xs) ≡ Some c → NotedAt m c xs
noted_at m xs c e =
    let n = noted_in m (all_clocks xs) c e in
    let r = clock_of n.clock xs n.among in
    record { whole = r.whole; clock = n.clock; among = r.among; is = r.is; below = n.below }

module _ (d : Definition) (zs : List Key) where
  abbrev Known : ℕ → Type 0
  Known m = m < length d.params + length d.places.names

  some_at : {A : Type 0} (xs : List A) (k : ℕ) → k < length xs → (x : A) × (nth xs k ≡ Some x)
  some_at [] k l = absurd (omega (arith, l))
  some_at (x ∷ xs) zero l = (x, refl)
  some_at (x ∷ xs) (suc k) l = some_at xs k (omega (arith, l))

  known_named : (m : ℕ) → Known m → close.unknown_names d m ≡ []
  known_named m l = by_case (nat_lt m (length d.params)) refl
    where
      by_case : (b : Bool) → nat_lt m (length d.params) ≡ b → (if b then [] else close.unknown_name d m (nth d.places.names (m - length d.params))) ≡ []
      by_case true e = refl
      by_case false e =
          let low : length d.params ≤ m = grind (arith, nat_tests, e) in
          let n = some_at d.places.names (m - length d.params) (omega (arith, l, low)) in
          ap (close.unknown_name d m) n.1

  -- ---- clocks

  abbrev HomesNear : ClockTerm → Type 0
  HomesNear t = (w : ℕ) → mentions w t ≡ true → in_signature d w ≡ false → Sub (arm_keys (home_of w d.places.exprs)) zs

  abbrev Near : ClockTerm → Type 0
  Near t = Each Known (names_sampled t) → HomesNear t → Sub (close.clock_more d t) zs

  abbrev parts : List (With Near) → List ClockTerm
  parts = map {A = With Near} {B = ClockTerm} (λ q. q.0)

  known_roll : (x : ClockTerm-F ClockTerm) → names_sampled (roll-ClockTerm x) ≡ sampled_step (map-ClockTerm ClockTerm (List ℕ) names_sampled x)
  known_roll x = fold-roll-ClockTerm (List ℕ) sampled_step x

  more_roll : (x : ClockTerm-F ClockTerm) → close.clock_more d (roll-ClockTerm x) ≡ close.clock_more_step d (map-ClockTerm ClockTerm (List Key) (close.clock_more d) x)
  more_roll x = fold-roll-ClockTerm (List Key) (close.clock_more_step d) x

  men_roll : (w : ℕ) (x : ClockTerm-F ClockTerm) → mentions w (roll-ClockTerm x) ≡ mentions_step w (map-ClockTerm ClockTerm Bool (mentions w) x)
  men_roll w x = fold-roll-ClockTerm Bool (mentions_step w) x

  left_or : (a b : Bool) → a ≡ true → (a || b) ≡ true
  left_or true b e = refl
  left_or false b e = absurd (cc)

  right_or : (a b : Bool) → b ≡ true → (a || b) ≡ true
  right_or true b e = refl
  right_or false b e = e

  near_all : (qs : List (With Near)) → Each Known (joined (map names_sampled (parts qs)))
      → ((w : ℕ) → any (map (mentions w) (parts qs)) ≡ true → in_signature d w ≡ false → Sub (arm_keys (home_of w d.places.exprs)) zs) → Sub (joined (map (close.clock_more d) (parts qs))) zs
  near_all [] k h = sub_none zs
  near_all (q ∷ qs) k h = sub_both (close.clock_more d q.0) (joined (map (close.clock_more d) (parts qs))) zs
      (q.1 (all_left Known (names_sampled q.0) (joined (map names_sampled (parts qs))) k) (λ w e. h w (left_or (mentions w q.0) (any (map (mentions w) (parts qs))) e)))
      (near_all qs (all_right Known (names_sampled q.0) (joined (map names_sampled (parts qs))) k) (λ w e. h w (right_or (mentions w q.0) (any (map (mentions w) (parts qs))) e)))

  near_at : (y : ClockTerm-F (With Near)) → Near (roll-ClockTerm (bottoms Near y))
  near_at (ClockTerm-F.Var v) k h = subst (λ z. Sub z zs) (sym (more_roll (ClockTerm-F.Var v))) (by_case (in_signature d v) refl)
    where
      by_case : (b : Bool) → in_signature d v ≡ b → Sub (if b then [] else arm_keys (home_of v d.places.exprs)) zs
      by_case true e = sub_none zs
      by_case false e = h v (men_roll v (ClockTerm-F.Var v) ∙ eq-eqb v v refl) e
  near_at (ClockTerm-F.On q m i) k h =
      let s = subst (Each Known) (known_roll (ClockTerm-F.On q.0 m i)) k in
      subst (λ z. Sub z zs) (sym (more_roll (ClockTerm-F.On q.0 m i))) (sub_both (close.unknown_names d m) (close.clock_more d q.0) zs
      (subst (λ z. Sub z zs) (sym (known_named m s.0)) (sub_none zs)) (q.1 s.1 (λ w e. h w (men_roll w (ClockTerm-F.On q.0 m i) ∙ e))))
  near_at ClockTerm-F.Pointwise k h = subst (λ z. Sub z zs) (sym (more_roll ClockTerm-F.Pointwise)) (sub_none zs)
  near_at (ClockTerm-F.Arrow qs q) k h =
      let ts : List ClockTerm = parts qs in
      let s = subst (Each Known) (known_roll (ClockTerm-F.Arrow ts q.0)) k in
      subst (λ z. Sub z zs) (sym (more_roll (ClockTerm-F.Arrow ts q.0))) (sub_both (joined (map (close.clock_more d) ts)) (close.clock_more d q.0) zs
      (near_all qs (all_left Known (joined (map names_sampled ts)) (names_sampled q.0) s) (λ w e. h w (men_roll w (ClockTerm-F.Arrow ts q.0) ∙ left_or (any (map (mentions w) ts)) (mentions w q.0) e)))
      (q.1 (all_right Known (joined (map names_sampled ts)) (names_sampled q.0) s) (λ w e. h w (men_roll w (ClockTerm-F.Arrow ts q.0) ∙ right_or (any (map (mentions w) ts)) (mentions w q.0) e))))

  pub clock_near : (t : ClockTerm) → Each Known (names_sampled t) → HomesNear t → Sub (close.clock_more d t) zs
  clock_near = induct Near near_at

  -- ---- expressions, where their layers are so

  module _ (function : Note → Bool) where
    pub record LayerNear (l : Layer Note) : Type 0 where
      pub clock : Sub (close.clock_more d l.note.ck) zs
      pub last : Sub (close.last_more d l.note.bound) zs

    abbrev In' : Type 0
    In' = Inside Note function

    abbrev Lay : Type 0
    Lay = Laid Note function

    abbrev fs : Form-F Note In' Lay → In'
    fs = form_layers Note function

    abbrev es : Expr-F Note In' Lay → Lay
    es = expr_layers Note function

    abbrev ft : Form-F Note (Note → Two) Wide → Note → Two
    ft = close.form_wide d

    abbrev et : Expr-F Note (Note → Two) Wide → Wide
    et = close.expr_wide d

    abbrev R : In' → (Note → Two) → Type 0
    R i f = Each LayerNear i.all → (n : Note) → Sub (close.last_more d n.bound) zs → Sub (f n).more zs

    abbrev R' : Lay → Wide → Type 0
    R' l w = Each LayerNear l.all → Sub w.more zs

    abbrev T : Type 0
    T = (a : In') × (b : Note → Two) × R a b

    abbrev T' : Type 0
    T' = (a : Lay) × (b : Wide) × R' a b

    abbrev lays : List T' → List Lay
    lays = map {A = T'} {B = Lay} (λ q. q.0)

    abbrev wides : List T' → List Wide
    wides = map {A = T'} {B = Wide} (λ q. q.1)

    all_near : (qs : List T') → Each LayerNear (laid_layers Note function (lays qs)) → Sub (all_wide (wides qs)).more zs
    all_near [] h = sub_none zs
    all_near (q ∷ qs) h = sub_both q.1.more (all_wide (wides qs)).more zs (q.2 (all_left LayerNear q.0.all (laid_layers Note function (lays qs)) h)) (all_near qs (all_right LayerNear q.0.all (laid_layers Note function (lays qs)) h))

    choices_near : (cs : List (Case × T')) → Each LayerNear (laid_layers Note function (choice_parts (in_choices {X = T'} {Y = Lay} (λ q. q.0) cs))) → Sub (all_wide (choice_parts (in_choices {X = T'} {Y = Wide} (λ q. q.1) cs))).more zs
    choices_near [] h = sub_none zs
    choices_near (c ∷ cs) h =
        let rest = laid_layers Note function (choice_parts (in_choices {X = T'} {Y = Lay} (λ q. q.0) cs)) in
        sub_both c.1.1.more (all_wide (choice_parts (in_choices {X = T'} {Y = Wide} (λ q. q.1) cs))).more zs (c.1.2 (all_left LayerNear c.1.0.all rest h)) (choices_near cs (all_right LayerNear c.1.0.all rest h))

    split_args : (xs ys : List Lay) → Each LayerNear (laid_layers Note function (xs ++ ys)) → Each LayerNear (laid_layers Note function xs) × Each LayerNear (laid_layers Note function ys)
    split_args [] ys h = (tt, h)
    split_args (x ∷ xs) ys h =
        let r = split_args xs ys (all_right LayerNear x.all (laid_layers Note function (xs ++ ys)) h) in
        (all_both LayerNear x.all (laid_layers Note function xs) (all_left LayerNear x.all (laid_layers Note function (xs ++ ys)) h) r.0, r.1)

    two_near : (q r : T') → Each LayerNear (laid_layers Note function (lays (q ∷ r ∷ []))) → Sub (q.1.more ++ r.1.more) zs
    two_near q r h = sub_both q.1.more r.1.more zs (q.2 (all_left LayerNear q.0.all (r.0.all ++ []) h)) (r.2 (all_left LayerNear r.0.all [] (all_right LayerNear q.0.all (r.0.all ++ []) h)))

    layer_near : (y : Form-F Note T T') → R (fs (Related.lefts fs es ft et R R' y)) (ft (Related.rights fs es ft et R R' y))
    layer_near (Form-F.Leaf l) h n s = sub_none zs
    layer_near (Form-F.Case x) h n s = sub_none zs
    layer_near (Form-F.Var x) h n s = sub_none zs
    layer_near (Form-F.Last x) h n s = s
    layer_near (Form-F.Asked x) h n s = sub_none zs
    layer_near (Form-F.Op o qs) h n s = all_near qs h
    layer_near (Form-F.Tuple qs) h n s = all_near qs h
    layer_near (Form-F.Pre q) h n s = sub_none zs
    layer_near (Form-F.Fby q r) h n s = q.2 (all_left LayerNear q.0.all (r.0.all ++ []) h)
    layer_near (Form-F.Init q r) h n s = two_near q r h
    layer_near (Form-F.When q x k) h n s = q.2 (all_left LayerNear q.0.all [] h)
    layer_near (Form-F.Merge x cs) h n s = choices_near cs h
    layer_near (Form-F.Call run x qs None) h n s = sub_both (all_wide (wides qs)).more [] zs (all_near qs (split_args (lays qs) [] h).0) (sub_none zs)
    layer_near (Form-F.Call run x qs (Some q)) h n s =
        let r = split_args (lays qs) (q.0 ∷ []) h in sub_both (all_wide (wides qs)).more q.1.more zs (all_near qs r.0) (q.2 (all_left LayerNear q.0.all [] r.1))

    pub expr_near : (e : E) → Each LayerNear (layers Note function e) → Sub (close.more_of d e) zs
    expr_near e h = related fs es ft et R R' layer_near (λ n q h. sub_both (close.clock_more d n.ck) (q.1 n).more zs h.0.clock (q.2 h.1 n h.0.last)) e h
