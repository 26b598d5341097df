-- Clocks that are instances of one another differ in the names of their variables alone, so they make one scheme.
use Rattle.std.specs.Prelude.{◌≡◌, ℕ, suc, ◌==◌, Bool, true, false, List, [], ◌∷◌, ◌++◌, map, Option, Some, None, ◌⊎◌, if◌then◌else◌, unwrap_or, refl}
use Rattle.std.proofs.Common.{ap, ap₂, sym, ◌∙◌, subst, inl, inr}
use Rattle.std.proofs.lemmas.Bool.{eqb-true, eq-eqb}
use Rattle.std.proofs.lemmas.List.{map-append}
use Rattle.ls_terms.specs.declared.clocks.ClockTerm.{ClockTerm, fold-roll-ClockTerm, map-ClockTerm, out-ClockTerm, roll-ClockTerm, out-roll-ClockTerm, roll-out-ClockTerm}
use Rattle.ls_terms.specs.declared.clocks.ClockTerm.TheOpen.{ClockTerm-F}
use Rattle.ls_terms.specs.Clocks.{apply, apply_at}
use Rattle.tree_notes.specs.Each.{Each}
use Rattle.tree_notes.specs.Order.{joined}
use Rattle.clock_rules.specs.Files.{variables_step, variables_in, without, place_from, firsts, place_option, renumbered}
use Rattle.clock_rules.specs.Instances.{Subst}
use Rattle.clock_rules.specs.Terms.{var, on, arrow, pointwise}
use Rattle.clock_rules.proofs.Sides.{all_left, all_right, all_both}
use Rattle.clock_rules.proofs.Substitution.{With, bottoms, induct, apply_on, apply_arrow, apply_pointwise}

-- ---- numbers that are the same in the same places

both_or_none : (p q : Bool) → (p ≡ true → q ≡ true) → (q ≡ true → p ≡ true) → p ≡ q
both_or_none true true f g = refl
both_or_none false false f g = refl
both_or_none true false f g = sym (f refl)
both_or_none false true f g = g refl

abbrev Has : ℕ → List ℕ → Type 0
Has v [] = ⊥
Has v (x ∷ xs) = (x ≡ v) ⊎ Has v xs

has_test : (t : Bool) (v : ℕ) (x : ℕ) (ys : List ℕ) → (t ≡ false → Has v ys) → (t ≡ true → x ≡ v) → Has v (x ∷ ys)
has_test true v x ys f g = inl (g refl)
has_test false v x ys f g = inr (f refl)

has_without_at : (t : Bool) (x v y : ℕ) (ys : List ℕ) → (x == y) ≡ t → (x ≡ v → ⊥) → (y ≡ v) ⊎ Has v (without x ys) → Has v (if t then without x ys else y ∷ without x ys)
has_without_at true x v y ys e n (inl p) = absurd (n (eqb-true x y e ∙ p))
has_without_at true x v y ys e n (inr h) = h
has_without_at false x v y ys e n h = h

has_without : (x v : ℕ) (ys : List ℕ) → (x ≡ v → ⊥) → Has v ys → Has v (without x ys)
has_without x v [] n h = h
has_without x v (y ∷ ys) n (inl p) = has_without_at (x == y) x v y ys refl n (inl p)
has_without x v (y ∷ ys) n (inr h) = has_without_at (x == y) x v y ys refl n (inr (has_without x v ys n h))

differs : (x v : ℕ) → (x == v) ≡ false → x ≡ v → ⊥
differs x v e p = let q = eq-eqb x v p in absurd (cc)

has_firsts : (v : ℕ) (xs : List ℕ) → Has v xs → Has v (firsts xs)
has_firsts v [] h = absurd h
has_firsts v (x ∷ xs) (inl p) = inl p
has_firsts v (x ∷ xs) (inr h) = has_test (x == v) v x (without x (firsts xs)) (λ e. has_without x v (firsts xs) (differs x v e) (has_firsts v xs h)) (λ e. eqb-true x v e)

placed_at : (t : Bool) (v : ℕ) (ys : List ℕ) (j : ℕ) → (t ≡ false → (k : ℕ) × (place_from v ys (suc j) ≡ Some k)) → (k : ℕ) × ((if t then Some j else place_from v ys (suc j)) ≡ Some k)
placed_at true v ys j f = (j, refl)
placed_at false v ys j f = f refl

placed : (v : ℕ) (ys : List ℕ) (j : ℕ) → Has v ys → (k : ℕ) × (place_from v ys j ≡ Some k)
placed v [] j h = absurd h
placed v (y ∷ ys) j (inl p) = placed_at (y == v) v ys j (λ e. absurd (differs y v e p))
placed v (y ∷ ys) j (inr h) = placed_at (y == v) v ys j (λ e. placed v ys (suc j) h)

module _ (P : ℕ → Type 0) where
  each_without_at : (t : Bool) (x y : ℕ) (ys : List ℕ) → P y → Each P (without x ys) → Each P (if t then without x ys else y ∷ without x ys)
  each_without_at true x y ys p h = h
  each_without_at false x y ys p h = (p, h)

  each_without : (x : ℕ) (ys : List ℕ) → Each P ys → Each P (without x ys)
  each_without x [] h = tt
  each_without x (y ∷ ys) h = each_without_at (x == y) x y ys h.0 (each_without x ys h.1)

  each_firsts : (xs : List ℕ) → Each P xs → Each P (firsts xs)
  each_firsts [] h = tt
  each_firsts (x ∷ xs) h = (h.0, each_without x (firsts xs) (each_firsts xs h.1))

  each_of : (xs : List ℕ) → ((v : ℕ) → Has v xs → P v) → Each P xs
  each_of [] h = tt
  each_of (x ∷ xs) h = (h x (inl refl), each_of xs (λ v q. h v (inr q)))

has_left : (v : ℕ) (xs ys : List ℕ) → Has v xs → Has v (xs ++ ys)
has_left v [] ys h = absurd h
has_left v (x ∷ xs) ys (inl p) = inl p
has_left v (x ∷ xs) ys (inr h) = inr (has_left v xs ys h)

has_right : (v : ℕ) (xs ys : List ℕ) → Has v ys → Has v (xs ++ ys)
has_right v [] ys h = h
has_right v (x ∷ xs) ys h = inr (has_right v xs ys h)

-- ---- substitutions that undo one another

abbrev name_at : {X : Type 0} → ClockTerm-F X → ℕ
name_at (ClockTerm-F.Var w) = w
name_at _ = 0

abbrev name_of : ClockTerm → ℕ
name_of t = name_at (out-ClockTerm t)

name_is : (u : ClockTerm) (w : ℕ) → u ≡ var w → name_of u ≡ w
name_is u w e = ap name_of e ∙ ap name_at (out-roll-ClockTerm (ClockTerm-F.Var w))

same_layer : (x y : ClockTerm-F ClockTerm) → roll-ClockTerm x ≡ roll-ClockTerm y → x ≡ y
same_layer x y e = sym (out-roll-ClockTerm x) ∙ ap out-ClockTerm e ∙ out-roll-ClockTerm y

module _ (by by' : Subst) where
  abbrev r : ℕ → ℕ
  r v = name_of (apply by (var v))

  abbrev s : ℕ → ℕ
  s v = name_of (apply by' (var v))

  abbrev Good : ℕ → Type 0
  Good v = (apply by (var v) ≡ var (r v)) × (s (r v) ≡ v)

  good_at : (v : ℕ) (x : ClockTerm-F ClockTerm) → apply by (var v) ≡ roll-ClockTerm x → apply by' (roll-ClockTerm x) ≡ var v → Good v
  good_at v (ClockTerm-F.Var w) e f =
      let n : r v ≡ w = name_is (apply by (var v)) w e in
      (e ∙ sym (ap var n), ap s n ∙ name_is (apply by' (var w)) v f)
  good_at v (ClockTerm-F.On t m k) e f =
      let q : ClockTerm-F.On (apply by' t) m k ≡ ClockTerm-F.Var v = same_layer (ClockTerm-F.On (apply by' t) m k) (ClockTerm-F.Var v) (sym (apply_on by' t m k) ∙ f) in absurd (cc)
  good_at v ClockTerm-F.Pointwise e f =
      let q : ClockTerm-F.Pointwise ≡ ClockTerm-F.Var v = same_layer ClockTerm-F.Pointwise (ClockTerm-F.Var v) (sym (apply_pointwise by') ∙ f) in absurd (cc)
  good_at v (ClockTerm-F.Arrow ts t) e f =
      let q : ClockTerm-F.Arrow (map (apply by') ts) (apply by' t) ≡ ClockTerm-F.Var v = same_layer (ClockTerm-F.Arrow (map (apply by') ts) (apply by' t)) (ClockTerm-F.Var v) (sym (apply_arrow by' ts t) ∙ f) in absurd (cc)

  var_good : (v : ℕ) → apply by' (apply by (var v)) ≡ var v → Good v
  var_good v e = good_at v (out-ClockTerm (apply by (var v))) (sym (roll-out-ClockTerm (apply by (var v)))) (ap (apply by') (roll-out-ClockTerm (apply by (var v))) ∙ e)

  vars_roll : (x : ClockTerm-F ClockTerm) → variables_in (roll-ClockTerm x) ≡ variables_step (map-ClockTerm ClockTerm (List ℕ) variables_in x)
  vars_roll x = fold-roll-ClockTerm (List ℕ) variables_step x

  abbrev Goods : ClockTerm → Type 0
  Goods t = apply by' (apply by t) ≡ t → Each Good (variables_in t)

  abbrev firsts_of : List (With Goods) → List ClockTerm
  firsts_of = map {A = With Goods} {B = ClockTerm} (λ p. p.0)

  goods_all : (ps : List (With Goods)) → map (apply by') (map (apply by) (firsts_of ps)) ≡ firsts_of ps → Each Good (joined (map variables_in (firsts_of ps)))
  goods_all [] e = tt
  goods_all (p ∷ ps) e =
      let h : apply by' (apply by p.0) ≡ p.0 = cc in
      let f : map (apply by') (map (apply by) (firsts_of ps)) ≡ firsts_of ps = cc in
      all_both Good (variables_in p.0) (joined (map variables_in (firsts_of ps))) (p.1 h) (goods_all ps f)

  goods_layer : (y : ClockTerm-F (With Goods)) → apply by' (apply by (roll-ClockTerm (bottoms Goods y))) ≡ roll-ClockTerm (bottoms Goods y)
      → Each Good (variables_step (map-ClockTerm ClockTerm (List ℕ) variables_in (bottoms Goods y)))
  goods_layer (ClockTerm-F.Var v) e = (var_good v e, tt)
  goods_layer (ClockTerm-F.On p m k) e =
      let q : ClockTerm-F.On (apply by' (apply by p.0)) m k ≡ ClockTerm-F.On p.0 m k =
      same_layer (ClockTerm-F.On (apply by' (apply by p.0)) m k) (ClockTerm-F.On p.0 m k) (sym (ap (apply by') (apply_on by p.0 m k) ∙ apply_on by' (apply by p.0) m k) ∙ e) in
      p.1 (cc)
  goods_layer ClockTerm-F.Pointwise e = tt
  goods_layer (ClockTerm-F.Arrow ps p) e =
      let ts : List ClockTerm = firsts_of ps in
      let q : ClockTerm-F.Arrow (map (apply by') (map (apply by) ts)) (apply by' (apply by p.0)) ≡ ClockTerm-F.Arrow ts p.0 =
      same_layer (ClockTerm-F.Arrow (map (apply by') (map (apply by) ts)) (apply by' (apply by p.0))) (ClockTerm-F.Arrow ts p.0)
      (sym (ap (apply by') (apply_arrow by ts p.0) ∙ apply_arrow by' (map (apply by) ts) (apply by p.0)) ∙ e) in
      all_both Good (joined (map variables_in ts)) (variables_in p.0) (goods_all ps (cc)) (p.1 (cc))

  goods : (t : ClockTerm) → Goods t
  goods = induct Goods (λ y e. subst (Each Good) (sym (vars_roll (bottoms Goods y))) (goods_layer y e))

  -- ---- the variables of an instance

  abbrev Renamed : ClockTerm → Type 0
  Renamed t = Each Good (variables_in t) → variables_in (apply by t) ≡ map r (variables_in t)

  abbrev clocks_of : List (With Renamed) → List ClockTerm
  clocks_of = map {A = With Renamed} {B = ClockTerm} (λ p. p.0)

  renamed_list : (ps : List (With Renamed)) → Each Good (joined (map variables_in (clocks_of ps)))
      → joined (map variables_in (map (apply by) (clocks_of ps))) ≡ map r (joined (map variables_in (clocks_of ps)))
  renamed_list [] h = refl
  renamed_list (p ∷ ps) h =
      ap₂ (λ x y. x ++ y) (p.1 (all_left Good (variables_in p.0) (joined (map variables_in (clocks_of ps))) h))
      (renamed_list ps (all_right Good (variables_in p.0) (joined (map variables_in (clocks_of ps))) h))
      ∙ sym (map-append r (variables_in p.0) (joined (map variables_in (clocks_of ps))))

  renamed_layer : (y : ClockTerm-F (With Renamed)) → Each Good (variables_step (map-ClockTerm ClockTerm (List ℕ) variables_in (bottoms Renamed y)))
      → variables_in (apply by (roll-ClockTerm (bottoms Renamed y))) ≡ map r (variables_step (map-ClockTerm ClockTerm (List ℕ) variables_in (bottoms Renamed y)))
  renamed_layer (ClockTerm-F.Var v) h = ap variables_in h.0.0 ∙ vars_roll (ClockTerm-F.Var (r v))
  renamed_layer (ClockTerm-F.On p m k) h = ap variables_in (apply_on by p.0 m k) ∙ vars_roll (ClockTerm-F.On (apply by p.0) m k) ∙ p.1 h
  renamed_layer ClockTerm-F.Pointwise h = ap variables_in (apply_pointwise by) ∙ vars_roll ClockTerm-F.Pointwise
  renamed_layer (ClockTerm-F.Arrow ps p) h =
      let ts : List ClockTerm = clocks_of ps in
      ap variables_in (apply_arrow by ts p.0) ∙ vars_roll (ClockTerm-F.Arrow (map (apply by) ts) (apply by p.0))
      ∙ ap₂ (λ x y. x ++ y) (renamed_list ps (all_left Good (joined (map variables_in ts)) (variables_in p.0) h)) (p.1 (all_right Good (joined (map variables_in ts)) (variables_in p.0) h))
      ∙ sym (map-append r (joined (map variables_in ts)) (variables_in p.0))

  renamed : (t : ClockTerm) → Renamed t
  renamed = induct Renamed (λ y h. renamed_layer y (subst (Each Good) (vars_roll (bottoms Renamed y)) h) ∙ ap (map r) (sym (vars_roll (bottoms Renamed y))))

  -- ---- places in lists

  test_is : (x v : ℕ) → Good x → Good v → (r x == r v) ≡ (x == v)
  test_is x v g h = both_or_none (r x == r v) (x == v)
      (λ e. eq-eqb x v (sym g.1 ∙ ap s (eqb-true (r x) (r v) e) ∙ h.1)) (λ e. eq-eqb (r x) (r v) (ap r (eqb-true x v e)))

  place_is : (v : ℕ) → Good v → (ys : List ℕ) → Each Good ys → (j : ℕ) → place_from (r v) (map r ys) j ≡ place_from v ys j
  place_is v g [] h j = refl
  place_is v g (y ∷ ys) h j = ap₂ (λ t z. if t then Some j else z) (test_is y v h.0 g) (place_is v g ys h.1 (suc j))

  map_if : (t : Bool) (y : ℕ) (xs : List ℕ) → map r (if t then xs else y ∷ xs) ≡ (if t then map r xs else r y ∷ map r xs)
  map_if true y xs = refl
  map_if false y xs = refl

  without_is : (x : ℕ) → Good x → (ys : List ℕ) → Each Good ys → without (r x) (map r ys) ≡ map r (without x ys)
  without_is x g [] h = refl
  without_is x g (y ∷ ys) h =
      ap₂ (λ t zs. if t then zs else r y ∷ zs) (test_is x y g h.0) (without_is x g ys h.1) ∙ sym (map_if (x == y) y (without x ys))

  firsts_are : (xs : List ℕ) → Each Good xs → firsts (map r xs) ≡ map r (firsts xs)
  firsts_are [] h = refl
  firsts_are (x ∷ xs) h = ap (λ z. r x ∷ z) (ap (without (r x)) (firsts_are xs h.1) ∙ without_is x h.0 (firsts xs) (each_firsts Good xs h.1))

  -- ---- one numbering

  module _ (xs : List ℕ) (good : Each Good xs) where
    abbrev here : Subst
    here x = place_option (place_from x (firsts xs) 0)

    abbrev there : Subst
    there x = place_option (place_from x (firsts (map r xs)) 0)

    abbrev Known : ℕ → Type 0
    Known v = Good v × Has v xs

    abbrev Same : ClockTerm → Type 0
    Same t = Each Known (variables_in t) → apply there (apply by t) ≡ apply here t

    abbrev sames_of : List (With Same) → List ClockTerm
    sames_of = map {A = With Same} {B = ClockTerm} (λ p. p.0)

    value : (by'' : Subst) (v k : ℕ) → by'' v ≡ Some (var k) → apply by'' (var v) ≡ var k
    value by'' v k e = fold-roll-ClockTerm ClockTerm (apply_at by'') (ClockTerm-F.Var v) ∙ ap (λ o. unwrap_or o (var v)) e

    var_same : (v : ℕ) → Known v → apply there (apply by (var v)) ≡ apply here (var v)
    var_same v k =
        let p = placed v (firsts xs) 0 (has_firsts v xs k.1) in
        ap (apply there) k.0.0
        ∙ value there (r v) p.0 (ap place_option (ap (λ ys. place_from (r v) ys 0) (firsts_are xs good) ∙ place_is v k.0 (firsts xs) (each_firsts Good xs good) 0 ∙ p.1))
        ∙ sym (value here v p.0 (ap place_option p.1))

    same_list : (ps : List (With Same)) → Each Known (joined (map variables_in (sames_of ps))) → map (apply there) (map (apply by) (sames_of ps)) ≡ map (apply here) (sames_of ps)
    same_list [] h = refl
    same_list (p ∷ ps) h = ap₂ (λ x y. x ∷ y) (p.1 (all_left Known (variables_in p.0) (joined (map variables_in (sames_of ps))) h))
        (same_list ps (all_right Known (variables_in p.0) (joined (map variables_in (sames_of ps))) h))

    same_at : (y : ClockTerm-F (With Same)) → Each Known (variables_step (map-ClockTerm ClockTerm (List ℕ) variables_in (bottoms Same y)))
        → apply there (apply by (roll-ClockTerm (bottoms Same y))) ≡ apply here (roll-ClockTerm (bottoms Same y))
    same_at (ClockTerm-F.Var v) h = var_same v h.0
    same_at (ClockTerm-F.On p m k) h = ap (apply there) (apply_on by p.0 m k) ∙ apply_on there (apply by p.0) m k ∙ ap (λ z. on z m k) (p.1 h) ∙ sym (apply_on here p.0 m k)
    same_at ClockTerm-F.Pointwise h = ap (apply there) (apply_pointwise by) ∙ apply_pointwise there ∙ sym (apply_pointwise here)
    same_at (ClockTerm-F.Arrow ps p) h =
        let ts : List ClockTerm = sames_of ps in
        ap (apply there) (apply_arrow by ts p.0) ∙ apply_arrow there (map (apply by) ts) (apply by p.0)
        ∙ ap₂ arrow (same_list ps (all_left Known (joined (map variables_in ts)) (variables_in p.0) h)) (p.1 (all_right Known (joined (map variables_in ts)) (variables_in p.0) h))
        ∙ sym (apply_arrow here ts p.0)

    same : (t : ClockTerm) → Same t
    same = induct Same (λ y h. same_at y (subst (Each Known) (vars_roll (bottoms Same y)) h))

  -- ---- lists of clocks

  list_goods : (ts : List ClockTerm) → map (apply by') (map (apply by) ts) ≡ ts → Each Good (joined (map variables_in ts))
  list_goods [] e = tt
  list_goods (t ∷ ts) e =
      let h : apply by' (apply by t) ≡ t = cc in
      let f : map (apply by') (map (apply by) ts) ≡ ts = cc in
      all_both Good (variables_in t) (joined (map variables_in ts)) (goods t h) (list_goods ts f)

  list_renamed : (ts : List ClockTerm) → Each Good (joined (map variables_in ts)) → joined (map variables_in (map (apply by) ts)) ≡ map r (joined (map variables_in ts))
  list_renamed [] h = refl
  list_renamed (t ∷ ts) h =
      ap₂ (λ x y. x ++ y) (renamed t (all_left Good (variables_in t) (joined (map variables_in ts)) h)) (list_renamed ts (all_right Good (variables_in t) (joined (map variables_in ts)) h))
      ∙ sym (map-append r (variables_in t) (joined (map variables_in ts)))

  known_part : (xs : List ℕ) (good : Each Good xs) (vs : List ℕ) → Each Good vs → ((v : ℕ) → Has v vs → Has v xs) → Each (Known xs good) vs
  known_part xs good [] g h = tt
  known_part xs good (v ∷ vs) g h = ((g.0, h v (inl refl)), known_part xs good vs g.1 (λ w q. h w (inr q)))

  list_same : (xs : List ℕ) (good : Each Good xs) (ts : List ClockTerm) → Each Good (joined (map variables_in ts)) → ((v : ℕ) → Has v (joined (map variables_in ts)) → Has v xs)
      → map (apply (there xs good)) (map (apply by) ts) ≡ map (apply (here xs good)) ts
  list_same xs good [] g h = refl
  list_same xs good (t ∷ ts) g h = ap₂ (λ x y. x ∷ y)
      (same xs good t (known_part xs good (variables_in t) (all_left Good (variables_in t) (joined (map variables_in ts)) g) (λ v q. h v (has_left v (variables_in t) (joined (map variables_in ts)) q))))
      (list_same xs good ts (all_right Good (variables_in t) (joined (map variables_in ts)) g) (λ v q. h v (has_right v (variables_in t) (joined (map variables_in ts)) q)))

  -- clocks and their instances, which have them as instances, are the same when they are renumbered
  pub renumbered_same : (ts : List ClockTerm) → map (apply by') (map (apply by) ts) ≡ ts
      → map (renumbered (map (apply by) ts)) (map (apply by) ts) ≡ map (renumbered ts) ts
  renumbered_same ts e =
      let xs : List ℕ = joined (map variables_in ts) in
      let good : Each Good xs = list_goods ts e in
      (λ i. map (apply (λ x. place_option (place_from x (firsts (list_renamed ts good i)) 0))) (map (apply by) ts))
      ∙ list_same xs good ts good (λ v q. q)
