-- Types meet the demands exactly where they unify the pairs.
use Rattle.std.specs.Prelude.{◌≡◌, ℕ, ◌+◌, ◌-◌, ◌<◌, ◌≤◌, ◌⊎◌, Bool, true, false, List, [], ◌∷◌, map, Option, Some, if◌then◌else◌, ◌==◌, ◌||◌, refl}
use Rattle.std.proofs.Common.{subst, ap, ap₂, sym, ◌∙◌, arith, inl, inr}
use Rattle.std.proofs.lemmas.Bool.{eqb-true, eq-eqb, cases_lt}
use Rattle.ls_terms.specs.declared.types.Kind.{Kind}
use Rattle.ls_terms.specs.declared.types.TypeTerm.{TypeTerm, out-TypeTerm, roll-TypeTerm, out-roll-TypeTerm, fold-roll-TypeTerm}
use Rattle.ls_terms.specs.declared.types.TypeTerm.TheOpen.{TypeTerm-F}
use Rattle.ls_terms.specs.declared.types.TypeTerm.TheVariants.{Var, Int, Bool as BoolType, Unit as UnitType, Arrow, rolls-Var, rolls-Arrow, rolls-Unit, rolls-Int, rolls-Bool}
use Rattle.ls_terms.specs.Types.{apply, apply_at, size, sum, kids_at}
use Rattle.type_rules.specs.Schemes.{vars, is_data, data_step, put}
use Rattle.type_rules.proofs.Agreeing.{agree, each_left, each_right, each_both}
use Rattle.tree_notes.specs.Each.{Each}
use Rattle.type_rules.proofs.Instances.{twice, value, data_back, fixed, small}
use Rattle.type_rules.specs.declared.demand.Demand.{Demand}
use Rattle.type_rules.specs.declared.demand.Demand.TheVariants.{Fits, Equal, Function, Never}
use Rattle.type_rules.specs.Demands.{map_fits, map_demand, Fit, Holds, Meets, above, scheme_vars, width, widths, hole, fit_pairs, demand_pairs, pairs_from, pairs, Unify, solved, AreData}

-- ---- a substitution at a variable and at a function

pub at_var : (s : ℕ → Option TypeTerm) (x : ℕ) → apply s (Var x) ≡ value s x
at_var s x = ap (apply s) (sym (rolls-Var x)) ∙ fold-roll-TypeTerm TypeTerm (apply_at s) (TypeTerm-F.Var x)

pub at_arrow : (s : ℕ → Option TypeTerm) (k : Kind) (ts : List TypeTerm) (t : TypeTerm) → apply s (Arrow k ts t) ≡ Arrow k (map (apply s) ts) (apply s t)
at_arrow s k ts t = ap (apply s) (sym (rolls-Arrow k ts t)) ∙ fold-roll-TypeTerm TypeTerm (apply_at s) (TypeTerm-F.Arrow k ts t) ∙ rolls-Arrow k (map (apply s) ts) (apply s t)

unit_data : is_data UnitType ≡ true
unit_data = ap is_data (sym rolls-Unit) ∙ fold-roll-TypeTerm Bool data_step TypeTerm-F.Unit

pub unit_size : size UnitType ≡ 1
unit_size = ap size (sym rolls-Unit) ∙ fold-roll-TypeTerm ℕ (λ x. 1 + sum (kids_at x)) TypeTerm-F.Unit

-- ---- choices by a comparison

abbrev pick : {A : Type 0} {m n : ℕ} → (m < n) ⊎ (n ≤ m) → A → A → A
pick (inl l) a b = a
pick (inr g) a b = b

pick_in : {A : Type 0} {m n : ℕ} (o : (m < n) ⊎ (n ≤ m)) (a b : A) → m < n → pick o a b ≡ a
pick_in (inl l) a b h = refl
pick_in (inr g) a b h = absurd (omega (arith, g, h))

pick_out : {A : Type 0} {m n : ℕ} (o : (m < n) ⊎ (n ≤ m)) (a b : A) → n ≤ m → pick o a b ≡ b
pick_out (inl l) a b h = absurd (omega (arith, l, h))
pick_out (inr g) a b h = refl

picked : {A : Type 0} (P : A → Type 0) {m n : ℕ} (o : (m < n) ⊎ (n ≤ m)) (a b : A) → P a → P b → P (pick o a b)
picked P (inl l) a b p q = p
picked P (inr g) a b p q = q

-- ---- variables of schemes

each_more : (m n : ℕ) (xs : List ℕ) → m ≤ n → Each (λ x. x < m) xs → Each (λ x. x < n) xs
each_more m n [] l a = tt
each_more m n (x ∷ xs) l a = let b = a.0 in (omega (arith, l, b), each_more m n xs l a.1)

all_below : (xs : List ℕ) → Each (λ x. x < above xs) xs
all_below [] = tt
all_below (x ∷ xs) = (omega arith, each_more (above xs) (above (x ∷ xs)) xs (omega arith) (all_below xs))

abbrev mentioned : List ℕ → ℕ → Bool
mentioned [] x = false
mentioned (y ∷ ys) x = (y == x) || mentioned ys x

or_right : (a : Bool) → (a || true) ≡ true
or_right true = refl
or_right false = refl

each_grown : (y : ℕ) (ys xs : List ℕ) → Each (λ x. mentioned ys x ≡ true) xs → Each (λ x. mentioned (y ∷ ys) x ≡ true) xs
each_grown y ys [] a = tt
each_grown y ys (x ∷ xs) a = (ap (λ b. (y == x) || b) a.0 ∙ or_right (y == x), each_grown y ys xs a.1)

each_mentioned : (xs : List ℕ) → Each (λ x. mentioned xs x ≡ true) xs
each_mentioned [] = tt
each_mentioned (x ∷ xs) = (ap (λ b. b || mentioned xs x) (eq-eqb x x refl), each_grown x xs xs (each_mentioned xs))

abbrev trim : List ℕ → (ℕ → TypeTerm) → ℕ → TypeTerm
trim xs σ x = if mentioned xs x then σ x else UnitType

by_if : {A : Type 0} (P : A → Type 0) (b : Bool) (a c : A) → (b ≡ true → P a) → P c → P (if b then a else c)
by_if P true a c p q = p refl
by_if P false a c p q = q

or_split : (a b : Bool) → (a || b) ≡ true → (a ≡ true) ⊎ (b ≡ true)
or_split true b e = inl refl
or_split false b e = inr e

mentioned_each : (P : ℕ → Type 0) (xs : List ℕ) (x : ℕ) → Each P xs → mentioned xs x ≡ true → P x
mentioned_each P [] x a e = absurd (cc)
mentioned_each P (y ∷ ys) x a e = elim (or_split (y == x) (mentioned ys x) e) [
  | inl h ↦ subst P (eqb-true y x h) a.0
  | inr h ↦ mentioned_each P ys x a.1 h
]

-- what holds of each in two lists of facts
each_two : (P Q R : ℕ → Type 0) (xs : List ℕ) → ((x : ℕ) → P x → Q x → R x) → Each P xs → Each Q xs → Each R xs
each_two P Q R [] f a b = tt
each_two P Q R (x ∷ xs) f a b = (f x a.0 b.0, each_two P Q R xs f a.1 b.1)

each_one : (P R : ℕ → Type 0) (xs : List ℕ) → ((x : ℕ) → P x → R x) → Each P xs → Each R xs
each_one P R [] f a = tt
each_one P R (x ∷ xs) f a = (f x a.0, each_one P R xs f a.1)

abbrev is_int : TypeTerm-F TypeTerm → Bool
is_int TypeTerm-F.Int = true
is_int _ = false

-- ---- a unifier gives types that meet the demands

module _ (s : ℕ → Option TypeTerm) (own : ℕ) where
  abbrev types : ℕ → TypeTerm
  types k = apply s (hole own k)

  fit_at : (n : ℕ) (ps : List (ℕ × TypeTerm)) (σ : ℕ → TypeTerm) → Each (λ x. apply s (Var (n + x)) ≡ σ x) (scheme_vars ps) → Unify s (fit_pairs own n ps) → Fit σ (map_fits types ps)
  fit_at n [] σ a u = tt
  fit_at n (p ∷ ps) σ a u = (
    u.0 ∙ twice s (λ x. Var (n + x)) p.1
        ∙ agree (λ x. Some (apply s (Var (n + x)))) (λ x. Some (σ x)) p.1 (each_one _ _ (vars p.1) (λ x e. ap Some e) (each_left _ (vars p.1) (scheme_vars ps) a)),
    fit_at n ps σ (each_right _ (vars p.1) (scheme_vars ps) a) u.1,
  )

  map_types : (bs : List ℕ) → map (apply s) (map (hole own) bs) ≡ map types bs
  map_types [] = refl
  map_types (b ∷ bs) = ap (λ ts. types b ∷ ts) (map_types bs)

  heads_differ : apply s Int ≡ apply s BoolType → ⊥
  heads_differ e =
      let f = sym (ap (apply s) (sym rolls-Int) ∙ fold-roll-TypeTerm TypeTerm (apply_at s) TypeTerm-F.Int) ∙ e ∙ ap (apply s) (sym rolls-Bool) ∙ fold-roll-TypeTerm TypeTerm (apply_at s) TypeTerm-F.Bool in
      int_no_bool f
    where
      int_no_bool : roll-TypeTerm TypeTerm-F.Int ≡ roll-TypeTerm TypeTerm-F.Bool → ⊥
      int_no_bool f =
          let e = sym (ap is_int (out-roll-TypeTerm TypeTerm-F.Int)) ∙ ap (λ t. is_int (out-TypeTerm t)) f ∙ ap is_int (out-roll-TypeTerm TypeTerm-F.Bool) in
          cc

  demand_at : (n : ℕ) (d : Demand ℕ) → ((x : ℕ) → x < width d → is_data (apply s (Var (n + x))) ≡ true) → Unify s (demand_pairs own n d) → Holds (map_demand types d)
  demand_at n (Fits ps) known u = (
    λ x. pick (cases_lt x (above (scheme_vars ps))) (apply s (Var (n + x))) UnitType,
    λ x. by_data x (cases_lt x (above (scheme_vars ps))),
    fit_at n ps _ (each_one _ _ (scheme_vars ps) (λ x l. sym (pick_in (cases_lt x (above (scheme_vars ps))) (apply s (Var (n + x))) UnitType l)) (all_below (scheme_vars ps))) u,
  )
    where
      by_data : (x : ℕ) (o : (x < above (scheme_vars ps)) ⊎ (above (scheme_vars ps) ≤ x)) → is_data (pick o (apply s (Var (n + x))) UnitType) ≡ true
      by_data x (inl l) = known x l
      by_data x (inr g) = unit_data
  demand_at n (Equal a b) known u = u.0
  demand_at n (Function a k bs c) known u = u.0 ∙ at_arrow s k (map (hole own) bs) (hole own c) ∙ ap (λ ts. Arrow k ts (types c)) (map_types bs)
  demand_at n Never known u = absurd (heads_differ u.0)

  meets_from : (n : ℕ) (ds : List (Demand ℕ)) → ((x : ℕ) → x < widths ds → is_data (apply s (Var (n + x))) ≡ true) → Unify s (pairs_from own n ds) → Meets types ds
  meets_from n [] known u = tt
  meets_from n (d ∷ ds) known u = (
    demand_at n d (λ x l. known x (omega (arith, l))) (each_left _ (demand_pairs own n d) _ u),
    meets_from (n + width d) ds
        (λ x l. let e : n + width d + x ≡ n + (width d + x) = omega arith in ap (λ y. is_data (apply s (Var y))) e ∙ known (width d + x) (omega (arith, l)))
        (each_right _ (demand_pairs own n d) _ u),
  )

-- ---- types that meet the demands give a unifier

module _ (f : ℕ → TypeTerm) where
  abbrev owns : (d : Demand ℕ) → Holds (map_demand f d) → ℕ → TypeTerm
  owns (Fits ps) h x = trim (scheme_vars ps) h.0 x
  owns (Equal a b) h x = UnitType
  owns (Function a k bs c) h x = UnitType
  owns Never h x = UnitType

  abbrev inner : (ds : List (Demand ℕ)) → Meets f ds → ℕ → TypeTerm
  inner [] h x = UnitType
  inner (d ∷ ds) h x = pick (cases_lt x (width d)) (owns d h.0 x) (inner ds h.1 (x - width d))

  module _ (own : ℕ) (by : ℕ → TypeTerm) (places : (k : ℕ) → by (own + k) ≡ f k) where
    abbrev s : ℕ → Option TypeTerm
    s x = Some (by x)

    hole_is : (k : ℕ) → apply s (hole own k) ≡ f k
    hole_is k = at_var s (own + k) ∙ places k

    holes_are : (bs : List ℕ) → map (apply s) (map (hole own) bs) ≡ map f bs
    holes_are [] = refl
    holes_are (b ∷ bs) = ap₂ (λ t ts. t ∷ ts) (hole_is b) (holes_are bs)

    fit_unify : (n : ℕ) (ps : List (ℕ × TypeTerm)) (σ : ℕ → TypeTerm) → Each (λ x. by (n + x) ≡ σ x) (scheme_vars ps) → Fit σ (map_fits f ps) → Unify s (fit_pairs own n ps)
    fit_unify n [] σ a h = tt
    fit_unify n (p ∷ ps) σ a h = (
      hole_is p.0 ∙ h.0
          ∙ agree (λ x. Some (σ x)) (λ x. Some (apply s (Var (n + x)))) p.1
          (each_one _ _ (vars p.1) (λ x e. ap Some (sym (at_var s (n + x) ∙ e))) (each_left _ (vars p.1) (scheme_vars ps) a))
          ∙ sym (twice s (λ x. Var (n + x)) p.1),
      fit_unify n ps σ (each_right _ (vars p.1) (scheme_vars ps) a) h.1,
    )

    demand_unify : (n : ℕ) (d : Demand ℕ) (h : Holds (map_demand f d)) → ((x : ℕ) → x < width d → by (n + x) ≡ owns d h x) → Unify s (demand_pairs own n d)
    demand_unify n (Fits ps) h o =
        fit_unify n ps h.0
        (each_two _ _ _ (scheme_vars ps) (λ x l m. o x l ∙ ap (λ b. if b then h.0 x else UnitType) m) (all_below (scheme_vars ps)) (each_mentioned (scheme_vars ps))) h.2
    demand_unify n (Equal a b) h o = (hole_is a ∙ h ∙ sym (hole_is b), tt)
    demand_unify n (Function a k bs c) h o = (hole_is a ∙ h ∙ ap₂ (λ ts t. Arrow k ts t) (sym (holes_are bs)) (sym (hole_is c)) ∙ sym (at_arrow s k (map (hole own) bs) (hole own c)), tt)
    demand_unify n Never h o = absurd h

    unify_from : (n : ℕ) (ds : List (Demand ℕ)) (h : Meets f ds) → ((x : ℕ) → x < widths ds → by (n + x) ≡ inner ds h x) → Unify s (pairs_from own n ds)
    unify_from n [] h o = tt
    unify_from n (d ∷ ds) h o =
        each_both _ (demand_pairs own n d) _
        (demand_unify n d h.0 (λ x l. o x (omega (arith, l)) ∙ pick_in (cases_lt x (width d)) (owns d h.0 x) (inner ds h.1 (x - width d)) l))
        (unify_from (n + width d) ds h.1 (λ x l.
        let e : n + width d + x ≡ n + (width d + x) = omega arith in
        let g : width d + x - width d ≡ x = omega arith in
        ap by e ∙ o (width d + x) (omega (arith, l))
        ∙ pick_out (cases_lt (width d + x) (width d)) (owns d h.0 (width d + x)) (inner ds h.1 (width d + x - width d)) (omega arith)
        ∙ ap (inner ds h.1) g))

  owns_data : (d : Demand ℕ) (h : Holds (map_demand f d)) (x : ℕ) → is_data (owns d h x) ≡ true
  owns_data (Fits ps) h x = by_if (λ t. is_data t ≡ true) (mentioned (scheme_vars ps) x) (h.0 x) UnitType (λ m. h.1 x) unit_data
  owns_data (Equal a b) h x = unit_data
  owns_data (Function a k bs c) h x = unit_data
  owns_data Never h x = unit_data

  inner_data : (ds : List (Demand ℕ)) (h : Meets f ds) (x : ℕ) → is_data (inner ds h x) ≡ true
  inner_data [] h x = unit_data
  inner_data (d ∷ ds) h x = picked (λ t. is_data t ≡ true) (cases_lt x (width d)) _ _ (owns_data d h.0 x) (inner_data ds h.1 (x - width d))

  module _ (limit : ℕ) (some : 1 ≤ limit) (f_small : (k : ℕ) → size (f k) ≤ limit) where
    abbrev IsSmall : TypeTerm → Type 0
    IsSmall t = size t ≤ limit

    unit_small : IsSmall UnitType
    unit_small = omega (arith, unit_size, some)

    fit_small : (σ : ℕ → TypeTerm) (ps : List (ℕ × TypeTerm)) → Fit σ (map_fits f ps) → Each (λ x. IsSmall (σ x)) (scheme_vars ps)
    fit_small σ [] h = tt
    fit_small σ (p ∷ ps) h =
        let l : size (put σ p.1) ≤ limit = subst IsSmall h.0 (f_small p.0) in
        each_both _ (vars p.1) (scheme_vars ps) (each_one _ _ (vars p.1) (λ x w. omega (arith, l, w)) (small (λ x. Some (σ x)) p.1)) (fit_small σ ps h.1)

    owns_small : (d : Demand ℕ) (h : Holds (map_demand f d)) (x : ℕ) → IsSmall (owns d h x)
    owns_small (Fits ps) h x = by_if IsSmall (mentioned (scheme_vars ps) x) (h.0 x) UnitType (λ m. mentioned_each _ (scheme_vars ps) x (fit_small h.0 ps h.2) m) unit_small
    owns_small (Equal a b) h x = unit_small
    owns_small (Function a k bs c) h x = unit_small
    owns_small Never h x = unit_small

    inner_small : (ds : List (Demand ℕ)) (h : Meets f ds) (x : ℕ) → IsSmall (inner ds h x)
    inner_small [] h x = unit_small
    inner_small (d ∷ ds) h x = picked IsSmall (cases_lt x (width d)) _ _ (owns_small d h.0 x) (inner_small ds h.1 (x - width d))

-- ---- the four facts that inference rests on

module _ (ds : List (Demand ℕ)) where
  -- a substitution that is read off types which meet the demands
  abbrev pub read_off : (f : ℕ → TypeTerm) → Meets f ds → ℕ → TypeTerm
  read_off f h x = pick (cases_lt x (widths ds)) (inner f ds h x) (f (x - widths ds))

  pub read_place : (f : ℕ → TypeTerm) (h : Meets f ds) (k : ℕ) → read_off f h (widths ds + k) ≡ f k
  read_place f h k =
      let g : widths ds + k - widths ds ≡ k = omega arith in
      pick_out (cases_lt (widths ds + k) (widths ds)) (inner f ds h (widths ds + k)) (f (widths ds + k - widths ds)) (omega arith) ∙ ap f g

  read_own : (f : ℕ → TypeTerm) (h : Meets f ds) (x : ℕ) → x < widths ds → read_off f h x ≡ inner f ds h x
  read_own f h x l = pick_in (cases_lt x (widths ds)) (inner f ds h x) (f (x - widths ds)) l

  -- it makes the pairs equal
  pub read_unifies : (f : ℕ → TypeTerm) (h : Meets f ds) → Unify (λ x. Some (read_off f h x)) (pairs ds)
  read_unifies f h = unify_from f (widths ds) (read_off f h) (read_place f h) 0 ds h (λ x l. let e : 0 + x ≡ x = omega arith in ap (read_off f h) e ∙ read_own f h x l)

  -- and what stands for a variable is no larger than the types are
  pub read_small : (limit : ℕ) (f : ℕ → TypeTerm) (h : Meets f ds) → 1 ≤ limit → ((k : ℕ) → size (f k) ≤ limit) → (x : ℕ) → size (read_off f h x) ≤ limit
  read_small limit f h some l x = picked (λ t. size t ≤ limit) (cases_lt x (widths ds)) _ _ (inner_small f limit some l ds h x) (l (x - widths ds))

  module _ (s : ℕ → Option TypeTerm) (unifies : Unify s (pairs ds)) where
    -- a unifier with data for the demands' variables gives types that meet the demands
    pub solved_meet : AreData ds s → Meets (solved ds s) ds
    solved_meet known = meets_from s (widths ds) 0 ds (λ x l. let e : 0 + x ≡ x = omega arith in ap (λ y. is_data (apply s (Var y))) e ∙ known x l) unifies

    module _ (general : (by : ℕ → Option TypeTerm) → Unify by (pairs ds) → (t : TypeTerm) → apply by (apply s t) ≡ apply by t) where
      -- other types that meet the demands are an instance
      pub instance_of : (f : ℕ → TypeTerm) (h : Meets f ds) (k : ℕ) → f k ≡ put (read_off f h) (solved ds s k)
      instance_of f h k = sym (read_place f h k) ∙ sym (at_var (λ x. Some (read_off f h x)) (widths ds + k)) ∙ sym (general (λ x. Some (read_off f h x)) (read_unifies f h) (hole (widths ds) k))

      -- where some types meet the demands, a most general unifier has data for the demands' variables
      pub must_be_data : (f : ℕ → TypeTerm) → Meets f ds → AreData ds s
      must_be_data f h x l =
          (data_back (λ x. Some (read_off f h x)) (apply s (Var x))
          (ap is_data (general (λ x. Some (read_off f h x)) (read_unifies f h) (Var x) ∙ at_var (λ x. Some (read_off f h x)) x ∙ read_own f h x l) ∙ inner_data f ds h x)).0

      -- the instance puts data for each variable that is mentioned, where the places of functions and signals are the same
      pub by_data : (f : ℕ → TypeTerm) (h : Meets f ds) → ((k : ℕ) → is_data (solved ds s k) ≡ true → is_data (f k) ≡ true)
          → (k : ℕ) → Each (λ x. is_data (read_off f h x) ≡ true) (vars (solved ds s k))
      by_data f h placed k = each_one _ _ (vars (solved ds s k)) at (fixed s (solved ds s k) (general s unifies (hole (widths ds) k)))
        where
          at : (x : ℕ) → value s x ≡ roll-TypeTerm (TypeTerm-F.Var x) → is_data (read_off f h x) ≡ true
          at x e = elim (cases_lt x (widths ds)) [
            | inl l ↦ ap is_data (read_own f h x l) ∙ inner_data f ds h x
            | inr g ↦
                let k : ℕ = x - widths ds in
                let n : widths ds + (x - widths ds) ≡ x = omega (arith, g) in
                let d : is_data (solved ds s (x - widths ds)) ≡ true = ap (λ y. is_data (apply s (Var y))) n ∙ ap is_data (at_var s x ∙ e) ∙ fold-roll-TypeTerm Bool data_step (TypeTerm-F.Var x) in
                ap (λ y. is_data (read_off f h y)) (sym n) ∙ ap is_data (read_place f h (x - widths ds)) ∙ placed (x - widths ds) d
          ]
