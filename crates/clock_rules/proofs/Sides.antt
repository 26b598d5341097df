-- The conditions that forbid only that a name is mentioned, or that a clock is too large, hold of a clock where they hold of
-- an instance of it; and an instance has the form that its type asks for.
use Rattle.std.specs.Prelude.{◌≡◌, ℕ, ◌+◌, ◌≤◌, ◌&&◌, Bool, true, List, [], ◌∷◌, ◌++◌, map, Option, Some, None, unwrap_or, refl}
use Rattle.std.proofs.Common.{ap, ap₂, sym, ◌∙◌, subst, arith}
use Rattle.std.proofs.lemmas.Bool.{and_parts}
use Rattle.ls_terms.specs.declared.clocks.ClockTerm.{ClockTerm, fold-roll-ClockTerm, map-ClockTerm, out-ClockTerm, roll-ClockTerm, out-roll-ClockTerm, roll-out-ClockTerm}
use Rattle.ls_terms.specs.declared.clocks.ClockTerm.TheOpen.{ClockTerm-F}
use Rattle.ls_terms.specs.declared.types.Kind.TheVariants as kind
use Rattle.ls_terms.specs.declared.types.TypeTerm.{TypeTerm, fold-roll-TypeTerm, ind-TypeTerm, map-TypeTerm, roll-TypeTerm}
use Rattle.ls_terms.specs.declared.types.TypeTerm.TheOpen.{TypeTerm-F}
use Rattle.ls_terms.specs.Clocks.{apply, apply_at, size, size_is, kids_at, sum, stands, stands_at}
use Rattle.tree_notes.specs.Order.{joined}
use Rattle.clock_rules.specs.Terms.{on, arrow, pointwise, names_in, names_step, fits, fits_step, fit_all, fit_arrow, is_pointwise, Form}
use Rattle.tree_notes.specs.Each.{Each}
use Rattle.clock_rules.proofs.Substitution.{With, bottoms, induct, apply_on, apply_arrow, apply_pointwise}

pub all_left : {A : Type 0} (P : A → Type 0) (xs ys : List A) → Each P (xs ++ ys) → Each P xs
all_left P [] ys h = tt
all_left P (x ∷ xs) ys h = (h.0, all_left P xs ys h.1)

pub all_right : {A : Type 0} (P : A → Type 0) (xs ys : List A) → Each P (xs ++ ys) → Each P ys
all_right P [] ys h = h
all_right P (x ∷ xs) ys h = all_right P xs ys h.1

pub all_both : {A : Type 0} (P : A → Type 0) (xs ys : List A) → Each P xs → Each P ys → Each P (xs ++ ys)
all_both P [] ys h k = k
all_both P (x ∷ xs) ys h k = (h.0, all_both P xs ys h.1 k)

module _ (by : ℕ → Option ClockTerm) where
  -- ---- an instance mentions every name

  module _ (P : ℕ → Type 0) where
    abbrev Down : ClockTerm → Type 0
    Down t = Each P (names_in (apply by t)) → Each P (names_in t)

    names_roll : (x : ClockTerm-F ClockTerm) → names_in (roll-ClockTerm x) ≡ names_step (map-ClockTerm ClockTerm (List ℕ) names_in x)
    names_roll x = fold-roll-ClockTerm (List ℕ) names_step x

    downs : (ps : List (With Down)) → Each P (joined (map names_in (map (apply by) (map (λ p. p.0) ps)))) → Each P (joined (map names_in (map (λ p. p.0) ps)))
    downs [] h = tt
    downs (p ∷ ps) h = all_both P (names_in p.0) (joined (map names_in (map (λ q. q.0) ps)))
        (p.1 (all_left P (names_in (apply by p.0)) (joined (map names_in (map (apply by) (map (λ q. q.0) ps)))) h))
        (downs ps (all_right P (names_in (apply by p.0)) (joined (map names_in (map (apply by) (map (λ q. q.0) ps)))) h))

    down_layer : (y : ClockTerm-F (With Down)) → Each P (names_in (apply by (roll-ClockTerm (bottoms Down y)))) → Each P (names_step (map-ClockTerm ClockTerm (List ℕ) names_in (bottoms Down y)))
    down_layer (ClockTerm-F.Var v) h = tt
    down_layer (ClockTerm-F.On p m k) h =
        let q = subst (Each P) (ap names_in (apply_on by p.0 m k) ∙ names_roll (ClockTerm-F.On (apply by p.0) m k)) h in (q.0, p.1 q.1)
    down_layer ClockTerm-F.Pointwise h = tt
    down_layer (ClockTerm-F.Arrow ps p) h =
        let ts : List ClockTerm = map (λ (q : With Down). q.0) ps in
        let q = subst (Each P) (ap names_in (apply_arrow by ts p.0) ∙ names_roll (ClockTerm-F.Arrow (map (apply by) ts) (apply by p.0))) h in
        all_both P (joined (map names_in ts)) (names_in p.0)
        (downs ps (all_left P (joined (map names_in (map (apply by) ts))) (names_in (apply by p.0)) q))
        (p.1 (all_right P (joined (map names_in (map (apply by) ts))) (names_in (apply by p.0)) q))

    pub names_down : (t : ClockTerm) → Each P (names_in (apply by t)) → Each P (names_in t)
    names_down = induct Down (λ y h. subst (Each P) (sym (names_roll (bottoms Down y))) (down_layer y h))

  -- ---- an instance is no smaller

  abbrev Up : ClockTerm → Type 0
  Up t = size t ≤ size (apply by t)

  size_roll : (x : ClockTerm-F ClockTerm) → size (roll-ClockTerm x) ≡ 1 + sum (kids_at (map-ClockTerm ClockTerm ℕ size x))
  size_roll x = fold-roll-ClockTerm ℕ (λ z. 1 + sum (kids_at z)) x

  some_size : (t : ClockTerm) → 1 ≤ size t
  some_size t = let e = size_is t in omega (arith, e)

  ups : (ps : List (With Up)) (m n : ℕ) → m ≤ n → sum (map size (map (λ p. p.0) ps) ++ m ∷ []) ≤ sum (map size (map (apply by) (map (λ p. p.0) ps)) ++ n ∷ [])
  ups [] m n h = omega (arith, h)
  ups (p ∷ ps) m n h = let k = ups ps m n h in let q = p.1 in omega (arith, k, q)

  up_layer : (y : ClockTerm-F (With Up)) → 1 + sum (kids_at (map-ClockTerm ClockTerm ℕ size (bottoms Up y))) ≤ size (apply by (roll-ClockTerm (bottoms Up y)))
  up_layer (ClockTerm-F.Var v) = some_size (apply by (roll-ClockTerm (ClockTerm-F.Var v)))
  up_layer (ClockTerm-F.On p m k) =
      let e = ap size (apply_on by p.0 m k) ∙ size_roll (ClockTerm-F.On (apply by p.0) m k) in let q = p.1 in omega (arith, e, q)
  up_layer ClockTerm-F.Pointwise = some_size (apply by (roll-ClockTerm ClockTerm-F.Pointwise))
  up_layer (ClockTerm-F.Arrow ps p) =
      let ts : List ClockTerm = map (λ (q : With Up). q.0) ps in
      let e = ap size (apply_arrow by ts p.0) ∙ size_roll (ClockTerm-F.Arrow (map (apply by) ts) (apply by p.0)) in
      let q = ups ps (size p.0) (size (apply by p.0)) p.1 in omega (arith, e, q)

  pub size_up : (t : ClockTerm) → size t ≤ size (apply by t)
  size_up = induct Up (λ y. let e = size_roll (bottoms Up y) in let q = up_layer y in omega (arith, e, q))

  -- ---- the forms that may stand for a variable

  out_of : (t : ClockTerm) (x : ClockTerm-F ClockTerm) → t ≡ roll-ClockTerm x → out-ClockTerm t ≡ x
  out_of t x e = ap out-ClockTerm e ∙ out-roll-ClockTerm x

  down_at : (x : ClockTerm-F ClockTerm) → stands (apply by (roll-ClockTerm x)) ≡ true → stands_at x ≡ true
  down_at (ClockTerm-F.Var v) h = refl
  down_at (ClockTerm-F.On t m k) h = refl
  down_at ClockTerm-F.Pointwise h = sym (ap stands_at (out_of (apply by pointwise) ClockTerm-F.Pointwise (apply_pointwise by))) ∙ h
  down_at (ClockTerm-F.Arrow ts t) h = sym (ap stands_at (out_of (apply by (arrow ts t)) (ClockTerm-F.Arrow (map (apply by) ts) (apply by t)) (apply_arrow by ts t))) ∙ h

  pub stands_down : (t : ClockTerm) → stands (apply by t) ≡ true → stands t ≡ true
  stands_down t h = down_at (out-ClockTerm t) (ap (λ z. stands (apply by z)) (roll-out-ClockTerm t) ∙ h)

  -- ---- the forms that types ask for, where what stands for variables may stand

  module _ (standing : (x : ℕ) (t : ClockTerm) → by x ≡ Some t → stands t ≡ true) where
    stands_value : (x : ℕ) (o : Option ClockTerm) → by x ≡ o → stands (unwrap_or o (roll-ClockTerm (ClockTerm-F.Var x))) ≡ true
    stands_value x None e = ap stands_at (out-roll-ClockTerm (ClockTerm-F.Var x))
    stands_value x (Some t) e = standing x t e

    stands_at_up : (x : ClockTerm-F ClockTerm) → stands_at x ≡ true → stands (apply by (roll-ClockTerm x)) ≡ true
    stands_at_up (ClockTerm-F.Var v) h = ap stands (fold-roll-ClockTerm ClockTerm (apply_at by) (ClockTerm-F.Var v)) ∙ stands_value v (by v) refl
    stands_at_up (ClockTerm-F.On t m k) h = ap stands_at (out_of (apply by (on t m k)) (ClockTerm-F.On (apply by t) m k) (apply_on by t m k))
    stands_at_up ClockTerm-F.Pointwise h = absurd (cc)
    stands_at_up (ClockTerm-F.Arrow ts t) h = absurd (cc)

    pub stands_up : (t : ClockTerm) → stands t ≡ true → stands (apply by t) ≡ true
    stands_up t h = ap (λ z. stands (apply by z)) (sym (roll-out-ClockTerm t)) ∙ stands_at_up (out-ClockTerm t) h

    abbrev Fits : TypeTerm → Type 0
    Fits ty = (t : ClockTerm) → fits ty t ≡ true → fits ty (apply by t) ≡ true

    abbrev WithFits : Type 0
    WithFits = (ty : TypeTerm) × Fits ty

    abbrev below : TypeTerm-F WithFits → TypeTerm-F TypeTerm
    below y = map-TypeTerm WithFits TypeTerm (λ p. p.0) y

    true_and : (p q : Bool) → p ≡ true → q ≡ true → p && q ≡ true
    true_and p q e f = ap₂ (λ x y. x && y) e f

    all_up : (ps : List WithFits) (ts : List ClockTerm) → fit_all (map fits (map (λ p. p.0) ps)) ts ≡ true → fit_all (map fits (map (λ p. p.0) ps)) (map (apply by) ts) ≡ true
    all_up [] [] h = refl
    all_up [] (t ∷ ts) h = h
    all_up (p ∷ ps) [] h = h
    all_up (p ∷ ps) (t ∷ ts) h =
        let q = and_parts (fits p.0 t) (fit_all (map fits (map (λ r. r.0) ps)) ts) h in
        true_and (fits p.0 (apply by t)) (fit_all (map fits (map (λ r. r.0) ps)) (map (apply by) ts)) (p.1 t q.0) (all_up ps ts q.1)

    pointwise_up : (x : ClockTerm-F ClockTerm) → is_pointwise x ≡ true → is_pointwise (out-ClockTerm (apply by (roll-ClockTerm x))) ≡ true
    pointwise_up ClockTerm-F.Pointwise h = ap is_pointwise (out_of (apply by pointwise) ClockTerm-F.Pointwise (apply_pointwise by))
    pointwise_up (ClockTerm-F.Var v) h = absurd (cc)
    pointwise_up (ClockTerm-F.On t m k) h = absurd (cc)
    pointwise_up (ClockTerm-F.Arrow ts t) h = absurd (cc)

    arrow_up : (ps : List WithFits) (x : ClockTerm-F ClockTerm) → fit_arrow (map fits (map (λ p. p.0) ps)) x ≡ true → fit_arrow (map fits (map (λ p. p.0) ps)) (out-ClockTerm (apply by (roll-ClockTerm x))) ≡ true
    arrow_up ps (ClockTerm-F.Arrow ts t) h =
        let fs = map fits (map (λ (p : WithFits). p.0) ps) in
        let q = and_parts (fit_all fs ts) (stands t) h in
        ap (fit_arrow fs) (out_of (apply by (arrow ts t)) (ClockTerm-F.Arrow (map (apply by) ts) (apply by t)) (apply_arrow by ts t))
        ∙ true_and (fit_all fs (map (apply by) ts)) (stands (apply by t)) (all_up ps ts q.0) (stands_up t q.1)
    arrow_up ps (ClockTerm-F.Var v) h = absurd (cc)
    arrow_up ps (ClockTerm-F.On t m k) h = absurd (cc)
    arrow_up ps ClockTerm-F.Pointwise h = absurd (cc)

    back : (t : ClockTerm) → apply by t ≡ apply by (roll-ClockTerm (out-ClockTerm t))
    back t = ap (apply by) (sym (roll-out-ClockTerm t))

    fits_layer : (y : TypeTerm-F WithFits) (t : ClockTerm) → fits_step (map-TypeTerm TypeTerm Form fits (below y)) t ≡ true → fits_step (map-TypeTerm TypeTerm Form fits (below y)) (apply by t) ≡ true
    fits_layer (TypeTerm-F.Arrow kind.Comb ps p) t h = ap (λ z. is_pointwise (out-ClockTerm z)) (back t) ∙ pointwise_up (out-ClockTerm t) h
    fits_layer (TypeTerm-F.Arrow kind.Seq ps p) t h = ap (λ z. fit_arrow (map fits (map (λ (r : WithFits). r.0) ps)) (out-ClockTerm z)) (back t) ∙ arrow_up ps (out-ClockTerm t) h
    fits_layer (TypeTerm-F.Var v) t h = stands_up t h
    fits_layer _ t h = stands_up t h

    pub fits_up : (ty : TypeTerm) (t : ClockTerm) → fits ty t ≡ true → fits ty (apply by t) ≡ true
    fits_up = ind-TypeTerm Fits (λ x y from. subst (λ z. Fits (roll-TypeTerm z)) from (λ t h.
        ap (λ (f : Form). f (apply by t)) (fold-roll-TypeTerm Form fits_step (below y)) ∙ fits_layer y t (ap (λ (f : Form). f t) (sym (fold-roll-TypeTerm Form fits_step (below y))) ∙ h)))
