-- Another variable in place of one; and what a substitution leaves as it is.
use Rattle.std.specs.Prelude.{◌≡◌, refl, ℕ, suc, ◌+◌, ◌==◌, ◌||◌, Bool, true, false, List, [], ◌∷◌, ◌++◌, map, Option, Some, None, unwrap_or, if◌then◌else◌}
use Rattle.std.proofs.Common.{ap, ap₂, sym, ◌∙◌, subst, arith}
use Rattle.std.proofs.lemmas.Bool.{eqb-true, eq-eqb}
use Rattle.std.proofs.lemmas.Bool.Decides.{nat_tests}
use Rattle.ls_terms.specs.declared.clocks.ClockTerm.{ClockTerm, fold-roll-ClockTerm, map-ClockTerm, out-ClockTerm, out-roll-ClockTerm, roll-ClockTerm}
use Rattle.ls_terms.specs.declared.clocks.ClockTerm.TheOpen.{ClockTerm-F}
use Rattle.ls_terms.specs.declared.types.Kind.TheVariants as kind
use Rattle.ls_terms.specs.declared.types.TypeTerm.{TypeTerm, fold-roll-TypeTerm, map-TypeTerm, out-TypeTerm, roll-out-TypeTerm}
use Rattle.ls_terms.specs.declared.types.TypeTerm.TheOpen.{TypeTerm-F}
use Rattle.ls_terms.specs.Clocks.{apply, apply_at, size, kids_at, sum, stands, stands_at}
use Rattle.ls_places.specs.Clocks.{any, arrow_type, mentions, mentions_step}
use Rattle.tree_notes.specs.Each.{Each}
use Rattle.tree_notes.specs.Order.{joined}
use Rattle.clock_rules.specs.Terms.{on, var, names_in, names_step, fits, fits_step, fit_arrow, is_pointwise, is_function, Form}
use Rattle.clock_rules.proofs.Sides.{all_left, all_right, all_both, stands_up}
use Rattle.clock_rules.proofs.Substitution.{With, bottoms, induct, apply_on, apply_arrow, apply_pointwise}
use Rattle.clock_laws.specs.WellFormed.{samplings}
use Rattle.clock_laws.proofs.Shrink.{samplings_var, samplings_on, samplings_pointwise, samplings_arrow}

-- ---- another variable

module _ (w : ℕ) where
  abbrev pub other : ℕ → Option ClockTerm
  other x = if x == w then Some (var (suc w)) else None

  abbrev pub renamed : ClockTerm → ClockTerm
  renamed = apply other

  renamed_var : (v : ℕ) → renamed (var v) ≡ unwrap_or (other v) (var v)
  renamed_var v = fold-roll-ClockTerm ClockTerm (apply_at other) (ClockTerm-F.Var v)

  pub renamed_on : (t : ClockTerm) (m k : ℕ) → renamed (on t m k) ≡ on (renamed t) m k
  renamed_on t m k = apply_on other t m k

  men_roll : (x : ClockTerm-F ClockTerm) → mentions w (roll-ClockTerm x) ≡ mentions_step w (map-ClockTerm ClockTerm Bool (mentions w) x)
  men_roll x = fold-roll-ClockTerm Bool (mentions_step w) x

  -- the variable is gone
  abbrev Gone : ClockTerm → Type 0
  Gone t = mentions w (renamed t) ≡ false

  abbrev gone_terms : List (With Gone) → List ClockTerm
  gone_terms = map {A = With Gone} {B = ClockTerm} (λ q. q.0)

  gone_all : (qs : List (With Gone)) → any (map (mentions w) (map renamed (gone_terms qs))) ≡ false
  gone_all [] = refl
  gone_all (q ∷ qs) = ap₂ (λ a c. a || c) q.1 (gone_all qs)

  gone_if : (v : ℕ) (b : Bool) → (v == w) ≡ b → mentions w (unwrap_or (if b then Some (var (suc w)) else None) (var v)) ≡ false
  gone_if v true e = men_roll (ClockTerm-F.Var (suc w)) ∙ grind (arith, nat_tests)
  gone_if v false e = men_roll (ClockTerm-F.Var v) ∙ turned (w == v) refl
    where
      turned : (b : Bool) → (w == v) ≡ b → b ≡ false
      turned true f = let g : true ≡ false = sym (eq-eqb v w (sym (eqb-true w v f))) ∙ e in g
      turned false f = refl

  gone_at : (y : ClockTerm-F (With Gone)) → Gone (roll-ClockTerm (bottoms Gone y))
  gone_at (ClockTerm-F.Var v) = ap (mentions w) (renamed_var v) ∙ gone_if v (v == w) refl
  gone_at (ClockTerm-F.On q m k) = ap (mentions w) (renamed_on q.0 m k) ∙ men_roll (ClockTerm-F.On (renamed q.0) m k) ∙ q.1
  gone_at ClockTerm-F.Pointwise = ap (mentions w) (apply_pointwise other) ∙ men_roll ClockTerm-F.Pointwise
  gone_at (ClockTerm-F.Arrow qs q) = ap (mentions w) (apply_arrow other (gone_terms qs) q.0) ∙ men_roll (ClockTerm-F.Arrow (map renamed (gone_terms qs)) (renamed q.0)) ∙ ap₂ (λ a c. a || c) (gone_all qs) q.1

  pub renamed_gone : (t : ClockTerm) → mentions w (renamed t) ≡ false
  renamed_gone = induct Gone gone_at

  -- the same size
  size_roll : (x : ClockTerm-F ClockTerm) → size (roll-ClockTerm x) ≡ 1 + sum (kids_at (map-ClockTerm ClockTerm ℕ size x))
  size_roll x = fold-roll-ClockTerm ℕ (λ z. 1 + sum (kids_at z)) x

  abbrev Sized : ClockTerm → Type 0
  Sized t = size (renamed t) ≡ size t

  abbrev sized_terms : List (With Sized) → List ClockTerm
  sized_terms = map {A = With Sized} {B = ClockTerm} (λ q. q.0)

  sized_all : (qs : List (With Sized)) (a b : ℕ) → a ≡ b → sum (map size (map renamed (sized_terms qs)) ++ a ∷ []) ≡ sum (map size (sized_terms qs) ++ b ∷ [])
  sized_all [] a b e = ap (λ z. sum (z ∷ [])) e
  sized_all (q ∷ qs) a b e = ap₂ (λ x y. x + y) q.1 (sized_all qs a b e)

  sized_if : (v : ℕ) (b : Bool) → size (unwrap_or (if b then Some (var (suc w)) else None) (var v)) ≡ size (var v)
  sized_if v true = size_roll (ClockTerm-F.Var (suc w)) ∙ sym (size_roll (ClockTerm-F.Var v))
  sized_if v false = refl

  sized_at : (y : ClockTerm-F (With Sized)) → Sized (roll-ClockTerm (bottoms Sized y))
  sized_at (ClockTerm-F.Var v) = ap size (renamed_var v) ∙ sized_if v (v == w)
  sized_at (ClockTerm-F.On q m k) = ap size (renamed_on q.0 m k) ∙ size_roll (ClockTerm-F.On (renamed q.0) m k) ∙ ap (λ z. 1 + (z + 0)) q.1 ∙ sym (size_roll (ClockTerm-F.On q.0 m k))
  sized_at ClockTerm-F.Pointwise = ap size (apply_pointwise other)
  sized_at (ClockTerm-F.Arrow qs q) =
      ap size (apply_arrow other (sized_terms qs) q.0) ∙ size_roll (ClockTerm-F.Arrow (map renamed (sized_terms qs)) (renamed q.0))
      ∙ ap (λ z. 1 + z) (sized_all qs (size (renamed q.0)) (size q.0) q.1) ∙ sym (size_roll (ClockTerm-F.Arrow (sized_terms qs) q.0))

  pub renamed_size : (t : ClockTerm) → size (renamed t) ≡ size t
  renamed_size = induct Sized sized_at

  standing : (x : ℕ) (t : ClockTerm) → other x ≡ Some t → stands t ≡ true
  standing x t = by_case (x == w)
    where
      by_case : (b : Bool) → (if b then Some (var (suc w)) else None) ≡ Some t → stands t ≡ true
      by_case true e = let s : var (suc w) ≡ t = cc in ap stands (sym s) ∙ ap stands_at (out-roll-ClockTerm (ClockTerm-F.Var (suc w)))
      by_case false e = absurd (cc)

  pub renamed_stands : (t : ClockTerm) → stands t ≡ true → stands (renamed t) ≡ true
  renamed_stands = stands_up other standing

  -- the same names
  module _ (P : ℕ → Type 0) where
    abbrev Kept : ClockTerm → Type 0
    Kept t = Each P (names_in t) → Each P (names_in (renamed t))

    abbrev kept_terms : List (With Kept) → List ClockTerm
    kept_terms = map {A = With Kept} {B = ClockTerm} (λ q. q.0)

    names_roll : (x : ClockTerm-F ClockTerm) → names_in (roll-ClockTerm x) ≡ names_step (map-ClockTerm ClockTerm (List ℕ) names_in x)
    names_roll x = fold-roll-ClockTerm (List ℕ) names_step x

    kept_all : (qs : List (With Kept)) → Each P (joined (map names_in (kept_terms qs))) → Each P (joined (map names_in (map renamed (kept_terms qs))))
    kept_all [] h = tt
    kept_all (q ∷ qs) h = all_both P (names_in (renamed q.0)) (joined (map names_in (map renamed (kept_terms qs))))
        (q.1 (all_left P (names_in q.0) (joined (map names_in (kept_terms qs))) h)) (kept_all qs (all_right P (names_in q.0) (joined (map names_in (kept_terms qs))) h))

    kept_if : (v : ℕ) (b : Bool) → Each P (names_in (unwrap_or (if b then Some (var (suc w)) else None) (var v)))
    kept_if v true = subst (Each P) (sym (names_roll (ClockTerm-F.Var (suc w)))) tt
    kept_if v false = subst (Each P) (sym (names_roll (ClockTerm-F.Var v))) tt

    kept_at : (y : ClockTerm-F (With Kept)) → Each P (names_step (map-ClockTerm ClockTerm (List ℕ) names_in (bottoms Kept y))) → Each P (names_in (renamed (roll-ClockTerm (bottoms Kept y))))
    kept_at (ClockTerm-F.Var v) h = subst (λ z. Each P (names_in z)) (sym (renamed_var v)) (kept_if v (v == w))
    kept_at (ClockTerm-F.On q m k) h = subst (λ z. Each P (names_in z)) (sym (renamed_on q.0 m k)) (subst (Each P) (sym (names_roll (ClockTerm-F.On (renamed q.0) m k))) (h.0, q.1 h.1))
    kept_at ClockTerm-F.Pointwise h = subst (λ z. Each P (names_in z)) (sym (apply_pointwise other)) (subst (Each P) (sym (names_roll ClockTerm-F.Pointwise)) tt)
    kept_at (ClockTerm-F.Arrow qs q) h =
        let ts : List ClockTerm = kept_terms qs in
        subst (λ z. Each P (names_in z)) (sym (apply_arrow other ts q.0)) (subst (Each P) (sym (names_roll (ClockTerm-F.Arrow (map renamed ts) (renamed q.0))))
        (all_both P (joined (map names_in (map renamed ts))) (names_in (renamed q.0)) (kept_all qs (all_left P (joined (map names_in ts)) (names_in q.0) h)) (q.1 (all_right P (joined (map names_in ts)) (names_in q.0) h))))

    pub renamed_names : (t : ClockTerm) → Each P (names_in t) → Each P (names_in (renamed t))
    renamed_names = induct Kept (λ y h. kept_at y (subst (Each P) (names_roll (bottoms Kept y)) h))

-- ---- what is left as it is

module _ (by : ℕ → Option ClockTerm) where
  abbrev Same : ClockTerm × ℕ → Type 0
  Same z = apply by z.0 ≡ z.0

  abbrev Fixed : ClockTerm → Type 0
  Fixed t = apply by t ≡ t → Each Same (samplings t)

  abbrev fixed_terms : List (With Fixed) → List ClockTerm
  fixed_terms = map {A = With Fixed} {B = ClockTerm} (λ q. q.0)

  abbrev below_on : ClockTerm → ClockTerm-F ClockTerm → ClockTerm
  below_on z (ClockTerm-F.On t m k) = t
  below_on z _ = z

  abbrev result_of : ClockTerm → ClockTerm-F ClockTerm → ClockTerm
  result_of z (ClockTerm-F.Arrow ts t) = t
  result_of z _ = z

  abbrev params_of : ClockTerm-F ClockTerm → List ClockTerm
  params_of (ClockTerm-F.Arrow ts t) = ts
  params_of _ = []

  outs : (x y : ClockTerm-F ClockTerm) → roll-ClockTerm x ≡ roll-ClockTerm y → x ≡ y
  outs x y e = sym (out-roll-ClockTerm x) ∙ ap out-ClockTerm e ∙ out-roll-ClockTerm y

  abbrev or_first : ClockTerm → List ClockTerm → ClockTerm
  or_first z [] = z
  or_first z (x ∷ xs) = x

  abbrev rest : List ClockTerm → List ClockTerm
  rest [] = []
  rest (x ∷ xs) = xs

  fixed_all : (qs : List (With Fixed)) → map (apply by) (fixed_terms qs) ≡ fixed_terms qs → Each Same (joined (map samplings (fixed_terms qs)))
  fixed_all [] e = tt
  fixed_all (q ∷ qs) e = all_both Same (samplings q.0) (joined (map samplings (fixed_terms qs))) (q.1 (ap (or_first q.0) e)) (fixed_all qs (ap rest e))

  fixed_at : (y : ClockTerm-F (With Fixed)) → Fixed (roll-ClockTerm (bottoms Fixed y))
  fixed_at (ClockTerm-F.Var v) e = subst (Each Same) (sym (samplings_var v)) tt
  fixed_at (ClockTerm-F.On q m k) e =
      let f : apply by q.0 ≡ q.0 = ap (below_on q.0) (outs (ClockTerm-F.On (apply by q.0) m k) (ClockTerm-F.On q.0 m k) (sym (apply_on by q.0 m k) ∙ e)) in
      subst (Each Same) (sym (samplings_on q.0 m k)) (f, q.1 f)
  fixed_at ClockTerm-F.Pointwise e = subst (Each Same) (sym samplings_pointwise) tt
  fixed_at (ClockTerm-F.Arrow qs q) e =
      let ts : List ClockTerm = fixed_terms qs in
      let f = outs (ClockTerm-F.Arrow (map (apply by) ts) (apply by q.0)) (ClockTerm-F.Arrow ts q.0) (sym (apply_arrow by ts q.0) ∙ e) in
      subst (Each Same) (sym (samplings_arrow ts q.0)) (all_both Same (joined (map samplings ts)) (samplings q.0) (fixed_all qs (ap params_of f)) (q.1 (ap (result_of q.0) f)))

  pub fixed_below : (t : ClockTerm) → apply by t ≡ t → Each Same (samplings t)
  fixed_below = induct Fixed fixed_at

-- ---- a function has no clock of a stream

stands_not : (x : ClockTerm-F ClockTerm) (fs : List Form) → stands_at x ≡ true → fit_arrow fs x ≡ true → ⊥
stands_not (ClockTerm-F.Var v) fs s f = absurd (cc)
stands_not (ClockTerm-F.On t m k) fs s f = absurd (cc)
stands_not ClockTerm-F.Pointwise fs s f = absurd (cc)
stands_not (ClockTerm-F.Arrow ts t) fs s f = absurd (cc)

points_not : (x : ClockTerm-F ClockTerm) → stands_at x ≡ true → is_pointwise x ≡ true → ⊥
points_not (ClockTerm-F.Var v) s f = absurd (cc)
points_not (ClockTerm-F.On t m k) s f = absurd (cc)
points_not ClockTerm-F.Pointwise s f = absurd (cc)
points_not (ClockTerm-F.Arrow ts t) s f = absurd (cc)

function_at : (x : TypeTerm-F TypeTerm) (t : ClockTerm) → arrow_type x ≡ true → fits_step (map-TypeTerm TypeTerm Form fits x) t ≡ true → stands t ≡ true → ⊥
function_at (TypeTerm-F.Arrow kind.Comb ts u) t a f s = points_not (out-ClockTerm t) s f
function_at (TypeTerm-F.Arrow kind.Seq ts u) t a f s = stands_not (out-ClockTerm t) (map fits ts) s f
function_at (TypeTerm-F.Var v) t a f s = absurd (cc)
function_at _ t a f s = absurd (cc)

pub function_not : (ty : TypeTerm) (t : ClockTerm) → is_function ty ≡ true → fits ty t ≡ true → stands t ≡ true → ⊥
function_not ty t a f s = function_at (out-TypeTerm ty) t a
    (ap (λ (g : Form). g t) (sym (fold-roll-TypeTerm Form fits_step (out-TypeTerm ty)) ∙ ap fits (roll-out-TypeTerm ty)) ∙ f) s
