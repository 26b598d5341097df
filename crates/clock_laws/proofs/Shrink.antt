-- Clocks with a variable in place of each sampling on a name of another clock than the name's, the outermost first.
use Rattle.std.specs.Prelude.{◌≡◌, ℕ, ◌+◌, ◌≤◌, ◌&&◌, Bool, true, false, List, [], ◌∷◌, ◌++◌, map, Option, Some, None, if◌then◌else◌, refl}
use Rattle.std.proofs.Common.{ap, ap₂, sym, ◌∙◌, subst, arith}
use Rattle.std.proofs.lemmas.Bool.{and_parts}
use Rattle.ls_terms.specs.declared.clocks.ClockTerm.{ClockTerm, fold-ClockTerm, fold-roll-ClockTerm, map-ClockTerm, out-ClockTerm, roll-ClockTerm, out-roll-ClockTerm, roll-out-ClockTerm}
use Rattle.ls_terms.specs.declared.clocks.ClockTerm.TheOpen.{ClockTerm-F}
use Rattle.ls_terms.specs.declared.types.Kind.TheVariants as kind
use Rattle.ls_terms.specs.declared.types.TypeTerm.{TypeTerm, fold-roll-TypeTerm, ind-TypeTerm, map-TypeTerm, roll-TypeTerm}
use Rattle.ls_terms.specs.declared.types.TypeTerm.TheOpen.{TypeTerm-F}
use Rattle.ls_terms.specs.Clocks.{size, kids_at, sum, stands, stands_at}
use Rattle.tree_notes.specs.Each.{Each}
use Rattle.tree_notes.specs.Order.{joined}
use Rattle.clock_rules.specs.Terms.{on, arrow, pointwise, var, names_in, names_step, fits, fits_step, fit_all, fit_arrow, is_pointwise, Form}
use Rattle.clock_rules.proofs.Sides.{all_left, all_right, all_both}
use Rattle.clock_rules.proofs.Substitution.{With, bottoms, induct}
use Rattle.clock_laws.specs.WellFormed.{Seen, clock_of, found_in, samplings_step, with_samplings, samplings, IsWellFormed}
use Rattle.clock_laws.proofs.Same.{same, same_true, same_self}

-- ---- what is sampled in a clock

abbrev SeenIs : ClockTerm → Type 0
SeenIs t = (with_samplings t).0 ≡ t

seen_all : (ps : List (With SeenIs)) → map clock_of (map with_samplings (map (λ p. p.0) ps)) ≡ map (λ (p : With SeenIs). p.0) ps
seen_all [] = refl
seen_all (p ∷ ps) = ap₂ (λ x y. x ∷ y) p.1 (seen_all ps)

seen_at : (y : ClockTerm-F (With SeenIs)) → (samplings_step (map-ClockTerm ClockTerm Seen with_samplings (bottoms SeenIs y))).0 ≡ roll-ClockTerm (bottoms SeenIs y)
seen_at (ClockTerm-F.Var v) = refl
seen_at (ClockTerm-F.On p m k) = ap (λ z. on z m k) p.1
seen_at ClockTerm-F.Pointwise = refl
seen_at (ClockTerm-F.Arrow ps p) = ap₂ arrow (seen_all ps) p.1

pub seen_is : (t : ClockTerm) → (with_samplings t).0 ≡ t
seen_is = induct SeenIs (λ y. ap clock_of (fold-roll-ClockTerm Seen samplings_step (bottoms SeenIs y)) ∙ seen_at y)

pub samplings_var : (v : ℕ) → samplings (var v) ≡ []
samplings_var v = ap found_in (fold-roll-ClockTerm Seen samplings_step (ClockTerm-F.Var v))

pub samplings_on : (t : ClockTerm) (m k : ℕ) → samplings (on t m k) ≡ (t, m) ∷ samplings t
samplings_on t m k = ap found_in (fold-roll-ClockTerm Seen samplings_step (ClockTerm-F.On t m k)) ∙ ap (λ z. (z, m) ∷ samplings t) (seen_is t)

pub samplings_pointwise : samplings pointwise ≡ []
samplings_pointwise = ap found_in (fold-roll-ClockTerm Seen samplings_step ClockTerm-F.Pointwise)

samplings_all : (ts : List ClockTerm) → joined (map found_in (map with_samplings ts)) ≡ joined (map samplings ts)
samplings_all [] = refl
samplings_all (t ∷ ts) = ap (λ z. samplings t ++ z) (samplings_all ts)

pub samplings_arrow : (ts : List ClockTerm) (t : ClockTerm) → samplings (arrow ts t) ≡ joined (map samplings ts) ++ samplings t
samplings_arrow ts t = ap found_in (fold-roll-ClockTerm Seen samplings_step (ClockTerm-F.Arrow ts t)) ∙ ap (λ z. z ++ samplings t) (samplings_all ts)

-- ---- the clocks

abbrev Pair : Type 0
Pair = ClockTerm × ClockTerm

abbrev old : Pair → ClockTerm
old p = p.0

abbrev new : Pair → ClockTerm
new p = p.1

-- the clock is that of the name
abbrev is_own : Option ClockTerm → ClockTerm → Bool
is_own None t = false
is_own (Some u) t = same t u

own_true : (o : Option ClockTerm) (t : ClockTerm) → is_own o t ≡ true → Some t ≡ o
own_true None t e = absurd (cc)
own_true (Some u) t e = ap Some (same_true t u e)

module _ (own : ℕ → Option ClockTerm) where
  abbrev kept : Bool → ClockTerm → ClockTerm
  kept t ck = if t then ck else var 0

  abbrev shrink_step : ClockTerm-F Pair → Pair
  shrink_step (ClockTerm-F.Var v) = (var v, var v)
  shrink_step (ClockTerm-F.On s m k) = (on s.0 m k, kept (is_own (own m) s.0) (on s.1 m k))
  shrink_step ClockTerm-F.Pointwise = (pointwise, pointwise)
  shrink_step (ClockTerm-F.Arrow ss s) = (arrow (map old ss) s.0, arrow (map new ss) s.1)

  abbrev both : ClockTerm → Pair
  both = fold-ClockTerm Pair shrink_step

  abbrev pub shrink : ClockTerm → ClockTerm
  shrink t = (both t).1

  abbrev OldIs : ClockTerm → Type 0
  OldIs t = (both t).0 ≡ t

  old_all : (ps : List (With OldIs)) → map old (map both (map (λ p. p.0) ps)) ≡ map (λ (p : With OldIs). p.0) ps
  old_all [] = refl
  old_all (p ∷ ps) = ap₂ (λ x y. x ∷ y) p.1 (old_all ps)

  old_at : (y : ClockTerm-F (With OldIs)) → (shrink_step (map-ClockTerm ClockTerm Pair both (bottoms OldIs y))).0 ≡ roll-ClockTerm (bottoms OldIs y)
  old_at (ClockTerm-F.Var v) = refl
  old_at (ClockTerm-F.On p m k) = ap (λ z. on z m k) p.1
  old_at ClockTerm-F.Pointwise = refl
  old_at (ClockTerm-F.Arrow ps p) = ap₂ arrow (old_all ps) p.1

  old_is : (t : ClockTerm) → (both t).0 ≡ t
  old_is = induct OldIs (λ y. ap old (fold-roll-ClockTerm Pair shrink_step (bottoms OldIs y)) ∙ old_at y)

  pub shrink_var : (v : ℕ) → shrink (var v) ≡ var v
  shrink_var v = ap new (fold-roll-ClockTerm Pair shrink_step (ClockTerm-F.Var v))

  pub shrink_on : (t : ClockTerm) (m k : ℕ) → shrink (on t m k) ≡ kept (is_own (own m) t) (on (shrink t) m k)
  shrink_on t m k = ap new (fold-roll-ClockTerm Pair shrink_step (ClockTerm-F.On t m k)) ∙ ap (λ z. kept (is_own (own m) z) (on (shrink t) m k)) (old_is t)

  pub shrink_good : (t : ClockTerm) (m k : ℕ) → Some t ≡ own m → shrink (on t m k) ≡ on (shrink t) m k
  shrink_good t m k e = shrink_on t m k ∙ ap (λ z. kept z (on (shrink t) m k)) (ap (λ o. is_own o t) (sym e) ∙ same_self t)

  pub shrink_pointwise : shrink pointwise ≡ pointwise
  shrink_pointwise = ap new (fold-roll-ClockTerm Pair shrink_step ClockTerm-F.Pointwise)

  new_all : (ts : List ClockTerm) → map new (map both ts) ≡ map shrink ts
  new_all [] = refl
  new_all (t ∷ ts) = ap (λ z. shrink t ∷ z) (new_all ts)

  pub shrink_arrow : (ts : List ClockTerm) (t : ClockTerm) → shrink (arrow ts t) ≡ arrow (map shrink ts) (shrink t)
  shrink_arrow ts t = ap new (fold-roll-ClockTerm Pair shrink_step (ClockTerm-F.Arrow ts t)) ∙ ap (λ z. arrow z (shrink t)) (new_all ts)

  -- ---- fewer names

  module _ (P : ℕ → Type 0) where
    abbrev Fewer : ClockTerm → Type 0
    Fewer t = Each P (names_in t) → Each P (names_in (shrink t))

    names_roll : (x : ClockTerm-F ClockTerm) → names_in (roll-ClockTerm x) ≡ names_step (map-ClockTerm ClockTerm (List ℕ) names_in x)
    names_roll x = fold-roll-ClockTerm (List ℕ) names_step x

    fewer_all : (ps : List (With Fewer)) → Each P (joined (map names_in (map (λ p. p.0) ps))) → Each P (joined (map names_in (map shrink (map (λ (p : With Fewer). p.0) ps))))
    fewer_all [] h = tt
    fewer_all (p ∷ ps) h = all_both P (names_in (shrink p.0)) (joined (map names_in (map shrink (map (λ (q : With Fewer). q.0) ps))))
        (p.1 (all_left P (names_in p.0) (joined (map names_in (map (λ (q : With Fewer). q.0) ps))) h))
        (fewer_all ps (all_right P (names_in p.0) (joined (map names_in (map (λ (q : With Fewer). q.0) ps))) h))

    fewer_kept : (b : Bool) (t : ClockTerm) (m k : ℕ) → P m → Each P (names_in t) → Each P (names_in (kept b (on t m k)))
    fewer_kept true t m k p h = subst (Each P) (sym (names_roll (ClockTerm-F.On t m k))) (p, h)
    fewer_kept false t m k p h = subst (Each P) (sym (names_roll (ClockTerm-F.Var 0))) tt

    fewer_at : (y : ClockTerm-F (With Fewer)) → Each P (names_step (map-ClockTerm ClockTerm (List ℕ) names_in (bottoms Fewer y))) → Each P (names_in (shrink (roll-ClockTerm (bottoms Fewer y))))
    fewer_at (ClockTerm-F.Var v) h = subst (λ z. Each P (names_in z)) (sym (shrink_var v)) (subst (Each P) (sym (names_roll (ClockTerm-F.Var v))) tt)
    fewer_at (ClockTerm-F.On p m k) h = subst (λ z. Each P (names_in z)) (sym (shrink_on p.0 m k)) (fewer_kept (is_own (own m) p.0) (shrink p.0) m k h.0 (p.1 h.1))
    fewer_at ClockTerm-F.Pointwise h = subst (λ z. Each P (names_in z)) (sym shrink_pointwise) (subst (Each P) (sym (names_roll ClockTerm-F.Pointwise)) tt)
    fewer_at (ClockTerm-F.Arrow ps p) h =
        let ts : List ClockTerm = map (λ (q : With Fewer). q.0) ps in
        subst (λ z. Each P (names_in z)) (sym (shrink_arrow ts p.0)) (subst (Each P) (sym (names_roll (ClockTerm-F.Arrow (map shrink ts) (shrink p.0))))
        (all_both P (joined (map names_in (map shrink ts))) (names_in (shrink p.0))
        (fewer_all ps (all_left P (joined (map names_in ts)) (names_in p.0) h)) (p.1 (all_right P (joined (map names_in ts)) (names_in p.0) h))))

    pub fewer_names : (t : ClockTerm) → Each P (names_in t) → Each P (names_in (shrink t))
    fewer_names = induct Fewer (λ y h. fewer_at y (subst (Each P) (names_roll (bottoms Fewer y)) h))

  -- ---- no larger, and smaller where something is put

  abbrev Good : ClockTerm × ℕ → Type 0
  Good s = Some s.0 ≡ own s.1

  abbrev Sized : ClockTerm → Type 0
  Sized t = (size (shrink t) ≤ size t) × (size t ≤ size (shrink t) → IsWellFormed own t)

  size_roll : (x : ClockTerm-F ClockTerm) → size (roll-ClockTerm x) ≡ 1 + sum (kids_at (map-ClockTerm ClockTerm ℕ size x))
  size_roll x = fold-roll-ClockTerm ℕ (λ z. 1 + sum (kids_at z)) x

  abbrev terms : List (With Sized) → List ClockTerm
  terms = map {A = With Sized} {B = ClockTerm} (λ p. p.0)

  sizes_down : (ps : List (With Sized)) (m n : ℕ) → m ≤ n → sum (map size (map shrink (terms ps)) ++ m ∷ []) ≤ sum (map size (terms ps) ++ n ∷ [])
  sizes_down [] m n h = omega (arith, h)
  sizes_down (p ∷ ps) m n h = let k = sizes_down ps m n h in let q = p.1.0 in omega (arith, k, q)

  sizes_up : (ps : List (With Sized)) (m n : ℕ) → m ≤ n → sum (map size (terms ps) ++ n ∷ []) ≤ sum (map size (map shrink (terms ps)) ++ m ∷ []) → (n ≤ m) × Each Good (joined (map samplings (terms ps)))
  sizes_up [] m n l h = (omega (arith, h), tt)
  sizes_up (p ∷ ps) m n l h =
      let k = sizes_down ps m n l in
      let q = p.1.0 in
      let r = sizes_up ps m n l (omega (arith, h, k, q)) in
      (r.0, all_both Good (samplings p.0) (joined (map samplings (terms ps))) (p.1.1 (omega (arith, h, k, q))) r.1)

  on_size : (t : ClockTerm) (m k : ℕ) → size (on t m k) ≡ 1 + (size t + 0)
  on_size t m k = size_roll (ClockTerm-F.On t m k)

  var_size : (v : ℕ) → size (var v) ≡ 1
  var_size v = size_roll (ClockTerm-F.Var v)

  sized_kept : (b : Bool) (t : ClockTerm) (m k : ℕ) → is_own (own m) t ≡ b → Sized t → (size (kept b (on (shrink t) m k)) ≤ size (on t m k)) × (size (on t m k) ≤ size (kept b (on (shrink t) m k)) → IsWellFormed own (on t m k))
  sized_kept true t m k e h =
      let a = on_size (shrink t) m k in let b = on_size t m k in let q = h.0 in
      (omega (arith, a, b, q), λ l. subst (Each Good) (sym (samplings_on t m k)) (own_true (own m) t e, h.1 (omega (arith, a, b, l))))
  sized_kept false t m k e h =
      let a = var_size 0 in let b = on_size t m k in let s = some_size t in
      (omega (arith, a, b), λ l. absurd (omega (arith, a, b, s, l)))
    where
      some_size : (t : ClockTerm) → 1 ≤ size t
      some_size t = let e = ap size (sym (roll-out-ClockTerm t)) ∙ size_roll (out-ClockTerm t) in omega (arith, e)

  sized_at : (y : ClockTerm-F (With Sized)) → Sized (roll-ClockTerm (bottoms Sized y))
  sized_at (ClockTerm-F.Var v) = let e = ap size (shrink_var v) in (omega (arith, e), λ l. subst (Each Good) (sym (samplings_var v)) tt)
  sized_at (ClockTerm-F.On p m k) =
      let q = sized_kept (is_own (own m) p.0) p.0 m k refl p.1 in
      let e = ap size (shrink_on p.0 m k) in
      let l = q.0 in
      (omega (arith, e, l), λ h. q.1 (omega (arith, e, h)))
  sized_at ClockTerm-F.Pointwise = let e = ap size shrink_pointwise in (omega (arith, e), λ l. subst (Each Good) (sym samplings_pointwise) tt)
  sized_at (ClockTerm-F.Arrow ps p) =
      let ts : List ClockTerm = terms ps in
      let a = ap size (shrink_arrow ts p.0) ∙ size_roll (ClockTerm-F.Arrow (map shrink ts) (shrink p.0)) in
      let b = size_roll (ClockTerm-F.Arrow ts p.0) in
      let c = sizes_down ps (size (shrink p.0)) (size p.0) p.1.0 in (
        omega (arith, a, b, c),
        λ h.
            let r = sizes_up ps (size (shrink p.0)) (size p.0) p.1.0 (omega (arith, a, b, h)) in
            subst (Each Good) (sym (samplings_arrow ts p.0)) (all_both Good (joined (map samplings ts)) (samplings p.0) r.1 (p.1.1 r.0)),
      )

  sized : (t : ClockTerm) → Sized t
  sized = induct Sized sized_at

  pub no_larger : (t : ClockTerm) → size (shrink t) ≤ size t
  no_larger t = (sized t).0

  pub well_formed : (t : ClockTerm) → size t ≤ size (shrink t) → IsWellFormed own t
  well_formed t = (sized t).1

  -- ---- the form that its type asks for

  out_of : (t : ClockTerm) (x : ClockTerm-F ClockTerm) → t ≡ roll-ClockTerm x → out-ClockTerm t ≡ x
  out_of t x e = ap out-ClockTerm e ∙ out-roll-ClockTerm x

  stands_kept : (b : Bool) (t : ClockTerm) (m k : ℕ) → stands (kept b (on t m k)) ≡ true
  stands_kept true t m k = ap stands_at (out-roll-ClockTerm (ClockTerm-F.On t m k))
  stands_kept false t m k = ap stands_at (out-roll-ClockTerm (ClockTerm-F.Var 0))

  stands_layer : (x : ClockTerm-F ClockTerm) → stands_at x ≡ true → stands (shrink (roll-ClockTerm x)) ≡ true
  stands_layer (ClockTerm-F.Var v) h = ap stands_at (out_of (shrink (var v)) (ClockTerm-F.Var v) (shrink_var v))
  stands_layer (ClockTerm-F.On t m k) h = ap stands (shrink_on t m k) ∙ stands_kept (is_own (own m) t) (shrink t) m k
  stands_layer ClockTerm-F.Pointwise h = absurd (cc)
  stands_layer (ClockTerm-F.Arrow ts t) h = absurd (cc)

  pub stands_still : (t : ClockTerm) → stands t ≡ true → stands (shrink t) ≡ true
  stands_still t h = ap (λ z. stands (shrink z)) (sym (roll-out-ClockTerm t)) ∙ stands_layer (out-ClockTerm t) h

  abbrev Fits : TypeTerm → Type 0
  Fits ty = (t : ClockTerm) → fits ty t ≡ true → fits ty (shrink t) ≡ true

  abbrev WithFits : Type 0
  WithFits = (ty : TypeTerm) × Fits ty

  abbrev below : TypeTerm-F WithFits → TypeTerm-F TypeTerm
  below y = map-TypeTerm WithFits TypeTerm (λ p. p.0) y

  true_and : (p q : Bool) → p ≡ true → q ≡ true → p && q ≡ true
  true_and p q e f = ap₂ (λ x y. x && y) e f

  all_still : (ps : List WithFits) (ts : List ClockTerm) → fit_all (map fits (map (λ p. p.0) ps)) ts ≡ true → fit_all (map fits (map (λ p. p.0) ps)) (map shrink ts) ≡ true
  all_still [] [] h = refl
  all_still [] (t ∷ ts) h = h
  all_still (p ∷ ps) [] h = h
  all_still (p ∷ ps) (t ∷ ts) h =
      let q = and_parts (fits p.0 t) (fit_all (map fits (map (λ r. r.0) ps)) ts) h in
      true_and (fits p.0 (shrink t)) (fit_all (map fits (map (λ r. r.0) ps)) (map shrink ts)) (p.1 t q.0) (all_still ps ts q.1)

  pointwise_still : (x : ClockTerm-F ClockTerm) → is_pointwise x ≡ true → is_pointwise (out-ClockTerm (shrink (roll-ClockTerm x))) ≡ true
  pointwise_still ClockTerm-F.Pointwise h = ap is_pointwise (out_of (shrink pointwise) ClockTerm-F.Pointwise shrink_pointwise)
  pointwise_still (ClockTerm-F.Var v) h = absurd (cc)
  pointwise_still (ClockTerm-F.On t m k) h = absurd (cc)
  pointwise_still (ClockTerm-F.Arrow ts t) h = absurd (cc)

  arrow_still : (ps : List WithFits) (x : ClockTerm-F ClockTerm) → fit_arrow (map fits (map (λ p. p.0) ps)) x ≡ true → fit_arrow (map fits (map (λ p. p.0) ps)) (out-ClockTerm (shrink (roll-ClockTerm x))) ≡ true
  arrow_still ps (ClockTerm-F.Arrow ts t) h =
      let fs = map fits (map (λ (p : WithFits). p.0) ps) in
      let q = and_parts (fit_all fs ts) (stands t) h in
      ap (fit_arrow fs) (out_of (shrink (arrow ts t)) (ClockTerm-F.Arrow (map shrink ts) (shrink t)) (shrink_arrow ts t))
      ∙ true_and (fit_all fs (map shrink ts)) (stands (shrink t)) (all_still ps ts q.0) (stands_still t q.1)
  arrow_still ps (ClockTerm-F.Var v) h = absurd (cc)
  arrow_still ps (ClockTerm-F.On t m k) h = absurd (cc)
  arrow_still ps ClockTerm-F.Pointwise h = absurd (cc)

  back : (t : ClockTerm) → shrink t ≡ shrink (roll-ClockTerm (out-ClockTerm t))
  back t = ap shrink (sym (roll-out-ClockTerm t))

  fits_layer : (y : TypeTerm-F WithFits) (t : ClockTerm) → fits_step (map-TypeTerm TypeTerm Form fits (below y)) t ≡ true → fits_step (map-TypeTerm TypeTerm Form fits (below y)) (shrink t) ≡ true
  fits_layer (TypeTerm-F.Arrow kind.Comb ps p) t h = ap (λ z. is_pointwise (out-ClockTerm z)) (back t) ∙ pointwise_still (out-ClockTerm t) h
  fits_layer (TypeTerm-F.Arrow kind.Seq ps p) t h = ap (λ z. fit_arrow (map fits (map (λ (r : WithFits). r.0) ps)) (out-ClockTerm z)) (back t) ∙ arrow_still ps (out-ClockTerm t) h
  fits_layer (TypeTerm-F.Var v) t h = stands_still t h
  fits_layer _ t h = stands_still t h

  pub fits_still : (ty : TypeTerm) (t : ClockTerm) → fits ty t ≡ true → fits ty (shrink t) ≡ true
  fits_still = ind-TypeTerm Fits (λ x y from. subst (λ z. Fits (roll-TypeTerm z)) from (λ t h.
      ap (λ (f : Form). f (shrink t)) (fold-roll-TypeTerm Form fits_step (below y)) ∙ fits_layer y t (ap (λ (f : Form). f t) (sym (fold-roll-TypeTerm Form fits_step (below y))) ∙ h)))
