-- Whether two clocks are the same.
use Rattle.std.specs.Prelude.{◌≡◌, ◌==◌, ◌&&◌, Bool, true, false, List, [], ◌∷◌, map, refl}
use Rattle.std.proofs.Common.{ap, ap₂, sym, ◌∙◌}
use Rattle.std.proofs.lemmas.Bool.{eqb-true, eq-eqb, and_parts}
use Rattle.ls_terms.specs.declared.clocks.ClockTerm.{ClockTerm, fold-ClockTerm, fold-roll-ClockTerm, map-ClockTerm, out-ClockTerm, roll-ClockTerm, out-roll-ClockTerm, roll-out-ClockTerm}
use Rattle.ls_terms.specs.declared.clocks.ClockTerm.TheOpen.{ClockTerm-F}
use Rattle.clock_rules.proofs.Substitution.{With, bottoms, induct}

abbrev Test : Type 0
Test = ClockTerm → Bool

abbrev same_list : List Test → List ClockTerm → Bool
same_list [] [] = true
same_list [] (t ∷ ts) = false
same_list (f ∷ fs) [] = false
same_list (f ∷ fs) (t ∷ ts) = f t && same_list fs ts

abbrev same_at : ClockTerm-F Test → ClockTerm-F ClockTerm → Bool
same_at (ClockTerm-F.Var v) (ClockTerm-F.Var w) = v == w
same_at (ClockTerm-F.Var v) (ClockTerm-F.On t n j) = false
same_at (ClockTerm-F.Var v) ClockTerm-F.Pointwise = false
same_at (ClockTerm-F.Var v) (ClockTerm-F.Arrow ts t) = false
same_at (ClockTerm-F.On f m k) (ClockTerm-F.Var w) = false
same_at (ClockTerm-F.On f m k) (ClockTerm-F.On t n j) = f t && (m == n && k == j)
same_at (ClockTerm-F.On f m k) ClockTerm-F.Pointwise = false
same_at (ClockTerm-F.On f m k) (ClockTerm-F.Arrow ts t) = false
same_at ClockTerm-F.Pointwise (ClockTerm-F.Var w) = false
same_at ClockTerm-F.Pointwise (ClockTerm-F.On t n j) = false
same_at ClockTerm-F.Pointwise ClockTerm-F.Pointwise = true
same_at ClockTerm-F.Pointwise (ClockTerm-F.Arrow ts t) = false
same_at (ClockTerm-F.Arrow fs f) (ClockTerm-F.Var w) = false
same_at (ClockTerm-F.Arrow fs f) (ClockTerm-F.On t n j) = false
same_at (ClockTerm-F.Arrow fs f) ClockTerm-F.Pointwise = false
same_at (ClockTerm-F.Arrow fs f) (ClockTerm-F.Arrow ts t) = same_list fs ts && f t

abbrev same_step : ClockTerm-F Test → Test
same_step x t = same_at x (out-ClockTerm t)

abbrev pub same : ClockTerm → Test
same = fold-ClockTerm Test same_step

-- ---- it tells that they are

abbrev Tells : ClockTerm → Type 0
Tells t = (u : ClockTerm) → same t u ≡ true → t ≡ u

abbrev firsts : List (With Tells) → List ClockTerm
firsts = map {A = With Tells} {B = ClockTerm} (λ p. p.0)

tells_list : (ps : List (With Tells)) (us : List ClockTerm) → same_list (map same (firsts ps)) us ≡ true → firsts ps ≡ us
tells_list [] [] h = refl
tells_list [] (u ∷ us) h = absurd (cc)
tells_list (p ∷ ps) [] h = absurd (cc)
tells_list (p ∷ ps) (u ∷ us) h = let q = and_parts (same p.0 u) (same_list (map same (firsts ps)) us) h in ap₂ (λ x y. x ∷ y) (p.1 u q.0) (tells_list ps us q.1)

abbrev TellsAt : ClockTerm-F (With Tells) → ClockTerm-F ClockTerm → Type 0
TellsAt y x = same_at (map-ClockTerm ClockTerm Test same (bottoms Tells y)) x ≡ true → bottoms Tells y ≡ x

tells_at : (y : ClockTerm-F (With Tells)) (x : ClockTerm-F ClockTerm) → TellsAt y x
tells_at (ClockTerm-F.Var v) (ClockTerm-F.Var w) h = ap ClockTerm-F.Var (eqb-true v w h)
tells_at (ClockTerm-F.Var v) (ClockTerm-F.On t n j) h = absurd (cc)
tells_at (ClockTerm-F.Var v) ClockTerm-F.Pointwise h = absurd (cc)
tells_at (ClockTerm-F.Var v) (ClockTerm-F.Arrow ts t) h = absurd (cc)
tells_at (ClockTerm-F.On p m k) (ClockTerm-F.Var w) h = absurd (cc)
tells_at (ClockTerm-F.On p m k) (ClockTerm-F.On t n j) h =
    let q = and_parts (same p.0 t) (m == n && k == j) h in
    let r = and_parts (m == n) (k == j) q.1 in
    λ i. ClockTerm-F.On (p.1 t q.0 i) (eqb-true m n r.0 i) (eqb-true k j r.1 i)
tells_at (ClockTerm-F.On p m k) ClockTerm-F.Pointwise h = absurd (cc)
tells_at (ClockTerm-F.On p m k) (ClockTerm-F.Arrow ts t) h = absurd (cc)
tells_at ClockTerm-F.Pointwise (ClockTerm-F.Var w) h = absurd (cc)
tells_at ClockTerm-F.Pointwise (ClockTerm-F.On t n j) h = absurd (cc)
tells_at ClockTerm-F.Pointwise ClockTerm-F.Pointwise h = refl
tells_at ClockTerm-F.Pointwise (ClockTerm-F.Arrow ts t) h = absurd (cc)
tells_at (ClockTerm-F.Arrow ps p) (ClockTerm-F.Var w) h = absurd (cc)
tells_at (ClockTerm-F.Arrow ps p) (ClockTerm-F.On t n j) h = absurd (cc)
tells_at (ClockTerm-F.Arrow ps p) ClockTerm-F.Pointwise h = absurd (cc)
tells_at (ClockTerm-F.Arrow ps p) (ClockTerm-F.Arrow ts t) h =
    let q = and_parts (same_list (map same (firsts ps)) ts) (same p.0 t) h in
    λ i. ClockTerm-F.Arrow (tells_list ps ts q.0 i) (p.1 t q.1 i)

pub same_true : (t u : ClockTerm) → same t u ≡ true → t ≡ u
same_true = induct Tells (λ y u h.
    ap roll-ClockTerm (tells_at y (out-ClockTerm u) (ap (λ (f : Test). f u) (sym (fold-roll-ClockTerm Test same_step (bottoms Tells y))) ∙ h)) ∙ roll-out-ClockTerm u)

-- ---- a clock is the same as itself

abbrev Self : ClockTerm → Type 0
Self t = same t t ≡ true

self_list : (ps : List (With Self)) → same_list (map same (map (λ (p : With Self). p.0) ps)) (map (λ (p : With Self). p.0) ps) ≡ true
self_list [] = refl
self_list (p ∷ ps) = ap₂ (λ x y. x && y) p.1 (self_list ps)

self_at : (y : ClockTerm-F (With Self)) → same_at (map-ClockTerm ClockTerm Test same (bottoms Self y)) (bottoms Self y) ≡ true
self_at (ClockTerm-F.Var v) = eq-eqb v v refl
self_at (ClockTerm-F.On p m k) = ap₂ (λ x y. x && y) p.1 (ap₂ (λ x y. x && y) (eq-eqb m m refl) (eq-eqb k k refl))
self_at ClockTerm-F.Pointwise = refl
self_at (ClockTerm-F.Arrow ps p) = ap₂ (λ x y. x && y) (self_list ps) p.1

pub same_self : (t : ClockTerm) → same t t ≡ true
same_self = induct Self (λ y.
    ap (λ (f : Test). f (roll-ClockTerm (bottoms Self y))) (fold-roll-ClockTerm Test same_step (bottoms Self y))
    ∙ ap (same_at (map-ClockTerm ClockTerm Test same (bottoms Self y))) (out-roll-ClockTerm (bottoms Self y)) ∙ self_at y)
