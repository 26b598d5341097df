-- What a substitution does to clocks.
use Rattle.std.specs.Prelude.{◌≡◌, ℕ, List, [], ◌∷◌, map, Option, refl}
use Rattle.std.proofs.Common.{ap, ap₂, sym, ◌∙◌, subst}
use Rattle.ls_terms.specs.declared.clocks.ClockTerm.{ClockTerm, fold-roll-ClockTerm, ind-ClockTerm, map-ClockTerm, roll-ClockTerm}
use Rattle.ls_terms.specs.declared.clocks.ClockTerm.TheOpen.{ClockTerm-F}
use Rattle.ls_terms.specs.Clocks.{apply, apply_at}
use Rattle.clock_rules.specs.Terms.{on, arrow, instance, instance_step}

-- ---- induction on clocks

module _ (P : ClockTerm → Type 0) where
  abbrev pub With : Type 0
  With = (t : ClockTerm) × P t

  abbrev pub bottoms : ClockTerm-F With → ClockTerm-F ClockTerm
  bottoms y = map-ClockTerm With ClockTerm (λ p. p.0) y

  pub induct : ((y : ClockTerm-F With) → P (roll-ClockTerm (bottoms y))) → (t : ClockTerm) → P t
  induct layer = ind-ClockTerm P (λ x y from. subst (λ z. P (roll-ClockTerm z)) from (layer y))

module _ (by : ℕ → Option ClockTerm) where
  pub apply_on : (t : ClockTerm) (m k : ℕ) → apply by (on t m k) ≡ on (apply by t) m k
  apply_on t m k = fold-roll-ClockTerm ClockTerm (apply_at by) (ClockTerm-F.On t m k)

  pub apply_pointwise : apply by (roll-ClockTerm ClockTerm-F.Pointwise) ≡ roll-ClockTerm ClockTerm-F.Pointwise
  apply_pointwise = fold-roll-ClockTerm ClockTerm (apply_at by) ClockTerm-F.Pointwise

  pub apply_arrow : (ts : List ClockTerm) (t : ClockTerm) → apply by (arrow ts t) ≡ arrow (map (apply by) ts) (apply by t)
  apply_arrow ts t = fold-roll-ClockTerm ClockTerm (apply_at by) (ClockTerm-F.Arrow ts t)

  -- ---- an instance of an instance

  module _ (named : ℕ → ℕ) (f : ℕ → ClockTerm) where
    abbrev g : ℕ → ClockTerm
    g v = apply by (f v)

    abbrev Both : ClockTerm → Type 0
    Both t = apply by (instance named f t) ≡ instance named g t

    both_all : (ps : List (With Both)) → map (apply by) (map (instance named f) (map (λ p. p.0) ps)) ≡ map (instance named g) (map (λ p. p.0) ps)
    both_all [] = refl
    both_all (p ∷ ps) = ap₂ (λ x xs. x ∷ xs) p.1 (both_all ps)

    both_layer : (y : ClockTerm-F (With Both)) → apply by (instance_step named f (map-ClockTerm ClockTerm ClockTerm (instance named f) (bottoms Both y)))
        ≡ instance_step named g (map-ClockTerm ClockTerm ClockTerm (instance named g) (bottoms Both y))
    both_layer (ClockTerm-F.Var v) = refl
    both_layer (ClockTerm-F.On p m k) = apply_on (instance named f p.0) (named m) k ∙ ap (λ z. on z (named m) k) p.1
    both_layer ClockTerm-F.Pointwise = apply_pointwise
    both_layer (ClockTerm-F.Arrow ps p) = apply_arrow (map (instance named f) (map (λ q. q.0) ps)) (instance named f p.0) ∙ ap₂ arrow (both_all ps) p.1

    pub apply_instance : (t : ClockTerm) → apply by (instance named f t) ≡ instance named g t
    apply_instance = induct Both (λ y. ap (apply by) (fold-roll-ClockTerm ClockTerm (instance_step named f) (bottoms Both y)) ∙ both_layer y
        ∙ sym (fold-roll-ClockTerm ClockTerm (instance_step named g) (bottoms Both y)))

    pub apply_instances : (ts : List ClockTerm) → map (apply by) (map (instance named f) ts) ≡ map (instance named g) ts
    apply_instances [] = refl
    apply_instances (t ∷ ts) = ap₂ (λ x xs. x ∷ xs) (apply_instance t) (apply_instances ts)
