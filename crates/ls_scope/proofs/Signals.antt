-- Signals of variables in a list beside them.
use Rattle.std.specs.Prelude.{◌≡◌, ℕ, suc, zero, ◌||◌, ◌&&◌, not, Bool, true, false, List, [], ◌∷◌, ◌++◌, map, length, Option, Some, None, slice_get, if◌then◌else◌, refl}
use Rattle.std.proofs.Common.{ap, ap₂, sym, ◌∙◌, ◌+◌, ◌<◌, drop, add-one, append_assoc, arith}
use Rattle.std.specs.List.{list_any, list_all}
use Rattle.ls_ast.specs.declared.tree.Pat.{Pat}
use Rattle.ls_sig.specs.declared.binder.Binder.{Binder}
use Rattle.ls_sig.specs.declared.binder.Binder.TheVariants as binder
use Rattle.scope_rules.specs.declared.places.Site.{Site}
use Rattle.scope_rules.specs.declared.claims.Claim.{Claim}
use Rattle.scope_rules.specs.declared.claims.Claim.TheVariants as claim
use Rattle.scope_rules.specs.declared.claims.Stand.{Stand}
use Rattle.scope_rules.specs.Places.{Place, option_list, names_of, is_name}
use Rattle.scope_rules.specs.Faults as faults
use Rattle.scope_rules.specs.Faults.{Judged, Sight, picked, place_where, of_list, is_signal, different, wrong_variable, wrong_param, mark_or_data, in_an_arm, singles}
use Rattle.ls_scope.specs.Mixed as mixed

module _ {A B : Type 0} (f : A → B) where
  got : (xs : List A) (k : ℕ) → option_list (slice_get (map f xs) k) ≡ map f (option_list (slice_get xs k))
  got [] k = refl
  got (x ∷ xs) zero = refl
  got (x ∷ xs) (suc k) = got xs k

any_of : {A : Type 0} (b : A → Bool) (c : Bool → A → Bool) (xs : List A) (k : ℕ)
    → list_any (λ s. list_any (λ v. c s v) (option_list (slice_get xs k))) (option_list (slice_get (map b xs) k)) ≡ list_any (λ v. c (b v) v) (option_list (slice_get xs k))
any_of b c [] k = refl
any_of b c (x ∷ xs) zero = or_twice (c (b x) x)
  where
    or_twice : (a : Bool) → (a || false) || false ≡ a || false
    or_twice true = refl
    or_twice false = refl
any_of b c (x ∷ xs) (suc k) = any_of b c xs k

pub signal_same : (h : Sight) (vars : List Site) (signals : List Bool) (x : ℕ) (l : Place) → vars ≡ h.vars → signals ≡ map (is_signal h) h.vars
    → option_list (mixed.signal_at vars signals x l) ≡ map (is_signal h) (picked h.vars (place_where (of_list x l) h.vars))
signal_same h vars signals x l e f = (λ i. option_list (mixed.signal_at (e i) (f i) x l)) ∙ by_place (place_where (of_list x l) h.vars)
  where
    by_place : (o : Option ℕ) → option_list (mixed.at_place (map (is_signal h) h.vars) o) ≡ map (is_signal h) (picked h.vars o)
    by_place (Some k) = got (is_signal h) h.vars k
    by_place None = refl

pub var_same : (h : Sight) (vars : List Site) (signals : List Bool) (k : ℕ) (p : Place) (s : Stand) → vars ≡ h.vars → signals ≡ map (is_signal h) h.vars
    → list_any (λ b. list_any (λ v. wrong_variable b v p s) (option_list (slice_get vars k))) (option_list (slice_get signals k))
    ≡ list_any (λ v. wrong_variable (is_signal h v) v p s) (option_list (slice_get h.vars k))
var_same h vars signals k p s e f =
    (λ i. list_any (λ b. list_any (λ v. wrong_variable b v p s) (option_list (slice_get (e i) k))) (option_list (slice_get (f i) k)))
    ∙ any_of (is_signal h) (λ b v. wrong_variable b v p s) h.vars k

-- which names are whole parameters

kept : (b : Bool) (names : List ℕ) (i : ℕ) → i < length names → map (λ (x : ℕ). b) (drop i names) ≡ b ∷ map (λ (x : ℕ). b) (drop (suc i) names)
kept b [] i h = absurd (omega (arith, h))
kept b (n ∷ ns) zero h = refl
kept b (n ∷ ns) (suc i) h = kept b ns i (omega (arith, h))

pub singles_more : (b : Bool) (names : List ℕ) (i : ℕ) (done new all : List Bool) → i < length names → new ≡ done ++ b ∷ []
    → done ++ map (λ (x : ℕ). b) (drop i names) ≡ all → new ++ map (λ (x : ℕ). b) (drop (i + 1) names) ≡ all
singles_more b names i done new all below now before =
    (λ j. now j ++ map (λ (x : ℕ). b) (drop (add-one i j) names))
    ∙ append_assoc done (b ∷ []) (map (λ (x : ℕ). b) (drop (suc i) names))
    ∙ ap (λ z. done ++ z) (sym (kept b names i below)) ∙ before

pub singles_next : (params : List Pat) (i : ℕ) (p : Pat) (done new all : List Bool) (names : List ℕ) (b : Bool) → drop i params ≡ p ∷ drop (i + 1) params → b ≡ is_name p → names ≡ names_of p
    → new ≡ done ++ map (λ (x : ℕ). b) names → done ++ singles (drop i params) ≡ all → new ++ singles (drop (i + 1) params) ≡ all
singles_next params i p done new all names b e bl nl now before =
    ap (λ z. z ++ singles (drop (i + 1) params)) now
    ∙ append_assoc done (map (λ (x : ℕ). b) names) (singles (drop (i + 1) params))
    ∙ (λ j. done ++ (map (λ (x : ℕ). bl j) (nl j) ++ singles (drop (i + 1) params)))
    ∙ ap (λ z. done ++ singles z) (sym e) ∙ before
