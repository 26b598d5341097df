-- What a place of a program asks of the types around it, and the pairs of terms that are to be made equal for it.
use Rattle.std.specs.Prelude.{◌≡◌, ℕ, suc, ◌+◌, ◌<◌, max, true, List, [], ◌∷◌, ◌++◌, map, Option}
use Rattle.ls_terms.specs.declared.types.TypeTerm.{TypeTerm}
use Rattle.ls_terms.specs.declared.types.TypeTerm.TheVariants as t
use Rattle.ls_terms.specs.Types.{apply}
use Rattle.type_rules.specs.Schemes.{vars, is_data, put}
use Rattle.type_rules.specs.declared.demand.Demand.{Demand}
use Rattle.type_rules.specs.declared.demand.Demand.TheVariants.{Fits, Equal, Function, Never}
use Rattle.tree_notes.specs.Each.{Each}

abbrev pub map_fits : {X Y : Type 0} → (X → Y) → List (X × TypeTerm) → List (Y × TypeTerm)
map_fits f [] = []
map_fits f (p ∷ ps) = (f p.0, p.1) ∷ map_fits f ps

abbrev pub map_demand : {X Y : Type 0} → (X → Y) → Demand X → Demand Y
map_demand f (Fits ps) = Fits (map_fits f ps)
map_demand f (Equal a b) = Equal (f a) (f b)
map_demand f (Function a k bs c) = Function (f a) k (map f bs) (f c)
map_demand f Never = Never

abbrev pub map_demands : {X Y : Type 0} → (X → Y) → List (Demand X) → List (Demand Y)
map_demands f [] = []
map_demands f (d ∷ ds) = map_demand f d ∷ map_demands f ds

abbrev pub Fit : (ℕ → TypeTerm) → List (TypeTerm × TypeTerm) → Type 0
Fit σ [] = Unit {0}
Fit σ (p ∷ ps) = (p.0 ≡ put σ p.1) × Fit σ ps

abbrev pub Holds : Demand TypeTerm → Type 0
Holds (Fits ps) = (σ : ℕ → TypeTerm) × ((x : ℕ) → is_data (σ x) ≡ true) × Fit σ ps
Holds (Equal s u) = s ≡ u
Holds (Function s k ts u) = s ≡ t.Arrow k ts u
Holds Never = ⊥

-- an assignment of types to places meets the demands
abbrev pub Meets : (ℕ → TypeTerm) → List (Demand ℕ) → Type 0
Meets f ds = Each Holds (map_demands f ds)

-- ---- pairs of terms

abbrev pub above : List ℕ → ℕ
above [] = 0
above (x ∷ xs) = max (suc x) (above xs)

abbrev pub scheme_vars : {X : Type 0} → List (X × TypeTerm) → List ℕ
scheme_vars [] = []
scheme_vars (p ∷ ps) = vars p.1 ++ scheme_vars ps

-- how many variables of its own a demand needs
abbrev pub width : {X : Type 0} → Demand X → ℕ
width (Fits ps) = above (scheme_vars ps)
width _ = 0

abbrev pub widths : {X : Type 0} → List (Demand X) → ℕ
widths [] = 0
widths (d ∷ ds) = width d + widths ds

-- the first `own` variables are those of the demands; behind them each place has its variable
abbrev pub hole : ℕ → ℕ → TypeTerm
hole own k = t.Var (own + k)

abbrev pub shifted : ℕ → TypeTerm → TypeTerm
shifted n = put (λ x. t.Var (n + x))

abbrev pub fit_pairs : ℕ → ℕ → List (ℕ × TypeTerm) → List (TypeTerm × TypeTerm)
fit_pairs own n [] = []
fit_pairs own n (p ∷ ps) = (hole own p.0, shifted n p.1) ∷ fit_pairs own n ps

abbrev pub demand_pairs : ℕ → ℕ → Demand ℕ → List (TypeTerm × TypeTerm)
demand_pairs own n (Fits ps) = fit_pairs own n ps
demand_pairs own n (Equal a b) = (hole own a, hole own b) ∷ []
demand_pairs own n (Function a k bs c) = (hole own a, t.Arrow k (map (hole own) bs) (hole own c)) ∷ []
demand_pairs own n Never = (t.Int, t.Bool) ∷ []

abbrev pub pairs_from : ℕ → ℕ → List (Demand ℕ) → List (TypeTerm × TypeTerm)
pairs_from own n [] = []
pairs_from own n (d ∷ ds) = demand_pairs own n d ++ pairs_from own (n + width d) ds

abbrev pub pairs : List (Demand ℕ) → List (TypeTerm × TypeTerm)
pairs ds = pairs_from (widths ds) 0 ds

abbrev pub Unify : (ℕ → Option TypeTerm) → List (TypeTerm × TypeTerm) → Type 0
Unify s = Each (λ p. apply s p.0 ≡ apply s p.1)

-- what a solution gives each place
abbrev pub solved : List (Demand ℕ) → (ℕ → Option TypeTerm) → ℕ → TypeTerm
solved ds s k = apply s (hole (widths ds) k)

-- what stands for the demands' own variables is data
abbrev pub AreData : List (Demand ℕ) → (ℕ → Option TypeTerm) → Type 0
AreData ds s = (x : ℕ) → x < widths ds → is_data (apply s (t.Var x)) ≡ true
