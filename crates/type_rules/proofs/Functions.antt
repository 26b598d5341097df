-- A parameter that is used as a function is one in each annotation that obeys the rules.
use Rattle.std.specs.Prelude.{◌≡◌, ℕ, ◌⊎◌, true, false, List, [], ◌∷◌, map}
use Rattle.std.proofs.Common.{ap, sym, ◌∙◌, subst, inl, inr}
use Rattle.ls_terms.specs.declared.types.Kind.{Kind}
use Rattle.ls_terms.specs.declared.types.TypeTerm.{TypeTerm}
use Rattle.type_rules.specs.Schemes.{is_data, put}
use Rattle.type_rules.specs.declared.demand.Demand.{Demand}
use Rattle.type_rules.specs.declared.demand.Demand.TheVariants.{Fits, Equal, Function}
use Rattle.type_rules.specs.Demands.{map_fits, map_demand, Fit, Holds, Meets}
use Rattle.type_rules.proofs.Placing.{put_not, arrow_data}

abbrev pub Has : Demand ℕ → List (Demand ℕ) → Type 0
Has d [] = ⊥
Has d (e ∷ es) = (e ≡ d) ⊎ Has d es

abbrev pub HasFit : ℕ → TypeTerm → List (ℕ × TypeTerm) → Type 0
HasFit u s [] = ⊥
HasFit u s (p ∷ ps) = ((p.0 ≡ u) × (p.1 ≡ s)) ⊎ HasFit u s ps

-- the parameter is applied
abbrev pub IsApplied : ℕ → List (Demand ℕ) → Type 0
IsApplied k ds = (kind : Kind) × (ks : List ℕ) × (r : ℕ) × Has (Function k kind ks r) ds

-- it stands bare where a definition has a function
abbrev pub IsPassed : ℕ → List (Demand ℕ) → Type 0
IsPassed k ds = (u : ℕ) × (s : TypeTerm) × (ps : List (ℕ × TypeTerm)) × Has (Equal u k) ds × Has (Fits ps) ds × HasFit u s ps × (is_data s ≡ false)

has_holds : (f : ℕ → TypeTerm) (d : Demand ℕ) (ds : List (Demand ℕ)) → Has d ds → Meets f ds → Holds (map_demand f d)
has_holds f d [] h m = absurd h
has_holds f d (e ∷ es) (inl q) m = subst (λ z. Holds (map_demand f z)) q m.0
has_holds f d (e ∷ es) (inr q) m = has_holds f d es q m.1

fit_holds : (f σ : ℕ → TypeTerm) (u : ℕ) (s : TypeTerm) (ps : List (ℕ × TypeTerm)) → HasFit u s ps → Fit σ (map_fits f ps) → f u ≡ put σ s
fit_holds f σ u s [] h m = absurd h
fit_holds f σ u s (p ∷ ps) (inl q) m = sym (ap f q.0) ∙ m.0 ∙ ap (put σ) q.1
fit_holds f σ u s (p ∷ ps) (inr q) m = fit_holds f σ u s ps q m.1

pub used_function : (f : ℕ → TypeTerm) (k : ℕ) (ds : List (Demand ℕ)) → IsApplied k ds ⊎ IsPassed k ds → Meets f ds → is_data (f k) ≡ true → ⊥
used_function f k ds (inl a) m e =
    let h = has_holds f (Function k a.0 a.1 a.2) ds a.3 m in
    let n = arrow_data a.0 (map f a.1) (f a.2) in
    let d = sym (ap is_data h) ∙ e in cc
used_function f k ds (inr p) m e =
    let q = has_holds f (Equal p.0 k) ds p.3 m in
    let h = has_holds f (Fits p.2) ds p.4 m in
    put_not h.0 h.1 p.1 p.6 (sym (ap is_data (fit_holds f h.0 p.0 p.1 p.2 p.5 h.2)) ∙ ap is_data q ∙ e)
