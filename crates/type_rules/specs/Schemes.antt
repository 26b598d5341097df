-- Types whose variables may stand for data: what they mention, and their instances.
use Rattle.std.specs.Prelude.{ℕ, ◌&&◌, Bool, true, false, List, [], ◌∷◌, ◌++◌, Some}
use Rattle.ls_terms.specs.declared.types.TypeTerm.{TypeTerm, fold-TypeTerm}
use Rattle.ls_terms.specs.declared.types.TypeTerm.TheOpen.{TypeTerm-F}
use Rattle.ls_terms.specs.Types.{kids_at, apply}

abbrev pub joined : {A : Type 0} → List (List A) → List A
joined [] = []
joined (xs ∷ rest) = xs ++ joined rest

-- the variables in a type, in the order of the text
abbrev pub vars_step : TypeTerm-F (List ℕ) → List ℕ
vars_step (TypeTerm-F.Var x) = x ∷ []
vars_step x = joined (kids_at x)

abbrev pub vars : TypeTerm → List ℕ
vars = fold-TypeTerm (List ℕ) vars_step

abbrev pub every : List Bool → Bool
every [] = true
every (b ∷ bs) = b && every bs

-- a type of data holds no function and no signal
abbrev pub data_step : TypeTerm-F Bool → Bool
data_step (TypeTerm-F.Arrow kind all to) = false
data_step (TypeTerm-F.Signal of) = false
data_step x = every (kids_at x)

abbrev pub is_data : TypeTerm → Bool
is_data = fold-TypeTerm Bool data_step

-- a type for each variable
abbrev pub put : (ℕ → TypeTerm) → TypeTerm → TypeTerm
put f = apply (λ x. Some (f x))
