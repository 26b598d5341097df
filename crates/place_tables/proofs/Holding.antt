-- The first parameter that holds a name.
use Rattle.std.specs.Prelude.{◌≡◌, refl, ℕ, suc, ◌+◌, Bool, true, false, List, [], ◌∷◌, map, Option, Some, None, option_map, if◌then◌else◌}
use Rattle.std.proofs.Common.{ap, sym, ◌∙◌, arith}
use Rattle.ls_ast.specs.declared.tree.Pat.{Pat}
use Rattle.ls_places.specs.Patterns.{has_name, names_of}
use Rattle.ls_places.specs.Search.{nth}
use Rattle.place_tables.specs.Groups.{numbers}
use Rattle.place_tables.specs.Tables.{param_in, param_keys}

nth_suc : (ks : List ℕ) → nth (map suc ks) 0 ≡ option_map suc (nth ks 0)
nth_suc [] = refl
nth_suc (k ∷ ks) = refl

more : (k : ℕ) (o : Option ℕ) → option_map (λ j. k + j) (option_map suc o) ≡ option_map (λ j. suc k + j) o
more k None = refl
more k (Some j) = ap Some (omega arith)

step : (t : Bool) (k : ℕ) (ks : List ℕ) (rest : Option ℕ) → rest ≡ option_map (λ j. suc k + j) (nth ks 0)
    → (if t then Some k else rest) ≡ option_map (λ j. k + j) (nth (if t then 0 ∷ map suc ks else map suc ks) 0)
step true k ks rest e = ap Some (omega arith)
step false k ks rest e = e ∙ sym (more k (nth ks 0)) ∙ sym (ap (option_map (λ j. k + j)) (nth_suc ks))

from : (x : ℕ) (ps : List Pat) (k : ℕ) → param_in x ps k ≡ option_map (λ j. k + j) (nth (numbers x (param_keys ps)) 0)
from x [] k = refl
from x (p ∷ ps) k = step (has_name x (names_of p)) k (numbers x (param_keys ps)) (param_in x ps (suc k)) (from x ps (suc k))

from_none : (o : Option ℕ) → option_map (λ j. 0 + j) o ≡ o
from_none None = refl
from_none (Some j) = ap Some (omega arith)

pub param_found : (x : ℕ) (ps : List Pat) → nth (numbers x (param_keys ps)) 0 ≡ param_in x ps 0
param_found x ps = sym (from x ps 0 ∙ from_none (nth (numbers x (param_keys ps)) 0))
