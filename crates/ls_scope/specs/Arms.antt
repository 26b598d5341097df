-- Sets of cases.
use Rattle.std.specs.Prelude.{◌≡◌, ℕ, ◌||◌, ◌&&◌, not, Bool, true, false, List, [], ◌∷◌, Option, is_some}
use Rattle.std.specs.List.{list_any, list_all}
use Rattle.ls_ast.specs.declared.tree.Case.{Case}
use Rattle.ls_ast.specs.declared.tree.Case.TheVariants as case
use Rattle.ls_scope.specs.declared.arms.CaseSet.{CaseSet}
use Rattle.scope_rules.specs.Claims.{Known}
use Rattle.scope_rules.specs.Faults.{among, same_case, cover, arm_cases_named}

abbrev pub in_set : CaseSet → Case → Bool
in_set s case.True = s.yes
in_set s case.False = s.no
in_set s (case.Of c) = among s.names c.0

-- one case comes in
abbrev pub Gains : CaseSet → CaseSet → Case → Type 0
Gains old new c = (x : Case) → in_set new x ≡ (in_set old x || same_case c x)

-- the cases of a list are in it, and no others
abbrev pub HasJust : List Case → CaseSet → Type 0
HasJust cs s = (x : Case) → in_set s x ≡ list_any (λ c. same_case c x) cs

abbrev pub open_arms : List (List ℕ) → Known → List (Option ℕ) → Bool
open_arms names known as' = list_all is_some as' && not (cover known (arm_cases_named names as'))
