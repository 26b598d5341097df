-- What solves a list of demands.
use Rattle.std.specs.Prelude.{◌≡◌, ◌⊎◌, ℕ, zero, suc, ◌&&◌, Bool, true, List, Option}
use Rattle.ls_terms.specs.declared.types.TypeTerm.{TypeTerm}
use Rattle.ls_terms.specs.declared.types.TypeTerm.TheVariants as t
use Rattle.ls_terms.specs.Types.{apply}
use Rattle.type_rules.specs.declared.demand.Demand.{Demand}
use Rattle.type_rules.specs.Demands.{widths, pairs, Unify, AreData}
use Rattle.type_rules.specs.Laws.{IsGeneral, ListsSmall, NoneSmall}
use Rattle.type_rules.specs.Schemes.{is_data}

-- whether what stands for each of the first variables is data
abbrev pub are_data : ℕ → (ℕ → Option TypeTerm) → Bool
are_data zero s = true
are_data (suc n) s = are_data n s && is_data (apply s (t.Var n))

-- a most general unifier within the limit, whose own variables stand for data
pub record Solves (ds : List (Demand ℕ)) (limit own : ℕ) (s : ℕ → Option TypeTerm) : Type 0 where
  pub many : own ≡ widths ds
  pub unifies : Unify s (pairs ds)
  pub general : IsGeneral s (pairs ds)
  pub few : ListsSmall limit s
  pub known : AreData ds s

-- a most general unifier whose own variables do not all stand for data
abbrev pub HasOther : List (Demand ℕ) → Type 0
HasOther ds = (s : ℕ → Option TypeTerm) × Unify s (pairs ds) × IsGeneral s (pairs ds) × (AreData ds s → ⊥)

-- no types within the limit meet the demands
abbrev pub IsUnsolvable : List (Demand ℕ) → ℕ → Type 0
IsUnsolvable ds limit = NoneSmall limit (pairs ds) ⊎ HasOther ds
