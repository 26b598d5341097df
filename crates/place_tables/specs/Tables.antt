-- A definition, with what is looked up in it worked out once.
use Rattle.std.specs.Prelude.{◌≡◌, ℕ, suc, Bool, List, [], ◌∷◌, length, map, Option, Some, None, if◌then◌else◌}
use Rattle.indexmap.specs.IndexMap.{IndexMap}
use Rattle.ls_ast.specs.declared.tree.Pat.{Pat}
use Rattle.ls_places.specs.Patterns.{has_name, names_of}
use Rattle.ls_places.specs.Search.{count_up, lacks}
use Rattle.ls_places.specs.declared.definition.Definition.{Definition}
use Rattle.ls_places.specs.declared.places.Site.{Site}
use Rattle.ls_places.specs.declared.places.Start.{Start}
use Rattle.place_tables.specs.Groups.{AreGroups, group, picked}
use Rattle.place_tables.specs.declared.tables.NumberTables.{NumberTables}

abbrev pub site_keys : List Site → List (List ℕ)
site_keys = map (λ (s : Site). s.vars)

abbrev pub start_keys : List Start → List (List ℕ)
start_keys = map (λ (s : Start). s.name ∷ [])

abbrev pub param_keys : List Pat → List (List ℕ)
param_keys = map names_of

-- the first parameter that holds a name
abbrev pub param_in : ℕ → List Pat → ℕ → Option ℕ
param_in x [] k = None
param_in x (p ∷ ps) k = if has_name x (names_of p) then Some k else param_in x ps (suc k)

module _ {S : Type 0} where
  -- whether some arm has no equation, for so many variables from this number on
  abbrev pub lacks_from : Definition → IndexMap ℕ (List ℕ) S → ℕ → ℕ → List Bool
  lacks_from d sites count x = map (λ x. lacks d (picked d.places.sites (group sites x))) (count_up count x)

  -- for each variable
  abbrev pub all_lacks : Definition → IndexMap ℕ (List ℕ) S → List Bool
  all_lacks d sites = lacks_from d sites (length d.places.vars) 0

  abbrev pub AreSites : IndexMap ℕ (List ℕ) S → Definition → Type 0
  AreSites sites d = AreGroups sites (site_keys d.places.sites)

  abbrev pub AreStarts : IndexMap ℕ (List ℕ) S → Definition → Type 0
  AreStarts starts d = AreGroups starts (start_keys d.places.starts)

  abbrev pub AreParams : IndexMap ℕ (List ℕ) S → Definition → Type 0
  AreParams params d = AreGroups params (param_keys d.params)

pub record AreNumbers (t : NumberTables) (d : Definition) : Type 0 where
  pub sites : AreSites t.sites d
  pub starts : AreStarts t.starts d
  pub params : AreParams t.params d

-- each answer that is kept is that of the look-up
pub record AreTables (d : Definition) (numbers : NumberTables) (lacking : List Bool) : Type 0 where
  pub numbers_are : AreNumbers numbers d
  pub lacking_are : lacking ≡ all_lacks d numbers.sites
