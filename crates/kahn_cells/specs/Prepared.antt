-- A definition, with what is looked up in it worked out once.
use Rattle.std.specs.Prelude.{◌≡◌, ℕ, Bool, List, [], ◌∷◌, length, map, nat_eq}
use Rattle.indexmap.specs.IndexMap.{IndexMap}
use Rattle.indexmap.specs.IndexSet.{IndexSet, contains}
use Rattle.ls_places.specs.Search.{count_up, in_signature, lacks}
use Rattle.ls_places.specs.declared.definition.Definition.{Definition}
use Rattle.ls_places.specs.declared.places.Site.{Site}
use Rattle.ls_places.specs.declared.places.Start.{Start}
use Rattle.ls_places.specs.declared.places.Variable.{Variable}
use Rattle.kahn_cells.specs.Groups.{AreGroups, group, picked}
use Rattle.kahn_cells.specs.Homes.{AreBlockClocks, AreHomes}
use Rattle.kahn_cells.specs.Signals.{AreTested}
use Rattle.kahn_cells.specs.Signals as signals
use Rattle.kahn_cells.specs.declared.prepared.ClockTables.{ClockTables}
use Rattle.kahn_cells.specs.declared.prepared.NumberTables.{NumberTables}

abbrev pub site_keys : List Site → List (List ℕ)
site_keys = map (λ (s : Site). s.vars)

abbrev pub variable_keys : List Variable → List (List ℕ)
variable_keys = signals.variable_keys

abbrev pub start_keys : List Start → List (List ℕ)
start_keys = map (λ (s : Start). s.name ∷ [])

module _ {S : Type 0} where
  abbrev pub IsSignature : IndexSet ℕ S → Definition → Type 0
  IsSignature found d = (w : ℕ) → contains nat_eq found w ≡ in_signature d w

  -- whether some arm has no equation, for so many variables from this number on
  abbrev pub lacks_from : Definition → IndexMap ℕ (List ℕ) S → ℕ → ℕ → List Bool
  lacks_from d sites count x = map (λ x. lacks d (picked d.places.sites (group sites x))) (count_up count x)

  -- for each variable
  abbrev pub all_lacks : Definition → IndexMap ℕ (List ℕ) S → List Bool
  all_lacks d sites = lacks_from d sites (length d.places.vars) 0

  abbrev pub AreSites : IndexMap ℕ (List ℕ) S → Definition → Type 0
  AreSites sites d = AreGroups sites (site_keys d.places.sites)

  abbrev pub AreStarts : IndexMap ℕ (List ℕ) S → Definition → Type 0
  AreStarts starts d = AreGroups starts (start_keys d.places.starts)

  abbrev pub AreVariables : IndexMap ℕ (List ℕ) S → Definition → Type 0
  AreVariables vars d = signals.AreVariables vars d

pub record AreClocks (t : ClockTables) (d : Definition) : Type 0 where
  pub signature : IsSignature t.signature d
  pub homes : AreHomes t.homes d.places.exprs
  pub blocks : AreBlockClocks t.blocks d.places.exprs

pub record AreNumbers (t : NumberTables) (d : Definition) : Type 0 where
  pub sites : AreSites t.sites d
  pub vars : AreVariables t.vars d
  pub starts : AreStarts t.starts d

-- each answer that is kept is that of the look-up
pub record IsPrepared {S : Type 0} (d : Definition) (clocks : ClockTables) (numbers : NumberTables) (tested : IndexMap ℕ ℕ S) (lacking : List Bool) : Type 0 where
  pub clocks_are : AreClocks clocks d
  pub numbers_are : AreNumbers numbers d
  pub tested_are : AreTested tested d
  pub lacking_are : lacking ≡ all_lacks d numbers.sites
