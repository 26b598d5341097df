-- The signals that are tested, by maps that are filled step by step.
use Rattle.std.specs.Prelude.{◌≡◌, ℕ, ◌+◌, ◌==◌, ◌||◌, List, [], ◌∷◌, map, nat_eq, Option, Some, None, if◌then◌else◌}
use Rattle.indexmap.specs.IndexMap.{IndexMap, get}
use Rattle.ls_places.specs.Clocks.{or_else}
use Rattle.ls_places.specs.Places.{InnerArm}
use Rattle.ls_places.specs.Search.{first_outside, in_modes, nth, starts_with, tested_by, tested_outside}
use Rattle.ls_places.specs.declared.definition.Definition.{Definition}
use Rattle.ls_places.specs.declared.places.Named.{Named}
use Rattle.ls_places.specs.declared.places.Variable.{Variable}
use Rattle.place_tables.specs.Groups.{AreGroups}

abbrev pub variable_keys : List Variable → List (List ℕ)
variable_keys = map (λ (w : Variable). w.name ∷ [])

-- the variable of this number, where its list is around a place
abbrev pub seen : List InnerArm → ℕ → Option Variable → Option ℕ
seen p k None = None
seen p k (Some w) = if starts_with p w.list then Some k else None

-- the first variable, of these numbers, whose list is around a place
abbrev pub signal_among : List InnerArm → List Variable → List ℕ → Option ℕ
signal_among p all [] = None
signal_among p all (k ∷ ks) = or_else (seen p k (nth all k)) (signal_among p all ks)

-- the test in an arm of the automaton with the clock name `m`, for the automaton `q`
abbrev pub test_in : Definition → ℕ → List InnerArm → List ℕ → ℕ → Option ℕ
test_in d m p xs q = if m == q then first_outside d q p xs else None

abbrev pub test_around : Definition → ℕ → List InnerArm → List ℕ → ℕ → Option ℕ
test_around d m p xs q = if m == q || m == q + 1 then first_outside d q p xs else None

-- in one of these arms
abbrev pub tests_in : Definition → List InnerArm → List ℕ → List InnerArm → ℕ → Option ℕ
tests_in d p xs around q = if in_modes q around then first_outside d q p xs else None

abbrev pub tests_by : Definition → Named → ℕ → Option ℕ
tests_by d n q = tested_by d q n

module _ {S : Type 0} where
  -- each automaton has some more tests, of which the first counts
  abbrev pub Tests : IndexMap ℕ ℕ S → (ℕ → Option ℕ) → IndexMap ℕ ℕ S → Type 0
  Tests old more new = (q : ℕ) → get nat_eq new q ≡ or_else (get nat_eq old q) (more q)

  abbrev pub AreTested : IndexMap ℕ ℕ S → Definition → Type 0
  AreTested found d = (m : ℕ) → get nat_eq found m ≡ tested_outside d m

  -- the variables of each name
  abbrev pub AreVariables : IndexMap ℕ (List ℕ) S → Definition → Type 0
  AreVariables vars d = AreGroups vars (variable_keys d.places.vars)
