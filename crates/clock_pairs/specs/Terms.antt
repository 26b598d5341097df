-- What instances of signatures are made with.
use Rattle.std.specs.Prelude.{ℕ, ◌&&◌, Bool, not, List, [], ◌∷◌, map, drop, unwrap_or, if◌then◌else◌}
use Rattle.ls_terms.specs.declared.clocks.ClockTerm.{ClockTerm}
use Rattle.ls_sig.specs.declared.binder.Note.{Note}
use Rattle.clock_rules.specs.declared.scheme.ClockScheme.{ClockScheme}
use Rattle.clock_rules.specs.Rules.{at}
use Rattle.clock_rules.specs.Terms.{arrow, variables, larger, greatest_from, instance, is_function, is_comb}
use Rattle.ls_places.specs.Search.{nth}

-- how many clock variables a signature has
abbrev pub count : ClockScheme → ℕ
count s = larger (variables s.result) (greatest_from (map variables s.clocks) 0)

-- the name that is given at a position
abbrev pub name_at : List ℕ → ℕ → ℕ
name_at names m = unwrap_or (nth names m) 0

abbrev pub Pair : Type 0
Pair = ClockTerm × ClockTerm

-- The clock of what is left of a function after so many arguments, and the pairs of a call: by the clocks for the variables of
-- its scheme, the names that are given, and the instances of the parameters' clocks.
module _ (names : List ℕ) (by : List ClockTerm) (s : ClockScheme) (params : List ClockTerm) where
  abbrev pub whole : ClockTerm
  whole = instance (name_at names) (at by) s.result

  abbrev pub rest : ℕ → ClockTerm
  rest count = arrow (drop count params) whole

  abbrev pub result_pairs : Note → ℕ → Bool → List Pair
  result_pairs n count holds =
      if is_function n.ty then (if is_comb n.ty && not holds then [] else (rest count, n.ck) ∷ []) else (whole, n.ck) ∷ []
