-- Clocks in which each sampling on a name is one of the clock of that name.
use Rattle.std.specs.Prelude.{◌≡◌, ℕ, List, [], ◌∷◌, ◌++◌, map, Option, Some}
use Rattle.ls_terms.specs.declared.clocks.ClockTerm.{ClockTerm, fold-ClockTerm}
use Rattle.ls_terms.specs.declared.clocks.ClockTerm.TheOpen.{ClockTerm-F}
use Rattle.tree_notes.specs.Each.{Each}
use Rattle.tree_notes.specs.Order.{joined}
use Rattle.clock_rules.specs.Terms.{on, arrow, pointwise, var}

-- a clock, and what is sampled in it, each with the name on which
abbrev pub Seen : Type 0
Seen = ClockTerm × List (ClockTerm × ℕ)

abbrev pub clock_of : Seen → ClockTerm
clock_of s = s.0

abbrev pub found_in : Seen → List (ClockTerm × ℕ)
found_in s = s.1

abbrev pub samplings_step : ClockTerm-F Seen → Seen
samplings_step (ClockTerm-F.Var v) = (var v, [])
samplings_step (ClockTerm-F.On s m k) = (on s.0 m k, (s.0, m) ∷ s.1)
samplings_step ClockTerm-F.Pointwise = (pointwise, [])
samplings_step (ClockTerm-F.Arrow ss s) = (arrow (map clock_of ss) s.0, joined (map found_in ss) ++ s.1)

abbrev pub with_samplings : ClockTerm → Seen
with_samplings = fold-ClockTerm Seen samplings_step

abbrev pub samplings : ClockTerm → List (ClockTerm × ℕ)
samplings ck = (with_samplings ck).1

-- each sampling in a clock is one of the clock of its name; a number that names nothing has none
abbrev pub IsWellFormed : (ℕ → Option ClockTerm) → ClockTerm → Type 0
IsWellFormed own ck = Each (λ s. Some s.0 ≡ own s.1) (samplings ck)
