-- Variables with their numbers by first appearance.
use Rattle.std.specs.Prelude.{ℕ, List, [], ◌∷◌, ◌++◌, length, Option, Some, None}
use Rattle.ls_terms.specs.declared.clocks.ClockTerm.{ClockTerm}
use Rattle.ls_terms.specs.declared.clocks.ClockTerm.TheVariants as clock
use Rattle.term_unify.specs.Terms.{first}

abbrev pub Seen : Type 0
Seen = List (ℕ × ClockTerm)

abbrev pub seen_at : Seen → ℕ → Option ClockTerm → Seen
seen_at seen x None = seen ++ (x, clock.Var (length seen)) ∷ []
seen_at seen x (Some t) = seen

-- one more variable, where it is not there yet
abbrev pub seen_one : Seen → ℕ → Seen
seen_one seen x = seen_at seen x (first seen x)

abbrev pub seen_all : Seen → List ℕ → Seen
seen_all seen [] = seen
seen_all seen (x ∷ xs) = seen_all (seen_one seen x) xs
