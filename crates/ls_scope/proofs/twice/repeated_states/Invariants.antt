use Rattle.std.proofs.Common.{◌≡◌, ◌+◌, ◌++◌, ◌∷◌, [], map, drop, take, length}
use Rattle.std.specs.List.{list_any, list_all}
use Rattle.scope_rules.specs.Faults as spec
use Rattle.std.specs.Prelude.{ℕ, List}
use Rattle.ls_scope.proofs.twice.repeated_states.Given as goal

abbrev pub invariant-loop-automaton : goal.invariant-loop-automaton
invariant-loop-automaton l = list_any (λ (a : List ℕ × List ℕ). spec.repeated a.0) (drop l.automaton-index l.all) ≡ list_any (λ (a : List ℕ × List ℕ). spec.repeated a.0) l.all
