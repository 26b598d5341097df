use Rattle.std.proofs.Common.{◌≡◌, ◌+◌, ◌++◌, ◌∷◌, [], map, drop, take, length}
use Rattle.std.specs.List.{list_any, list_all}
use Rattle.ls_scope.specs.Unbound as unbound
use Rattle.ls_scope.proofs.unbound.any_unbound_state.Given as goal

abbrev pub invariant-loop-automaton : goal.invariant-loop-automaton
invariant-loop-automaton l = list_any unbound.unbound_states (drop l.automaton-index l.all) ≡ list_any unbound.unbound_states l.all
