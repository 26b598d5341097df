use Rattle.std.proofs.Common.{◌≡◌, ℕ, ◌++◌, map, drop}
use Rattle.ls_scope.proofs.mixed.add_singles.Given as goal

abbrev pub invariant-loop-name : goal.invariant-loop-name
invariant-loop-name l = l.done ++ map (λ (x : ℕ). l.single) (drop l._name-index l.names) ≡ l.initial.done ++ map (λ (x : ℕ). l.single) l.names
