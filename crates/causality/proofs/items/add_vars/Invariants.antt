use Rattle.std.proofs.Common.{◌≡◌, ◌++◌, ◌-◌, ℕ, length, map}
use Rattle.ls_places.specs.Search.{count_up}
use Rattle.causality.specs.Items as spec
use Rattle.causality.proofs.items.add_vars.Given as goal

abbrev pub invariant-loop-k : goal.invariant-loop-k
invariant-loop-k l = l.out ++ map {A = ℕ} {B = spec.Rowed} spec.var_row (count_up (length l.d.places.vars - l.k) l.k) ≡ l.initial.out ++ spec.var_rows l.d
