use Rattle.std.proofs.Common.{◌≡◌, ℕ, ◌||◌, drop}
use Rattle.std.specs.Prelude.{nat_eq}
use Rattle.indexmap.specs.IndexSet.{contains}
use Rattle.kahn_cells.specs.Parts as own
use Rattle.kahn_cells.proofs.clocks.+variables.Given as goal

abbrev pub invariant-add_all_variables-loop-ck : goal.invariant-add_all_variables-loop-ck
invariant-add_all_variables-loop-ck l = (w : ℕ) → contains nat_eq l.done w || own.any_mentions (drop l.ck-index l.all) w ≡ contains nat_eq l.initial.done w || own.any_mentions l.all w
