use Rattle.std.proofs.Common.{◌≡◌, ℕ, ◌<◌, get_or, Some}
use Rattle.std.specs.Prelude.{slice_get}
use Rattle.ls_value.specs.declared.leaf.Leaf.{Leaf}
use Rattle.line_io.specs.declared.form.Reading.TheVariants.{Leaf as Holding}
use Rattle.line_io.proofs.cells.is_on.Given as goal

abbrev pub invariant-loop-at : goal.invariant-loop-at
invariant-loop-at l =
    (k : ℕ) (d : ℕ × Leaf) → k < l.at-index → slice_get l.readings (get_or l.on k d).0 ≡ Some (Holding (get_or l.on k d).1)
