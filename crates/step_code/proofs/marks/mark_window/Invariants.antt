use Rattle.std.proofs.Common.{◌≡◌, ℕ, ◌<◌, ◌-◌, length}
use Rattle.std.specs.Prelude.{slice_index_or}
use Rattle.step_code.specs.declared.marks.Mark.{Mark}
use Rattle.step_code.specs.Marks.{called_if, is_among}
use Rattle.step_code.proofs.marks.mark_window.Given as goal

abbrev pub invariant-loop-at : goal.invariant-loop-at
invariant-loop-at l = record {
  size : length l.marks ≡ length l.initial.marks;
  each : (k : ℕ) (d : Mark) → k < length l.initial.marks
      → called_if (slice_index_or l.initial.marks k d) (is_among l.window l.width k) (is_among l.window l.width k)
      ≡ called_if (slice_index_or l.marks k d) (is_among l.at (l.at-end - l.at) k) (is_among l.at (l.at-end - l.at) k);
}
