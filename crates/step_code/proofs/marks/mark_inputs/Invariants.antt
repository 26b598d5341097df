use Rattle.std.proofs.Common.{◌≡◌, ℕ, ◌<◌, length, drop}
use Rattle.std.specs.Prelude.{slice_index_or}
use Rattle.std.specs.List.{list_any}
use Rattle.step_code.specs.declared.marks.Mark.{Mark}
use Rattle.step_code.specs.Marks.{set_if}
use Rattle.step_code.specs.Valid as valid
use Rattle.step_code.proofs.marks.mark_inputs.Given as goal

abbrev pub invariant-loop-line : goal.invariant-loop-line
invariant-loop-line l = record {
  size : length l.marks ≡ length l.initial.marks;
  each : (k : ℕ) (d : Mark) → k < length l.initial.marks
      → set_if (slice_index_or l.initial.marks k d) (list_any (valid.sets k) l.inputs) ≡ set_if (slice_index_or l.marks k d) (list_any (valid.sets k) (drop l.line-index l.inputs));
}
