use Rattle.std.proofs.Common.{◌≡◌, ◌-◌}
use Rattle.step_code.specs.Marks.{around as told}
use Rattle.step_code.specs.Valid as valid
use Rattle.step_code.proofs.lines.any_covered.Given as goal

abbrev pub invariant-loop-at : goal.invariant-loop-at
invariant-loop-at l =
    valid.any_from (valid.is_covered (told l.around) l.earlier) l.window l.width
    ≡ valid.any_from (valid.is_covered (told l.around) l.earlier) l.at (l.at-end - l.at)
