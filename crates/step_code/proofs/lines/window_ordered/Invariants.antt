use Rattle.std.proofs.Common.{◌≡◌, ◌+◌, drop}
use Rattle.step_code.specs.Marks.{around as told}
use Rattle.step_code.specs.Valid as valid
use Rattle.step_code.proofs.lines.window_ordered.Given as goal

abbrev pub invariant-loop-i : goal.invariant-loop-i
invariant-loop-i l =
    valid.window_ordered (told l.around) l.earlier l.window l.own
    ≡ valid.window_ordered (told l.around) l.earlier (l.window + l.i) (drop l.i l.own)
