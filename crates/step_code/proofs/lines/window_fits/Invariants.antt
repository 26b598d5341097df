use Rattle.std.proofs.Common.{◌≡◌, ◌+◌, drop}
use Rattle.step_code.specs.Marks.{around as told}
use Rattle.step_code.specs.Valid as valid
use Rattle.step_code.proofs.lines.window_fits.Given as goal

abbrev pub invariant-loop-i : goal.invariant-loop-i
invariant-loop-i l = valid.window_fits (told l.around) l.window l.own ≡ valid.window_fits (told l.around) (l.window + l.i) (drop l.i l.own)
