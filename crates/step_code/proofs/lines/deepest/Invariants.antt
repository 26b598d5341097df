use Rattle.std.proofs.Common.{◌≡◌, drop}
use Rattle.step_code.specs.Marks.{around as told}
use Rattle.step_code.specs.Valid as valid
use Rattle.step_code.proofs.lines.deepest.Given as goal

abbrev pub invariant-loop-line : goal.invariant-loop-line
invariant-loop-line l = valid.deepest (told l.around) 0 l.list ≡ valid.deepest (told l.around) l.so_far (drop l.line-index l.list)
