use Rattle.std.proofs.Common.{◌≡◌, drop}
use Rattle.step_code.specs.Valid as valid
use Rattle.step_code.proofs.inputs.same_clock.Given as goal

abbrev pub invariant-loop-i : goal.invariant-loop-i
invariant-loop-i l = valid.same_clock l.one l.two ≡ valid.same_clock (drop l.i l.one) (drop l.i l.two)
