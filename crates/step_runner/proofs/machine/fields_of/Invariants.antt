use Rattle.std.proofs.Common.{◌≡◌, take, map}
use Rattle.step_code.specs.Steps.{field_of}
use Rattle.step_runner.proofs.machine.fields_of.Given as goal

abbrev pub invariant-loop-line : goal.invariant-loop-line
invariant-loop-line l = l.fields ≡ map (field_of l.slots) (take l.line-index l.lines)
