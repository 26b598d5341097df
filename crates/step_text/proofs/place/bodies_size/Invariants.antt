use Rattle.std.proofs.Common.{◌≡◌, ◌+◌, drop}
use Rattle.step_text.specs.Lines.{bodies_size}
use Rattle.step_text.proofs.place.bodies_size.Given as goal

abbrev pub invariant-loop-body : goal.invariant-loop-body
invariant-loop-body l = l.size + bodies_size (drop l.body-index l.bodies) ≡ bodies_size l.bodies
