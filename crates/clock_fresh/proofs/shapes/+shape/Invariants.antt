use Rattle.std.proofs.Common.{◌≡◌, drop, ◌++◌}
use Rattle.clock_fresh.specs.Shapes.{shapes_of}
use Rattle.clock_fresh.proofs.shapes.+shape.Given as goal

abbrev pub invariant-shapes-loop-ty : goal.invariant-shapes-loop-ty
invariant-shapes-loop-ty l = (l.done ++ (shapes_of (drop l.ty-index l.all) l.next).0 ≡ (shapes_of l.all l.initial.next).0) × ((shapes_of (drop l.ty-index l.all) l.next).1 ≡ (shapes_of l.all l.initial.next).1)
