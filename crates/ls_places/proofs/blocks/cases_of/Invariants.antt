use Rattle.std.proofs.Common.{◌≡◌, map, take}
use Rattle.ls_places.specs.Blocks as spec
use Rattle.ls_places.proofs.blocks.cases_of.Given as goal

abbrev pub invariant-loop-arm : goal.invariant-loop-arm
invariant-loop-arm g l = l.done ≡ map (spec.case_of (g.C.CasePlaces.place l.cases)) (take l.arm-index l.all)
