use Rattle.std.proofs.Common.{◌≡◌, [], drop}
use Rattle.ls_places.specs.Places as spec
use Rattle.ls_places.proofs.bind.bind_all.Given as goal

abbrev pub invariant-loop-x : goal.invariant-loop-x
invariant-loop-x l = spec.bind_all (drop l.x-index l.names) l.signal l.w (l.vars, l.numbers) ≡ spec.bind_all l.names l.signal l.w (l.initial.vars, [])
