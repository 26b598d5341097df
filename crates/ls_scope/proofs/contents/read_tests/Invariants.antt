use Rattle.std.proofs.Common.{◌≡◌, ◌+◌, ◌++◌, ◌∷◌, [], map, drop, take, length}
use Rattle.scope_rules.specs.Places as spec
use Rattle.ls_scope.specs.Told.{built}
use Rattle.ls_scope.proofs.contents.read_tests.Given as goal

abbrev pub invariant-loop-test : goal.invariant-loop-test
invariant-loop-test g l = spec.read_tests g.row.N.Denot (map spec.signal_of (drop l.test-index l.tests)) l.w (built l.found) ≡ spec.read_tests g.row.N.Denot (map spec.signal_of l.tests) l.w (built l.initial.found)
