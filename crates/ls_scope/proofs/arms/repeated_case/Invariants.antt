use Rattle.std.proofs.Common.{◌≡◌, ◌+◌, ◌++◌, ◌∷◌, [], map, drop, take, length}
use Rattle.scope_rules.specs.Faults as spec
use Rattle.ls_scope.specs.Arms as arms
use Rattle.std.proofs.Common.{false}
use Rattle.ls_scope.proofs.arms.repeated_case.Given as goal

abbrev pub invariant-loop-case : goal.invariant-loop-case
invariant-loop-case l = (spec.repeated_case (take l.case-index l.cases) ≡ false) × arms.HasJust (take l.case-index l.cases) l.seen
