use Rattle.std.proofs.Common.{◌≡◌, ◌+◌, ◌++◌, ◌∷◌, [], map, drop, take, length}
use Rattle.ls_scope.specs.Cases.{CasesMore}
use Rattle.ls_scope.proofs.known.add_cases.Given as goal

abbrev pub invariant-loop-at : goal.invariant-loop-at
invariant-loop-at l = CasesMore l.t (take l.at l.names) l.initial.cases l.cases
