use Rattle.std.proofs.Common.{◌≡◌, ◌+◌, ◌++◌, ◌∷◌, [], map, drop, take, length}
use Rattle.scope_rules.specs.Faults as spec
use Rattle.ls_scope.specs.Marks as marks
use Rattle.std.specs.Prelude.{ℕ}
use Rattle.ls_scope.proofs.marks.add_claims.Given as goal

abbrev pub invariant-loop-claim : goal.invariant-loop-claim
invariant-loop-claim l = (i : ℕ) → spec.or_later (marks.told l.marks i) (spec.first_in i (drop l.claim-index l.claims)) ≡ spec.or_later (marks.told l.initial.marks i) (spec.first_in i l.claims)
