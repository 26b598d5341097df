use Rattle.std.proofs.Common.{◌≡◌, ◌-◌, drop, length}
use Rattle.kahn_plain.specs.Equations as own
use Rattle.kahn_exprs.specs.Body as spec
use Rattle.kahn_model.specs.Table.{written_row}
use Rattle.kahn_plain.proofs.equations.by_sites.Given as goal

abbrev pub invariant-loop-back : goal.invariant-loop-back
invariant-loop-back g l = l.done ≡ written_row l.body.lines 0 (own.by_numbers l.body l.w (spec.otherwise l.body l.x l.w) (drop (length l.numbers - l.back) l.numbers))
