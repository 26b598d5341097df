use Rattle.std.proofs.Common.{◌≡◌, false, take, Vec}
use Rattle.std.specs.Global.{Global}
use Rattle.std.specs.Prelude.{ℕ}
use Rattle.scope_rules.specs.Faults as spec
use Rattle.ls_scope.specs.Last as last
use Rattle.ls_scope.proofs.twice.bound_again.Given as goal

abbrev pub invariant-loop-s : goal.invariant-loop-s
invariant-loop-s l = (spec.any_two spec.again (take l.s-index l.all) ≡ false)
    × ((k : Vec ℕ Global) → last.told l.last.entries k.items ≡ last.last_place k.items (take l.s-index l.all))
