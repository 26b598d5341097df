use Rattle.std.proofs.Common.{◌≡◌, drop, map}
use Rattle.clock_infer.specs.Schemes as spec
use Rattle.clock_rules.specs.Files as files
use Rattle.tree_notes.specs.Order.{joined}
use Rattle.clock_infer.proofs.schemes.+appear.Given as goal

abbrev pub invariant-appear_all-loop-t : goal.invariant-appear_all-loop-t
invariant-appear_all-loop-t l =
    spec.seen_all l.seen.list (joined (map files.variables_in (drop l.t-index l.all))) ≡ spec.seen_all l.initial.seen.list (joined (map files.variables_in l.all))
