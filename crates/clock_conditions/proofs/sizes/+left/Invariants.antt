use Rattle.std.proofs.Common.{◌≡◌, drop, map}
use Rattle.clock_conditions.specs.Every.{left_after}
use Rattle.ls_terms.specs.Clocks.{size, sum}
use Rattle.clock_conditions.proofs.sizes.+left.Given as goal

abbrev pub invariant-left_all-loop-t : goal.invariant-left_all-loop-t
invariant-left_all-loop-t l =
    left_after l.rest (sum (map size (drop l.t-index l.all))) ≡ left_after l.many (sum (map size l.all))
