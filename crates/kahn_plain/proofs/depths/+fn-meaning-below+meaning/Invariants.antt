use Rattle.std.specs.Prelude.{◌*◌, ◌-◌}
use Rattle.kahn_plain.proofs.depths.+fn-meaning-below+meaning.Given as goal

abbrev pub decreases-below : goal.decreases-below
decreases-below l = 2 * l.depth - 1

abbrev pub decreases-meaning : goal.decreases-meaning
decreases-meaning l = 2 * l.depth
