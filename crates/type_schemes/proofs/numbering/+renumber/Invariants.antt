use Rattle.std.proofs.Common.{◌≡◌, take, map}
use Rattle.type_rules.specs.Files.{renumbered}
use Rattle.type_schemes.proofs.numbering.+renumber.Given as goal

abbrev pub invariant-renumber_all-loop-t : goal.invariant-renumber_all-loop-t
invariant-renumber_all-loop-t l = l.done ≡ map (renumbered l.first l.seen.keys) (take l.t-index l.all)
