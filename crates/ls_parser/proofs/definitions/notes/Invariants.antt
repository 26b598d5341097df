use Rattle.std.proofs.Common.{◌≡◌, map, take}
use Rattle.ls_parser.specs.Making.{plain}
use Rattle.ls_parser.proofs.definitions.notes.Given as goal

abbrev pub invariant-loop-param : goal.invariant-loop-param
invariant-loop-param l = l.made ≡ map (λ p. plain) (take l.param-index l.param-items)
