use Rattle.std.proofs.Common.{◌≡◌, map, take}
use Rattle.ls_ast.specs.declared.tree.Mark.TheVariants.{Unknown}
use Rattle.ls_parser.proofs.definitions.marks.Given as goal

abbrev pub invariant-loop-param : goal.invariant-loop-param
invariant-loop-param l = l.made ≡ map (λ p. Unknown) (take l.param-index l.param-items)
