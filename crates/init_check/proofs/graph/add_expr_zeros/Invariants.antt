use Rattle.std.proofs.Common.{◌≡◌, ◌++◌, drop, map}
use Rattle.init_rules.specs.Nodes as spec
use Rattle.ls_places.specs.Patterns.{joined}
use Rattle.init_check.proofs.graph.add_expr_zeros.Given as goal

abbrev pub invariant-loop-whole : goal.invariant-loop-whole
invariant-loop-whole l = l.out ++ joined (map (spec.expr_zero_row l.d l.sigs) (drop l.whole-index l.d.places.exprs)) ≡ l.initial.out ++ joined (map (spec.expr_zero_row l.d l.sigs) l.d.places.exprs)
