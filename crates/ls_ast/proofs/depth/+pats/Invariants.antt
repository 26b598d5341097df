use Rattle.std.proofs.Common.{◌≡◌, map, drop, max}
use Rattle.ls_ast.specs.Height as spec
use Rattle.ls_ast.proofs.depth.+pats.Given as goal

abbrev pub invariant-highest_pat-loop-pat : goal.invariant-highest_pat-loop-pat
invariant-highest_pat-loop-pat l = max l.most (spec.highest (map spec.pat_height (drop l.pat-index l.all))) ≡ spec.highest (map spec.pat_height l.all)
