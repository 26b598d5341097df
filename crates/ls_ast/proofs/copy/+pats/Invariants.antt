use Rattle.std.proofs.Common.{◌≡◌, take}
use Rattle.ls_ast.proofs.copy.+pats.Given as goal

abbrev pub invariant-copy_pats-loop-pat : goal.invariant-copy_pats-loop-pat
invariant-copy_pats-loop-pat l = l.done ≡ take l.pat-index l.all
