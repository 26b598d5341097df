use Rattle.std.proofs.Common.{◌≡◌, take}
use Rattle.core_lang.proofs.copies.copy_branches.Given as goal

abbrev pub invariant-loop-leaf : goal.invariant-loop-leaf
invariant-loop-leaf l = l.done ≡ take l.leaf-index l.branches
