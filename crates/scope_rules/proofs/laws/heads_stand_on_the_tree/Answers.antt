use Rattle.scope_rules.proofs.OnTree.{heads_on_tree, enums_on_tree}
use Rattle.scope_rules.proofs.laws.heads_stand_on_the_tree.Goals as goal

pub returns-clause-heads : goal.returns-clause-heads
returns-clause-heads g c names k ds = heads_on_tree names k ds

pub returns-clause-enums : goal.returns-clause-enums
returns-clause-enums g c names k ds = enums_on_tree names k ds
