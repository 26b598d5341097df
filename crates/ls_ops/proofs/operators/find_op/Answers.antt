-- The table has each operator beside its symbol.
use Rattle.std.proofs.Common.{◌≡◌, ◌↔◌, List, ℕ, Some, subst}
use Rattle.std.specs.List.{Contains}
use Rattle.ls_ops.specs.declared.kinds.Op.{Op}
use Rattle.ls_ops.proofs.TableLemmas.{Finds, Finds-found, Finds-none, Finds-every}
use Rattle.ls_ops.proofs.operators.find_op.Goals as goal

finds : (c : goal.After-find) → Finds c.find.result c.args.symbol.now
finds c =
    let P : List (Op × List ℕ) → Type 0 = λ rows. (op : Op) → (c.find.result ≡ Some op) ↔ Contains rows (op, c.args.symbol.now) in
    subst P c.all_operators.ensures c.find.ensures

pub returns-clause-found : goal.returns-clause-found
returns-clause-found c = Finds-found c.find.result c.args.symbol.now (finds c)

pub returns-clause-none : goal.returns-clause-none
returns-clause-none c = Finds-none c.find.result c.args.symbol.now (finds c)

pub returns-clause-every : goal.returns-clause-every
returns-clause-every c = Finds-every c.find.result c.args.symbol.now (finds c)
