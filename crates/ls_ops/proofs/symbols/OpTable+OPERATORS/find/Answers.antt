-- The rows have distinct symbols, so the first one that has the symbol is the only one.
use Rattle.ls_ops.proofs.SymbolLemmas.{IsRow_exactly}
use Rattle.ls_ops.proofs.symbols.OpTable+OPERATORS.find.Goals as goal

pub returns : goal.returns
returns c = IsRow_exactly c.args.self.now.rows c.args.symbol.now c.first.result c.args.self.now.distinct c.first.ensures
