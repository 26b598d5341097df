use Rattle.ls_parser.proofs.Exact as exact
use Rattle.ls_parser.proofs.file.one_tree.Goals as goal

pub returns : goal.returns
returns c = exact.one_tree
