use Rattle.ls_parser.proofs.Exact as exact
use Rattle.ls_parser.proofs.file.one_stop.Goals as goal

pub returns-clause-line : goal.returns-clause-line
returns-clause-line c = exact.one_stop

pub returns-clause-no_file : goal.returns-clause-no_file
returns-clause-no_file c = exact.no_file
