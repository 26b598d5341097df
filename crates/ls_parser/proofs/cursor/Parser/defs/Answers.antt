use Rattle.ls_parser.proofs.SoundDefs.{file_is}
use Rattle.ls_parser.proofs.Exact.{fault_is, answer_is, stop_is}
use Rattle.ls_parser.proofs.cursor.Parser.defs.Goals as goal

pub returns-clause-file : goal.returns-clause-file
returns-clause-file c = file_is c.args.self.now.tokens.now c.file.result c.file.ensures

pub returns-clause-fault : goal.returns-clause-fault
returns-clause-fault c = fault_is c.args.self.now.tokens.now c.file.result c.file.ensures

pub returns-clause-only : goal.returns-clause-only
returns-clause-only c = answer_is c.args.self.now.tokens.now c.file.result c.file.ensures

pub returns-clause-stops : goal.returns-clause-stops
returns-clause-stops c = stop_is c.args.self.now.tokens.now c.file.result c.file.ensures
