use Rattle.ls_lexer.proofs.Named.{Lexes-names}
use Rattle.ls_lexer.proofs.Unique.{tokens_answered, fault_answered}
use Rattle.ls_lexer.proofs.reading.lex.Goals as goal

pub returns-clause-no_other_tokens : goal.returns-clause-no_other_tokens
returns-clause-no_other_tokens c = tokens_answered c.args.bytes.now c.read_file.result c.read_file.ensures.tokens c.read_file.ensures.fault

pub returns-clause-no_other_fault : goal.returns-clause-no_other_fault
returns-clause-no_other_fault c = fault_answered c.args.bytes.now c.read_file.result c.read_file.ensures.tokens c.read_file.ensures.fault

pub returns-clause-names : goal.returns-clause-names
returns-clause-names c = Lexes-names c.args.bytes.now c.read_file.result c.read_file.ensures.tokens
