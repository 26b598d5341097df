use Rattle.std.proofs.Common.{◌∙◌}
use Rattle.ls_lexer.proofs.Tables.{by_letter-keyword_of}
use Rattle.ls_lexer.proofs.keyword.find_keyword.Goals as goal

pub returns : goal.returns
returns c = c.by_letter.ensures ∙ by_letter-keyword_of c.args.word.now
