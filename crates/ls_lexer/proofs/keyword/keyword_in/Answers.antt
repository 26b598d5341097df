use Rattle.std.proofs.Common.{◌∙◌}
use Rattle.ls_lexer.proofs.Tables.{first_in-entries}
use Rattle.ls_lexer.proofs.keyword.keyword_in.Goals as goal

pub returns : goal.returns
returns c = c.first_in.ensures ∙ first_in-entries c.args.rows.now c.args.word.now
