use Rattle.ls_lexer.proofs.Munch.{front_has_piece, no_longer_piece}
use Rattle.ls_lexer.proofs.longest.longest_piece.Goals as goal

pub returns-clause-front : goal.returns-clause-front
returns-clause-front c = front_has_piece c.args.line c.args.text.now

pub returns-clause-longest : goal.returns-clause-longest
returns-clause-longest c = no_longer_piece c.args.line c.args.text.now
