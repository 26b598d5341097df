use Rattle.std.proofs.Common.{sym}
use Rattle.ls_lexer.proofs.Told.{number_piece, text_piece}
use Rattle.ls_lexer.proofs.reading.read_piece.Goals as goal

pub add_piece-requires-clause-digits : goal.add_piece-requires-clause-digits
add_piece-requires-clause-digits c = number_piece c.args.line c.args.text.now c.in_ok-piece.piece (sym c.in_ok-piece.ensures.value)

pub add_piece-requires-clause-characters : goal.add_piece-requires-clause-characters
add_piece-requires-clause-characters c = text_piece c.args.line c.args.text.now c.in_ok-piece.piece (sym c.in_ok-piece.ensures.value)
