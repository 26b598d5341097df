use Rattle.line_io.proofs.FieldLemmas.{no_char}
use Rattle.line_io.proofs.read.read_word.Goals as goal

pub returns-in-None-clause-none : goal.returns-in-None-clause-none
returns-in-None-clause-none c = no_char c.args.form.now c.args.word.now _ c.in-Char.is c.in-None.ensures.none
