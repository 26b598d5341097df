use Rattle.std.proofs.Common.{sym, subst}
use Rattle.ls_parser.specs.Grammar.{StopsAt}
use Rattle.ls_parser.proofs.file.parse.Goals as goal

pub returns-clause-stops : goal.returns-clause-stops
returns-clause-stops c line stop = c.in-Ok.ensures.stops line (subst (λ ts. StopsAt ts line) (sym c.as_slice.ensures.value) stop)
