use Rattle.std.proofs.Common.{◌∷◌, [], arith}
use Rattle.ls_value.proofs.read.read_char.Goals as goal

pub returns-in-None-clause-none : goal.returns-in-None-clause-none
returns-in-None-clause-none c = λ one token. let h = c.in-None.ensures.none (one ∷ []) token in omega arith
