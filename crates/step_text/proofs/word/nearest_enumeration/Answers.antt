use Rattle.std.proofs.Common.{◌≡◌, ◌∙◌, ap, sym, length, take, decimal, ◌∷◌}
use Rattle.std.proofs.lemmas.List.{take_at}
use Rattle.step_text.proofs.NumberLemmas.{dot_behind}
use Rattle.step_text.proofs.word.nearest_enumeration.Goals as goal

pub returns-in-Some : goal.returns-in-Some
returns-in-Some c = λ t rest h e.
    let at = dot_behind t c.args.word.now rest h e in
    let is : c.in-Some.end ≡ length (decimal t) = cc in
    c.read_number.ensures.back t h (ap (take c.in-Some.end) e ∙ take_at (decimal t) (46 ∷ rest) c.in-Some.end (sym is))

pub returns-in-None : goal.returns-in-None
returns-in-None c = λ t rest h e. let at = dot_behind t c.args.word.now rest h e in cc
