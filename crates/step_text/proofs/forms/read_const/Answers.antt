use Rattle.std.proofs.Common.{◌≡◌, [], ◌∷◌}
use Rattle.ls_value.specs.Spelling.{code_of}
use Rattle.step_text.proofs.forms.read_const.Goals as goal

pub returns-clause-back : goal.returns-clause-back
returns-clause-back c = λ d leaf hd hl e.
    let n = c.number.ensures.back d (code_of leaf ∷ []) hd e in
    let l = c.leaf.ensures.back leaf [] hl n.1 in
    let n_was = c.in_ok-target.was in
    let l_was = c.in_ok-leaf.was in
    let n_is : c.in_ok-target.target ≡ d = cc in
    let l_is : c.in_ok-leaf.leaf ≡ leaf = cc in
    cc
