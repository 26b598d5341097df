use Rattle.std.proofs.Common.{◌≡◌, [], ◌∷◌, decimal}
use Rattle.ls_value.specs.Spelling.{code_of}
use Rattle.step_text.proofs.forms.read_test.Goals as goal

pub returns-clause-back : goal.returns-clause-back
returns-clause-back c = λ d a leaf hd ha hl e.
    let n = c.number.ensures.back d (decimal a ∷ code_of leaf ∷ []) hd e in
    let m = c.number-2.ensures.back a (code_of leaf ∷ []) ha n.1 in
    let l = c.leaf.ensures.back leaf [] hl m.1 in
    let n_was = c.in_ok-target.was in
    let m_was = c.in_ok-from.was in
    let l_was = c.in_ok-leaf.was in
    let n_is : c.in_ok-target.target ≡ d = cc in
    let m_is : c.in_ok-from.from ≡ a = cc in
    let l_is : c.in_ok-leaf.leaf ≡ leaf = cc in
    cc
