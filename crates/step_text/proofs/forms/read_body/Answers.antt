use Rattle.std.proofs.Common.{◌≡◌, [], ◌∷◌, decimal}
use Rattle.step_text.proofs.forms.read_body.Goals as goal

pub returns-clause-back : goal.returns-clause-back
returns-clause-back c = λ at slots lines ha hs hl e.
    let n = c.number.ensures.back at (decimal slots ∷ decimal lines ∷ []) ha e in
    let m = c.number-2.ensures.back slots (decimal lines ∷ []) hs n.1 in
    let k = c.number-3.ensures.back lines [] hl m.1 in
    let n_was = c.in_ok-at.was in
    let m_was = c.in_ok-slots.was in
    let k_was = c.in_ok-lines.was in
    let n_is : c.in_ok-at.at ≡ at = cc in
    let m_is : c.in_ok-slots.slots ≡ slots = cc in
    let k_is : c.in_ok-lines.lines ≡ lines = cc in
    cc
