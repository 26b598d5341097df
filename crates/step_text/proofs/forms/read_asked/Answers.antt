use Rattle.std.proofs.Common.{◌≡◌, ℕ, ◌∷◌, ◌∙◌, ap, Some, decimal}
use Rattle.ls_value.specs.Spelling.{code_of}
use Rattle.ls_value.specs.declared.leaf.Leaf.{Leaf}
use Rattle.step_text.proofs.forms.read_asked.Goals as goal

pub returns-clause-back : goal.returns-clause-back
returns-clause-back c = λ asked more h e.
    let tail : c.args.words.now ≡ decimal asked.0 ∷ code_of asked.1 ∷ more = cc in
    let n = c.number.ensures.back asked.0 (code_of asked.1 ∷ more) h.0 tail in
    let l = c.leaf.ensures.back asked.1 more h.1 n.1 in
    let at_was = c.in_ok-at.was in
    let leaf_was = c.in_ok-leaf.was in
    let at_is : c.in_ok-at.at ≡ asked.0 = cc in
    let leaf_is : c.in_ok-leaf.field-0 ≡ asked.1 = cc in
    (ap (λ (x : ℕ). Some (x, c.in_ok-leaf.field-0)) at_is ∙ ap (λ (y : Leaf). Some (asked.0, y)) leaf_is, l.1)
