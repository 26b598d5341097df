use Rattle.std.proofs.Common.{◌≡◌, sym, ◌∙◌, ap, subst, decimal, get_or}
use Rattle.ls_value.specs.Spelling.{Fits}
use Rattle.ls_value.specs.declared.leaf.Leaf.{Leaf}
use Rattle.ls_value.specs.declared.leaf.Shape.TheVariants.{Enum as Enums}
use Rattle.ls_value.proofs.Numbers.{to_the_end}
use Rattle.step_text.proofs.LeafLemmas.{constructor_of, empty_word, first_tells, not_equal, some_byte}
use Rattle.step_text.proofs.word.nearest_shape.Goals as goal

pub returns-then-is_empty : goal.returns-then-is_empty
returns-then-is_empty c = λ leaf h e. some_byte leaf h (sym e ∙ empty_word c.args.word.now (sym c.is_empty.ensures ∙ c.if-is_empty.true))

pub returns-in_err-nearest_enumeration : goal.returns-in_err-nearest_enumeration
returns-in_err-nearest_enumeration c = λ leaf h e.
    let k = constructor_of leaf c.args.word.now h e c.if-word-eq35.true in
    let got = c.nearest_enumeration.ensures k.enumeration (decimal k.place) k.small (to_the_end c.args.word.now 1 ∙ k.rest) in
    let none = c.in_err-nearest_enumeration.was in
    absurd (cc)

pub returns-then-word-eq35 : goal.returns-then-word-eq35
returns-then-word-eq35 c = λ leaf h e.
    let k = constructor_of leaf c.args.word.now h e c.if-word-eq35.true in
    let got = c.nearest_enumeration.ensures k.enumeration (decimal k.place) k.small (to_the_end c.args.word.now 1 ∙ k.rest) in
    let was = c.in_ok-nearest_enumeration.was in
    let same : k.enumeration ≡ c.in_ok-nearest_enumeration.field-0 = cc in
    subst (λ (l : Leaf). Fits l (Enums c.in_ok-nearest_enumeration.field-0)) (sym k.is) (ap Enums same)

pub returns : goal.returns
returns c = λ leaf h e. subst (Fits leaf) (sym c.shape_by_first.ensures) (first_tells leaf c.args.word.now h e (not_equal (get_or c.args.word.now 0 0) 35 c.if-word-eq35.false))
