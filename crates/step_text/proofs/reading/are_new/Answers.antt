use Rattle.std.proofs.Common.{◌≡◌, ◌∙◌, sym}
use Rattle.step_text.proofs.NameLemmas.{known_not_new, new_known, new_rest}
use Rattle.step_text.proofs.reading.are_new.Goals as goal

pub returns-then-is_some : goal.returns-then-is_some
returns-then-is_some c =
    let same : c.as_text-text.result.now ≡ c.word-item.result = c.as_text-text.ensures ∙ c.as_slice.ensures.value in
    sym (c.loop-word.invariant.rest ∙ known_not_new c.args.words.now c.loop-word.word-index c.word-item.result c.as_text-text.result.now c.loop-word.known c.find.result c.loop-word-test.true c.word-item.is same c.find.ensures.found (sym c.is_some.ensures ∙ c.if-is_some.true))

pub loop-word-preserved : goal.loop-word-preserved
loop-word-preserved c =
    let words = c.args.words.now in
    let i = c.loop-word.word-index in
    let item = c.word-item.result in
    let word = c.as_text-text.result.now in
    let known = c.loop-word.known in
    let same : word ≡ item = c.as_text-text.ensures ∙ c.as_slice.ensures.value in
    let none = sym c.is_some.ensures ∙ c.if-is_some.false in
    record {
      known = new_known words i item word known c.add.new.self c.find.result c.loop-word-test.true c.word-item.is same c.find.ensures.absent none c.in_ok-add.ensures.added c.loop-word.invariant.known;
      rest = new_rest words i item word known c.add.new.self c.find.result c.loop-word-test.true c.word-item.is same c.find.ensures.absent none c.in_ok-add.ensures.added c.loop-word.invariant.rest;
    }
