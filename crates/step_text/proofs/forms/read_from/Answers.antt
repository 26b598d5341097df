use Rattle.std.proofs.Common.{◌≡◌}
use Rattle.step_text.specs.Entries.{keyword_of, keyword_text, tail_words}
use Rattle.step_text.proofs.FormLemmas.{tail_found}
use Rattle.step_text.proofs.forms.read_from.Goals as goal

pub returns-in-Some-clause-found : goal.returns-in-Some-clause-found
returns-in-Some-clause-found c = tail_found c.read_tail.result c.in-Some.keyword c.args.word.now c.args.words.now c.in-Some.ensures.found c.read_tail.ensures.found

pub returns-in-Some-clause-back : goal.returns-in-Some-clause-back
returns-in-Some-clause-back c = λ e legal h.
    let head : c.args.word.now ≡ keyword_text (keyword_of e) = cc in
    let tail : c.args.words.now ≡ tail_words e = cc in
    let got = c.read_keyword.ensures.back (keyword_of e) head in
    let was = c.in-Some.is in
    let same : keyword_of e ≡ c.in-Some.keyword = cc in
    c.read_tail.ensures.back e (same, tail, legal)

pub returns-in-None-clause-back : goal.returns-in-None-clause-back
returns-in-None-clause-back c = λ e legal h.
    let head : c.args.word.now ≡ keyword_text (keyword_of e) = cc in
    let got = c.read_keyword.ensures.back (keyword_of e) head in
    let none = c.in-None.is in
    absurd (cc)
