use Rattle.std.proofs.Common.{◌∙◌, sym, refl}
use Rattle.step_text.proofs.ReadLemmas.{words_none, words_refused, words_taken}
use Rattle.step_text.proofs.read.take_words.Goals as goal

pub take-requires : goal.take-requires
take-requires c = let found = rw c.in-Some.is at c.in_ok-entry.ensures.found in found.1

pub returns-in-Some-clause-taken : goal.returns-in-Some-clause-taken
returns-in-Some-clause-taken c =
    let found = rw c.in-Some.is at c.in_ok-entry.ensures.found in
    words_taken c.take.result c.args.line.now c.args.reading.now c.take.new.self c.in-Some.entry found.1 found.0 c.take.ensures.taken

pub returns-in-Some-clause-refused : goal.returns-in-Some-clause-refused
returns-in-Some-clause-refused c =
    words_refused c.take.result c.args.line.now c.args.reading.now c.take.new.self c.in-Some.entry (λ o legal words. sym c.in-Some.is ∙ c.in_ok-entry.ensures.back o legal words) c.take.ensures.refused

pub returns-in-None-clause-refused : goal.returns-in-None-clause-refused
returns-in-None-clause-refused c = λ _. (words_none c.args.line.now c.args.reading.now (λ o legal words. sym c.in-None.is ∙ c.in_ok-entry.ensures.back o legal words), refl)
