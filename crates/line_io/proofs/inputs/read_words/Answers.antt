use Rattle.std.proofs.Common.{List, length, drop, arith, ap}
use Rattle.line_io.specs.declared.form.Field.{Field}
use Rattle.line_io.specs.Words.{words_of}
use Rattle.line_io.proofs.CellLemmas.{read_more, words_more, read_all, more_is}
use Rattle.line_io.proofs.inputs.read_words.Goals as goal

pub loop-at-preserved : goal.loop-at-preserved
loop-at-preserved c =
    let e = c.read_next-reading.ensures in
    let is = c.as_slice-fields.ensures.value in
    let lt = c.loop-at-test.true in
    record {
      within = e.within;
      words = words_more (words_of c.args.line.now) c.args.line.now c.loop-at.from c.read_next-reading.result.1 c.loop-at.at c.loop-at.invariant.words e.rest;
      read = read_more c.args.form.now c.args.line.now c.loop-at.from c.loop-at.at c.loop-at.readings c.as_slice-fields.result.now c.index-fields-at.result c.read_next-reading.result.0
          (omega (arith, ap (λ (fs : List Field). length fs) is)) lt is c.loop-at.invariant.words e.reads c.loop-at.invariant.read;
    }

pub returns-clause-reads : goal.returns-clause-reads
returns-clause-reads c =
    let long = ap (λ (fs : List Field). length fs) c.as_slice-fields.ensures.value in
    read_all c.args.form.now c.args.line.now c.loop-at.readings c.loop-at.at (omega (arith, c.requires)) (omega (arith, long)) c.loop-at.invariant.read

pub returns-clause-more : goal.returns-clause-more
returns-clause-more c =
    let long = ap (λ (fs : List Field). length fs) c.as_slice-fields.ensures.value in
    let e = c.next_word.ensures in
    more_is (words_of c.args.line.now) (words_of (drop c.loop-at.from c.args.line.now)) c.args.line.now c.loop-at.at (length c.args.form.now.fields) c.next_word.result c.is_some.result
    (omega (arith, long)) c.is_some.ensures c.loop-at.invariant.words e.none e.word
