use Rattle.std.proofs.Common.{◌+◌, sym, subst, arith}
use Rattle.step_text.specs.declared.words.Place.{Place}
use Rattle.step_text.proofs.WordLemmas.{Scanned, scan_first, scan_next, scan_stop, scan_end}
use Rattle.step_text.proofs.words.word_len.Goals as goal

pub loop-i-init : goal.loop-i-init
loop-i-init c = scan_first c.args.text.now

pub loop-i-preserved : goal.loop-i-preserved
loop-i-preserved c =
    subst
    (λ (p : Place). Scanned c.args.text.now (c.loop-i.i + 1) p)
    (sym c.behind-place.ensures)
    (scan_next c.args.text.now c.loop-i.i c.loop-i.place c.loop-i-test.true (sym c.if-ends.ensures) c.loop-i.invariant)

pub returns-then-ends-clause-more : goal.returns-then-ends-clause-more
returns-then-ends-clause-more c = λ _. scan_stop c.args.text.now c.loop-i.i c.loop-i.place c.loop-i-test.true (sym c.if-ends.ensures) c.loop-i.invariant

pub returns-clause-last : goal.returns-clause-last
returns-clause-last c = λ _. scan_end c.args.text.now c.loop-i.i c.loop-i.place (omega arith) c.loop-i.invariant
