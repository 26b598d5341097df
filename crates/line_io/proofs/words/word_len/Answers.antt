use Rattle.std.proofs.Common.{◌+◌, sym, subst, arith}
use Rattle.line_io.specs.declared.words.Place.{Place}
use Rattle.line_io.proofs.WordLemmas.{Scanned, scan_first, scan_next, scan_stop, scan_end}
use Rattle.line_io.proofs.words.word_len.Goals as goal

pub loop-i-init : goal.loop-i-init
loop-i-init c =
    subst (λ (p : Place). Scanned c.args.text.now 1 p) (sym c.opened-place.ensures) (scan_first c.args.text.now c.requires.some c.requires.begun)

pub loop-i-preserved : goal.loop-i-preserved
loop-i-preserved c =
    subst
    (λ (p : Place). Scanned c.args.text.now (c.loop-i.i + 1) p)
    (sym c.inside-place.ensures)
    (scan_next c.args.text.now c.loop-i.i c.loop-i.place c.loop-i-test.true (sym c.if-ends.ensures) c.loop-i.invariant)

pub returns-then-ends-clause-word : goal.returns-then-ends-clause-word
returns-then-ends-clause-word c = scan_stop c.args.text.now c.loop-i.i c.loop-i.place c.loop-i-test.true (sym c.if-ends.ensures) c.loop-i.invariant

pub returns-clause-word : goal.returns-clause-word
returns-clause-word c = scan_end c.args.text.now c.loop-i.i c.loop-i.place (omega arith) c.loop-i.invariant
