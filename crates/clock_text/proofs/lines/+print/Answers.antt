use Rattle.std.proofs.Common.{sym}
use Rattle.clock_text.proofs.Shows.{on_told, arrow_told}
use Rattle.clock_text.proofs.Turns.{clock_turn}
use Rattle.clock_text.specs.Texts as spec
use Rattle.text_write.proofs.Writing.{prints_more, prints_as}
use Rattle.clock_text.proofs.lines.+print.Goals as goal

pub print_all-loop-t-preserved : goal.print_all-loop-t-preserved
print_all-loop-t-preserved g t c =
    clock_turn (spec.shown (spec.spelling c.args.by.now)) c.args.all.now c.loop-t.t-index c.t-item.result _ _ _ _ _ _ _ _ _ _ _ _ _ c.loop-t-test.true (sym c.t-item.is) c.print_term-printed.ensures c.put-so_far.ensures c.loop-t.invariant

pub print_term-returns-in-On : goal.print_term-returns-in-On
print_term-returns-in-On g t c =
    let s = spec.spelling c.args.by.now in
    prints_as _ _ _ _ _ _ _ (spec.shown s c.args.t.now)
    (prints_more _ _ _ _ _ _ _ _ _ _ _ c.print_term-printed.ensures c.print_on.ensures)
    (on_told s c.args.t.now c.in-On.of c.get.result.now c.in-On.m c.in-On.k c.in-On.is c.get.ensures)

pub print_term-returns-in-Arrow : goal.print_term-returns-in-Arrow
print_term-returns-in-Arrow g t c =
    let s = spec.spelling c.args.by.now in
    prints_as _ _ _ _ _ _ _ (spec.shown s c.args.t.now)
    (prints_more _ _ _ _ _ _ _ _ _ _ _ (prints_more _ _ _ _ _ _ _ _ _ _ _ (prints_more _ _ _ _ _ _ _ _ _ _ _ c.put-opened.ensures c.print_all-listed.ensures) c.print_term-whole.ensures) c.put-in-Arrow.ensures)
    (arrow_told s c.args.t.now c.in-Arrow.all c.as_slice-in-Arrow.result.now c.in-Arrow.to c.get-in-Arrow.result.now c.in-Arrow.is c.as_slice-in-Arrow.ensures.value c.get-in-Arrow.ensures)
