use Rattle.std.proofs.Common.{◌*◌, ◌≤◌, ◌∙◌, length, sym, ap, subst, arith}
use Rattle.step_text.specs.Next.{is_whole}
use Rattle.step_text.specs.Text.{IsReadTo}
use Rattle.step_text.specs.declared.reading.Reading.{Reading}
use Rattle.step_text.proofs.TextLemmas.{so_far_first, so_far_short}
use Rattle.step_text.proofs.ReadLemmas.{read_to, so_far_taken}
use Rattle.step_text.proofs.read.read_lines.Goals as goal

pub loop-more-init : goal.loop-more-init
loop-more-init c = so_far_first c.args.bytes.now c.args.reading.now c.requires.start

pub overflow_add-lines : goal.overflow_add-lines
overflow_add-lines c =
    let few : 3 * c.loop-more.lines ≤ length c.args.bytes.now = so_far_short _ _ _ _ c.loop-more.invariant in
    let short = c.requires.short in
    omega arith

pub loop-more-preserved : goal.loop-more-preserved
loop-more-preserved c =
    let taken = rw c.in-Some.is at c.in_ok-more.ensures.taken in
    so_far_taken c.args.bytes.now c.loop-more.reading c.take_line.new.reading c.loop-more.rest.now c.in-Some.more.now c.loop-more.lines taken c.loop-more.invariant

pub returns : goal.returns
returns c =
    let last = rw c.in_default.is at c.in_ok-more.ensures.none in
    subst
    (λ (r : Reading). IsReadTo c.args.bytes.now r c.loop-more.lines c.is_whole.result)
    (sym last.1)
    (read_to c.args.bytes.now c.loop-more.reading c.loop-more.rest.now c.loop-more.lines c.is_whole.result c.loop-more.invariant last.0
    (c.is_whole.ensures ∙ ap (λ (r : Reading). is_whole r c.loop-more.rest.now) last.1))
