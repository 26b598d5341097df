use Rattle.std.proofs.Common.{length, ◌+◌, arith}
use Rattle.std.proofs.lemmas.Grind.{common_steps}
use Rattle.line_io.proofs.CellLemmas.{bad_at, bad_past}
use Rattle.line_io.proofs.OneLine.{not_both}
use Rattle.line_io.proofs.inputs.read_inputs.Goals as goal

pub returns-in-Some-clause-bad : goal.returns-in-Some-clause-bad
returns-in-Some-clause-bad c =
    let e = c.in-Some.ensures in
    bad_at c.args.form.now c.args.line.now c.as_slice-fields.result.now c.read_words-more.new.readings c.deref.result.now c.in-Some.bad
    c.as_slice-fields.ensures.value (grind (arith, common_steps)) c.read_words-more.ensures.reads e.before e.here e.within

pub returns-then-more-clause-bad : goal.returns-then-more-clause-bad
returns-then-more-clause-bad c =
    let e = c.in_default.ensures in
    bad_past c.args.form.now c.args.line.now c.as_slice-fields.result.now c.read_words-more.new.readings c.deref.result.now c.find_cells.new.cells
    c.as_slice-fields.ensures.value (grind (arith, common_steps)) c.read_words-more.ensures.reads e.all (grind (arith, common_steps)) (c.read_words-more.ensures.more.0 c.if-more.true)

pub returns-in-Some-clause-none : goal.returns-in-Some-clause-none
returns-in-Some-clause-none c cells = not_both c.args.form.now c.args.line.now cells (c.in-Some.bad + 1) (returns-in-Some-clause-bad c)

pub returns-then-more-clause-none : goal.returns-then-more-clause-none
returns-then-more-clause-none c cells = not_both c.args.form.now c.args.line.now cells (length c.as_slice-fields.result.now + 1) (returns-then-more-clause-bad c)
