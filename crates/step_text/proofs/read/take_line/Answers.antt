use Rattle.std.proofs.Common.{ℕ, List, ◌+◌, refl, sym, subst}
use Rattle.ls_value.proofs.Numbers.{to_the_end}
use Rattle.step_text.specs.Text.{IsTaken}
use Rattle.step_text.proofs.ReadLemmas.{line_missing, line_refused, line_taken}
use Rattle.step_text.proofs.read.take_line.Goals as goal

pub returns-then-branch-clause-taken : goal.returns-then-branch-clause-taken
returns-then-branch-clause-taken c =
    let split = c.in-Some.ensures.some in
    let got = c.in_ok-take_words-in-Some.ensures.taken c.if-branch.true in
    subst
    (λ (more : List ℕ). IsTaken c.args.reading.now c.args.text.now c.take_words.new.reading more)
    (sym (to_the_end c.args.text.now (c.in-Some.end + 1)))
    (line_taken c.args.text.now c.in-Some.end c.args.reading.now c.take_words.new.reading split.0 got)

pub returns-else-branch-clause-none : goal.returns-else-branch-clause-none
returns-else-branch-clause-none c =
    let split = c.in-Some.ensures.some in
    let refused = c.in_ok-take_words-in-Some.ensures.refused c.if-branch.false in
    (line_refused c.args.text.now c.in-Some.end c.args.reading.now split.0 split.1 refused.0, refused.1)

pub returns-in-None-clause-none : goal.returns-in-None-clause-none
returns-in-None-clause-none c = (line_missing c.args.text.now c.args.reading.now c.in-None.ensures.none, refl)
