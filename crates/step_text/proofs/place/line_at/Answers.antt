use Rattle.std.proofs.Common.{◌≤◌, arith}
use Rattle.step_text.specs.Lines.{bodies_size, lines_in, slots_in}
use Rattle.step_text.proofs.Places.{lines_few, slots_few}
use Rattle.step_text.proofs.place.line_at.Goals as goal

pub overflow_add-result-in-BodyLine-2 : goal.overflow_add-result-in-BodyLine-2
overflow_add-result-in-BodyLine-2 c =
    let slots : slots_in c.args.draft.now.bodies c.in-BodyLine.body ≤ bodies_size c.args.draft.now.bodies = slots_few c.args.draft.now.bodies c.in-BodyLine.body in
    let before = c.before_body-in-BodyLine.ensures.few in
    let size = c.requires.short in
    let is = c.body_slots.ensures in
    omega arith

pub overflow_add-result-in-BodyLine-3 : goal.overflow_add-result-in-BodyLine-3
overflow_add-result-in-BodyLine-3 c =
    let slots : slots_in c.args.draft.now.bodies c.in-BodyLine.body ≤ bodies_size c.args.draft.now.bodies = slots_few c.args.draft.now.bodies c.in-BodyLine.body in
    let lines : lines_in c.args.draft.now.bodies c.in-BodyLine.body ≤ bodies_size c.args.draft.now.bodies = lines_few c.args.draft.now.bodies c.in-BodyLine.body in
    let there = rw c.in-BodyLine.is at c.requires.there in
    let lt = there.1 in
    let before = c.before_body-in-BodyLine.ensures.few in
    let size = c.requires.short in
    let is = c.body_slots.ensures in
    omega arith
