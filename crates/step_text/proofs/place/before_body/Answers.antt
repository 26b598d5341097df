use Rattle.std.proofs.Common.{◌≡◌, ◌≤◌, ap, arith, take}
use Rattle.step_text.specs.Lines.{bodies_size}
use Rattle.step_text.proofs.Places.{bodies_take}
use Rattle.step_text.proofs.place.before_body.Goals as goal

pub bodies_size-requires : goal.bodies_size-requires
bodies_size-requires c =
    let less : bodies_size (take c.args.body c.as_slice.result.now) ≤ bodies_size c.as_slice.result.now = bodies_take c.args.body c.as_slice.result.now in
    let same : bodies_size c.as_slice.result.now ≡ bodies_size c.args.draft.now.bodies = ap bodies_size c.as_slice.ensures.value in
    let short = c.requires.short in
    omega arith

pub overflow_add-result : goal.overflow_add-result
overflow_add-result c =
    let less : bodies_size (take c.args.body c.as_slice.result.now) ≤ bodies_size c.as_slice.result.now = bodies_take c.args.body c.as_slice.result.now in
    let same : bodies_size c.as_slice.result.now ≡ bodies_size c.args.draft.now.bodies = ap bodies_size c.as_slice.ensures.value in
    let short = c.requires.short in
    let front = c.front_size.ensures in
    let bodies = c.bodies_size.ensures in
    omega arith

pub returns-clause-few : goal.returns-clause-few
returns-clause-few c =
    let less : bodies_size (take c.args.body c.as_slice.result.now) ≤ bodies_size c.as_slice.result.now = bodies_take c.args.body c.as_slice.result.now in
    let same : bodies_size c.as_slice.result.now ≡ bodies_size c.args.draft.now.bodies = ap bodies_size c.as_slice.ensures.value in
    let front = c.front_size.ensures in
    let bodies = c.bodies_size.ensures in
    omega arith
