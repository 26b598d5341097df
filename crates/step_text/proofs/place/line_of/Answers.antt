use Rattle.std.proofs.Common.{arith}
use Rattle.step_text.proofs.Places.{place_short}
use Rattle.step_text.proofs.place.line_of.Goals as goal

pub overflow_cast-result : goal.overflow_cast-result
overflow_cast-result c =
    let short = place_short c.args.draft.now c.args.place c.requires.there in
    let size = c.requires.short in
    let line = c.line_at.ensures in
    omega arith
