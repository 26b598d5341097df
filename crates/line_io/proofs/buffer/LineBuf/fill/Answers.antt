use Rattle.std.proofs.Common.{length, arith, ap, sym, ◌∙◌}
use Rattle.std.proofs.lemmas.Grind.{common_steps}
use Rattle.line_io.specs.Line.{Buffer}
use Rattle.line_io.proofs.Parts.{taken_as, read_part, length-part}
use Rattle.line_io.proofs.buffer.LineBuf.fill.Goals as goal

pub returns-clause-taken : goal.returns-clause-taken
returns-clause-taken g c =
    let k = c.self.invariant in
    let held = ap (λ (b : Buffer). length b.held) c.self.view_is in
    taken_as _ _ _ _ c.in_ok-n.ensures.taken
    (read_part _ _ _ _ _ _ _ _
    (sym held ∙ length-part c.self.inside.bytes.items c.self.inside.start c.self.inside.end (omega arith))
    (grind (arith, common_steps))
    (grind (arith, common_steps))
    (grind (arith, common_steps)))
