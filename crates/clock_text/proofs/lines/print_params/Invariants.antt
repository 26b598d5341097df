use Rattle.std.proofs.Common.{drop}
use Rattle.clock_text.specs.Texts as spec
use Rattle.text_write.proofs.Writing.{Halfway}
use Rattle.clock_text.proofs.lines.print_params.Given as goal

abbrev pub invariant-loop-i : goal.invariant-loop-i
invariant-loop-i g l =
    Halfway l.fn.ok l.so_far (g.K.Sink.written l.initial.out) (g.K.Sink.written l.out) (g.K.Sink.count l.initial.out) (g.K.Sink.count l.out)
    (spec.params_text (spec.spelling l.by) l.marks l.i (drop l.i l.list)) (spec.params_text (spec.spelling l.by) l.marks 0 l.list)
