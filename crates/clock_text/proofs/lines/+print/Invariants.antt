use Rattle.std.proofs.Common.{drop, map}
use Rattle.clock_text.specs.Texts as spec
use Rattle.text_write.proofs.Writing.{Halfway}
use Rattle.clock_text.proofs.lines.+print.Given as goal

abbrev pub invariant-print_all-loop-t : goal.invariant-print_all-loop-t
invariant-print_all-loop-t g l =
    Halfway l.fn.ok l.so_far (g.K.Sink.written l.initial.out) (g.K.Sink.written l.out) (g.K.Sink.count l.initial.out) (g.K.Sink.count l.out)
    (spec.arrows (map (spec.shown (spec.spelling l.by)) (drop l.t-index l.all))) (spec.arrows (map (spec.shown (spec.spelling l.by)) l.all))
