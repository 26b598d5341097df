use Rattle.std.proofs.Common.{drop, map}
use Rattle.type_schemes.specs.Texts as spec
use Rattle.type_schemes.proofs.Writing.{Halfway}
use Rattle.type_schemes.proofs.texts.+print.Given as goal

abbrev pub invariant-print_parts-loop-at : goal.invariant-print_parts-loop-at
invariant-print_parts-loop-at g l =
    Halfway l.fn.ok l.so_far (g.K.Sink.written l.initial.out) (g.K.Sink.written l.out) (g.K.Sink.count l.initial.out) (g.K.Sink.count l.out)
    (spec.parts_from l.at (map (spec.shown l.by.names.now l.by.enums.now) (drop l.at l.all))) (spec.parts_from 0 (map (spec.shown l.by.names.now l.by.enums.now) l.all))

abbrev pub invariant-print_params-loop-at : goal.invariant-print_params-loop-at
invariant-print_params-loop-at g l =
    Halfway l.fn.ok l.so_far (g.K.Sink.written l.initial.out) (g.K.Sink.written l.out) (g.K.Sink.count l.initial.out) (g.K.Sink.count l.out)
    (spec.arrows l.kind (map (spec.shown l.by.names.now l.by.enums.now) (drop l.at l.all))) (spec.arrows l.kind (map (spec.shown l.by.names.now l.by.enums.now) l.all))
