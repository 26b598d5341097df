use Rattle.std.proofs.Common.{drop, true}
use Rattle.lsc_cli.specs.Check.{all_lines}
use Rattle.text_write.proofs.Writing.{Halfway}
use Rattle.lsc_cli.proofs.check.write_signatures.Given as goal

abbrev pub invariant-loop-sig : goal.invariant-loop-sig
invariant-loop-sig g l =
    Halfway true l.fine (g.K.Sink.written l.initial.out) (g.K.Sink.written l.out) (g.K.Sink.count l.initial.out) (g.K.Sink.count l.out)
    (all_lines l.names l.enums l.constructors (drop l.sig-index l.sigs)) (all_lines l.names l.enums l.constructors l.sigs)
