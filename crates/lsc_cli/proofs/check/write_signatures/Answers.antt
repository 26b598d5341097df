use Rattle.std.proofs.Common.{ap, sym, drop}
use Rattle.std.proofs.lemmas.List.{drop_all}
use Rattle.std.specs.Prelude.{true}
use Rattle.lsc_cli.specs.Check.{all_lines}
use Rattle.text_write.proofs.Writing.{halfway_start, halfway_end}
use Rattle.lsc_cli.proofs.SignatureLines.{line_turn}
use Rattle.lsc_cli.proofs.check.write_signatures.Goals as goal

pub loop-sig-init : goal.loop-sig-init
loop-sig-init g c = halfway_start true (g.K.Sink.written c.args.out.now) (g.K.Sink.count c.args.out.now) (all_lines c.args.names.now c.args.enums.now c.args.constructors.now c.args.sigs.now)

pub loop-sig-preserved : goal.loop-sig-preserved
loop-sig-preserved g c =
    line_turn c.args.names.now c.args.enums.now c.args.constructors.now c.args.sigs.now c.loop-sig.sig-index c.sig-item.result _ _ _ _ _ _ _ _ _ _ c.loop-sig-test.true (sym c.sig-item.is) c.write_signature-fine.ensures c.loop-sig.invariant

pub returns : goal.returns
returns g c =
    halfway_end _ _ _ _ _ _ (all_lines c.args.names.now c.args.enums.now c.args.constructors.now (drop c.loop-sig.sig-index c.args.sigs.now)) _
    (ap (λ l. all_lines c.args.names.now c.args.enums.now c.args.constructors.now l) (drop_all c.loop-sig.sig-index c.args.sigs.now c.loop-sig-test.false)) c.loop-sig.invariant
