use Rattle.std.proofs.Common.{arith}
use Rattle.std.proofs.lemmas.Grind.{common_steps}
use Rattle.line_io.proofs.RowLemmas.{put_all, put_front}
use Rattle.line_io.proofs.row.put.Goals as goal

pub returns-in-Ok-clause-all : goal.returns-in-Ok-clause-all
returns-in-Ok-clause-all g c =
    put_all _ (g.K.Sink.written c.write_all.new.out) _ c.as_slice.result.now c.args.bytes.now c.args.pending.now.items _ (grind (arith, common_steps)) (grind (arith, common_steps)) c.in_default.ensures.written c.in-Ok.ensures.written

pub returns-in-Err-write_all-clause-front : goal.returns-in-Err-write_all-clause-front
returns-in-Err-write_all-clause-front g c =
    put_front _ (g.K.Sink.written c.write_all.new.out) _ c.as_slice.result.now c.args.bytes.now c.args.pending.now.items (grind (arith, common_steps)) c.in_default.ensures.written c.in-Err-write_all.ensures.front
