use Rattle.std.proofs.Common.{arith}
use Rattle.ls_base.proofs.Written.{piece_more, rest_whole, taken_within}
use Rattle.ls_base.proofs.write.write_all.Goals as goal

pub loop-done-preserved : goal.loop-done-preserved
loop-done-preserved g c = record {
  within = taken_within c.args.from.now c.loop-done.done c.in-Ok.taken c.loop-done-test.true c.in-Ok.ensures.within;
  text = piece_more (g.K.Sink.written c.args.out.now) c.args.from.now _ c.loop-done.done c.in-Ok.taken (g.K.Sink.written c.loop-done.out) (g.K.Sink.written c.write.new.self) (rest_whole c.args.from.now c.loop-done.done) c.loop-done.invariant.text c.in-Ok.ensures.added;
  counted = omega (arith, c.loop-done.invariant.counted, c.write.ensures.counted);
}
