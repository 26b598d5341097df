use Rattle.std.proofs.Common.{◌+◌, take, drop}
use Rattle.std.proofs.lemmas.List.{take-append-drop, take_more}
use Rattle.ls_scope.proofs.TwiceLaws.{repeated_here, none_repeated}
use Rattle.ls_scope.proofs.twice.repeated.Goals as goal

pub returns-then-is_in : goal.returns-then-is_in
returns-then-is_in c =
    repeated_here c.args.all.now (take c.loop-x.x-index c.args.all.now) (take (c.loop-x.x-index + 1) c.args.all.now) (drop (c.loop-x.x-index + 1) c.args.all.now) c.loop-x.seen _ c.is_in.result
    c.is_in.ensures c.loop-x.invariant.1 c.if-is_in.true (take_more c.args.all.now c.loop-x.x-index _ c.loop-x-test.true) (take-append-drop (c.loop-x.x-index + 1) c.args.all.now)

pub loop-x-preserved : goal.loop-x-preserved
loop-x-preserved c =
    none_repeated (take c.loop-x.x-index c.args.all.now) (take (c.loop-x.x-index + 1) c.args.all.now) c.loop-x.seen _ _ c.is_in.result
    c.is_in.ensures c.loop-x.invariant.1 c.if-is_in.false (take_more c.args.all.now c.loop-x.x-index _ c.loop-x-test.true) c.loop-x.invariant.0 c.in_ok-put_in.ensures
