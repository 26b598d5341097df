use Rattle.std.proofs.Common.{◌≡◌, suc, length, arith, ap, ◌∙◌}
use Rattle.clock_pairs.proofs.Sighted.{best, sight_is}
use Rattle.clock_pairs.proofs.arms.signal_in.Goals as goal

pub returns : goal.returns
returns g c =
    let e : c.loop-end.end ≡ suc (length c.args.here.now) = omega (arith, c.loop-end-test.false, c.loop-end.auto.end-end) in
    c.loop-end.invariant ∙ ap (λ n. best c.args.x c.args.here.now n c.args.scene.now.index.now.places.vars 0) e ∙ sight_is c.args.x c.args.here.now c.args.scene.now.index.now.places.vars 0
