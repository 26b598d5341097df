use Rattle.std.proofs.Common.{◌≡◌, suc, length, arith, ap, ◌∙◌}
use Rattle.type_demands.proofs.Sight.{best, sight_is}
use Rattle.type_demands.proofs.around.in_sight.Goals as goal

pub returns : goal.returns
returns g c =
    let e : c.loop-end.end ≡ suc (length c.args.here.now) = omega (arith, c.loop-end-test.false, c.loop-end.auto.end-end) in
    c.loop-end.invariant ∙ ap (λ n. best c.args.x c.args.here.now n c.args.given.now.vars.now 0) e ∙ sight_is c.args.x c.args.here.now c.args.given.now.vars.now 0
