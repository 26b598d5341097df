use Rattle.std.proofs.Common.{◌∙◌, ◌++◌, ap, sym, drop}
use Rattle.std.proofs.lemmas.List.{append-nil, drop_all}
use Rattle.clock_pairs.proofs.Calling.{meet_none}
use Rattle.clock_pairs.specs.Scene as spec
use Rattle.clock_pairs.proofs.calls.add_meet.Goals as goal

pub returns : goal.returns
returns g c =
    let P = g.C.CasePlaces.place in
    sym (append-nil c.loop-at.out)
    ∙ ap (λ z. c.loop-at.out ++ z) (sym (ap (spec.meet P c.args._scene.now (drop c.loop-at.at c.args.clocks.now)) (drop_all c.loop-at.at c.args.args.now c.loop-at-test.false) ∙ meet_none P c.args._scene.now (drop c.loop-at.at c.args.clocks.now)))
    ∙ c.loop-at.invariant
