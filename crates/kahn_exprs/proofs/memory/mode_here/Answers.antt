use Rattle.std.specs.Prelude.{None, Some}
use Rattle.std.proofs.Common.{◌∙◌, refl}
use Rattle.ls_places.specs.Search as search
use Rattle.kahn_exprs.proofs.Here.{mode_at, ok_same}
use Rattle.kahn_exprs.proofs.memory.mode_here.Goals as goal

pub returns-in-Some : goal.returns-in-Some
returns-in-Some c =
    let b = c.args.body.now in
    c.on.ensures ∙ mode_at b c.args.m c.args.place.now c.args.i (Some c.in-Some.ck.now) (search.tested_outside b.def.now c.args.m) c.in-Some.ensures refl

pub returns-in-Some-tested_outside : goal.returns-in-Some-tested_outside
returns-in-Some-tested_outside c = ok_same c.signal_here.result _ _
    (mode_at c.args.body.now c.args.m c.args.place.now c.args.i None (Some c.in-Some-tested_outside.x) c.in-None.ensures c.in-Some-tested_outside.ensures) c.signal_here.ensures

pub returns-in-None-tested_outside : goal.returns-in-None-tested_outside
returns-in-None-tested_outside c =
    c.active.ensures ∙ mode_at c.args.body.now c.args.m c.args.place.now c.args.i None None c.in-None.ensures c.in-None-tested_outside.ensures
