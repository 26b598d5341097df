use Rattle.std.proofs.Common.{◌∙◌, ap}
use Rattle.kahn_exprs.specs.Body as spec
use Rattle.kahn_exprs.proofs.Around.{too_is}
use Rattle.kahn_exprs.proofs.memory.restarts.Goals as goal

pub returns : goal.returns
returns c =
    let b = c.args.body.now in
    c.again_too.ensures ∙ ap (λ z. spec.too_now b z c.args.too.now c.args.i) c.again.ensures ∙ too_is b (spec.again b c.args.place.now) c.args.too.now c.args.i
