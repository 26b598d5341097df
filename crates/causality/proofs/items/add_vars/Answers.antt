use Rattle.std.proofs.Common.{◌<◌, length, subst}
use Rattle.causality.specs.Items as spec
use Rattle.causality.proofs.Pushed.{listed_next}
use Rattle.causality.proofs.items.add_vars.Goals as goal

pub loop-k-preserved : goal.loop-k-preserved
loop-k-preserved c =
    listed_next spec.var_row (length c.args.d.now.places.vars) c.loop-k.k c.loop-k.out c.push.new.self _
    (subst (λ z. c.loop-k.k < z) c.len-k-end.ensures.value c.loop-k-test.true) c.in_ok-push.ensures.ok c.loop-k.invariant
