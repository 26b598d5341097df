use Rattle.std.proofs.Common.{◌∙◌, ◌<◌, ap, length, subst}
use Rattle.ls_places.specs.Search as spec
use Rattle.place_tables.specs.Groups.{group, picked}
use Rattle.place_tables.proofs.Lacking.{all_next}
use Rattle.place_tables.proofs.tables.all_lacks.Goals as goal

pub loop-x-preserved : goal.loop-x-preserved
loop-x-preserved c =
    let d = c.args.d.now in
    all_next (λ x. spec.lacks d (picked d.places.sites (group c.args.sites.now x))) (length d.places.vars) c.loop-x.x c.loop-x.done _ c.in_ok-lacks.field-0 _ (subst (λ z. c.loop-x.x < z) c.len-x-end.ensures.value c.loop-x-test.true) c.in_ok-push.ensures.ok
    (c.in_ok-lacks.ensures ∙ ap (λ z. spec.lacks d (picked d.places.sites z)) c.group.ensures.value) c.loop-x.invariant
