use Rattle.std.proofs.Common.{◌∙◌}
use Rattle.ls_scope.proofs.Renumbered.{renumbered_none, renumbered_absent, renumbered_found}
use Rattle.ls_scope.proofs.after.renumbered.Goals as goal

pub returns-in-None : goal.returns-in-None
returns-in-None c = c.len-none.ensures.value ∙ renumbered_none c.args.names.now c.args.theirs.now c.args.x.0 c.in-None.ensures

pub returns-in-None-find : goal.returns-in-None-find
returns-in-None-find c = c.len-none.ensures.value ∙ renumbered_absent c.args.names.now c.args.theirs.now c.args.x.0 c.in-Some.spelling.now c.in-Some.ensures c.in-None-find.ensures.absent

pub returns-in-Some-find : goal.returns-in-Some-find
returns-in-Some-find c =
    renumbered_found c.args.names.now c.args.theirs.now c.args.x.0 c.in-Some.spelling.now c.in-Some.ensures c.in-Some-find.name.0 c.len-none.ensures.distinct c.in-Some-find.ensures.found
