use Rattle.std.proofs.Common.{◌∙◌}
use Rattle.kahn_cells.proofs.Lists.{guards_past, guards_within}
use Rattle.kahn_cells.proofs.search.guards_of.Goals as goal

pub returns-in-None : goal.returns-in-None
returns-in-None c = guards_past c.args.all.now c.args.k c.in-None.ensures.lookup.3

pub returns-in-Some : goal.returns-in-Some
returns-in-Some c = c.as_slice.ensures.value ∙ guards_within c.args.all.now c.args.k c.in-Some.s.now c.in-Some.ensures.lookup.3.0 c.in-Some.ensures.lookup.1
