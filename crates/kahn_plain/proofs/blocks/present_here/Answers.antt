use Rattle.std.proofs.Common.{◌∙◌}
use Rattle.kahn_plain.proofs.Guards.{none_tested}
use Rattle.kahn_plain.proofs.blocks.present_here.Goals as goal

pub returns-in-empty : goal.returns-in-empty
returns-in-empty c = c.active.ensures ∙ none_tested c.args.body.now c.args.all.now c.args.place.now c.args.i c.in-empty.len_below
