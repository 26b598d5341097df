use Rattle.scope_rules.proofs.InSight.{uses_in_sight}
use Rattle.scope_rules.proofs.laws.uses_are_in_sight.Goals as goal

pub returns : goal.returns
returns g c h k p e = uses_in_sight g.row.N.Denot h k p e
