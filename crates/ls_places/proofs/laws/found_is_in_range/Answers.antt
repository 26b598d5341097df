use Rattle.ls_places.proofs.Ranged.{found_in_range}
use Rattle.ls_places.proofs.laws.found_is_in_range.Goals as goal

pub returns : goal.returns
returns g c first cases signal body = found_in_range g.row.N.Denot first cases signal body
