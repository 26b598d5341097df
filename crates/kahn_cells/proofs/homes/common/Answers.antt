use Rattle.kahn_cells.proofs.Maps.{common_ended}
use Rattle.kahn_cells.proofs.homes.common.Goals as goal

pub returns-in-empty : goal.returns-in-empty
returns-in-empty c = common_ended c.loop-a.done _ c.loop-a.rest.now _ c.in-empty.len_below c.loop-a.invariant
