use Rattle.node_lines.proofs.Clocked.{by_clocks}
use Rattle.node_lines.proofs.laws.arguments_go_by_clocks.Goals as goal

pub returns : goal.returns
returns c = by_clocks
