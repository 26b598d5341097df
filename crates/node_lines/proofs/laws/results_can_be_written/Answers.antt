use Rattle.node_lines.proofs.Writing.{results_writable}
use Rattle.node_lines.proofs.laws.results_can_be_written.Goals as goal

pub returns : goal.returns
returns c = results_writable
