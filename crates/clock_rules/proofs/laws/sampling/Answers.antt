use Rattle.clock_rules.proofs.Seen.{bare_sampled}
use Rattle.clock_rules.proofs.laws.sampling.Goals as goal

pub returns : goal.returns
returns c = record { bare = bare_sampled }
