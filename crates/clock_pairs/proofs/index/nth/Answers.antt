use Rattle.clock_pairs.proofs.Pairing.{looked_up}
use Rattle.clock_pairs.proofs.index.nth.Goals as goal

pub returns : goal.returns
returns g c = looked_up c.get.result c.args.all.now c.args.k c.get.ensures.lookup.3 c.get.ensures.lookup.1
