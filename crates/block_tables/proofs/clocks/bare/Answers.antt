use Rattle.std.proofs.Common.{◌∙◌, ◌+◌, ◌-◌, ap}
use Rattle.ls_places.specs.Clocks as spec
use Rattle.block_tables.proofs.Sampled.{bare_next}
use Rattle.block_tables.proofs.clocks.bare.Goals as goal

pub loop-i-preserved : goal.loop-i-preserved
loop-i-preserved c =
    ap (spec.bare (c.args.n - (c.loop-i._i + 1))) c.inner-rest.ensures ∙ bare_next c.args.n c.loop-i._i c.loop-i.rest.now c.loop-i-test.true ∙ c.loop-i.invariant
