use Rattle.std.proofs.Common.{◌∙◌, sym, ap}
use Rattle.std.proofs.lemmas.List.{drop_all}
use Rattle.clock_pairs.specs.Sight.{last_of}
use Rattle.clock_pairs.proofs.Sighted.{last_is}
use Rattle.clock_pairs.proofs.equations.innermost.Goals as goal

pub returns : goal.returns
returns c = ap (last_of c.loop-arm.last) (sym (drop_all c.loop-arm.arm-index c.args.arms.now c.loop-arm-test.false)) ∙ c.loop-arm.invariant ∙ last_is c.args.arms.now
