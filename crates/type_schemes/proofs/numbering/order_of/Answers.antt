use Rattle.type_schemes.proofs.Firsts.{order_is}
use Rattle.type_schemes.proofs.numbering.order_of.Goals as goal

pub returns : goal.returns
returns c = order_is c.args.params.now c.args.to.now c.new-seen.result.keys c.appear_all.new.seen.keys c.appear.new.seen.keys c.new-seen.ensures.empty c.in_ok-appear_all.ensures c.in_ok-appear.ensures
