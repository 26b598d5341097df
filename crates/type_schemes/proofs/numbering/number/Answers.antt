use Rattle.std.proofs.Common.{◌∙◌}
use Rattle.std.proofs.lemmas.Iterator.Adapters.{position_from-zero}
use Rattle.std.specs.Prelude.{nat_eq}
use Rattle.type_schemes.proofs.Firsts.{number_none, number_some}
use Rattle.type_schemes.proofs.numbering.number.Goals as goal

pub returns-in-None : goal.returns-in-None
returns-in-None c = number_none c.args.first c.args.x c.args.seen.now.keys (c.in-None.ensures.index ∙ position_from-zero (nat_eq c.args.x) c.args.seen.now.keys)

pub returns-in_ok-added-in-Some : goal.returns-in_ok-added-in-Some
returns-in_ok-added-in-Some c =
    number_some c.args.first c.args.x c.args.seen.now.keys c.in-Some.at c.in_ok-added-in-Some.field-0 (c.in-Some.ensures.index ∙ position_from-zero (nat_eq c.args.x) c.args.seen.now.keys) c.in_ok-added-in-Some.ensures
