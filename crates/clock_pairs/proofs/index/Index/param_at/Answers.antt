use Rattle.std.proofs.Common.{◌∙◌, ap}
use Rattle.std.specs.Prelude.{option_map}
use Rattle.ls_places.specs.Search.{nth}
use Rattle.clock_pairs.proofs.Named.{owner, owner_at}
use Rattle.clock_pairs.proofs.index.Index.param_at.Goals as goal

pub returns-in-Some : goal.returns-in-Some
returns-in-Some c = ap (option_map owner) (c.in-Some.ensures ∙ (λ i. nth ((c.as_slice.ensures.value ∙ c.args.self.now.named) i) c.args.k)) ∙ owner_at c.args.self.now.params c.args.k 0

pub returns-in-None : goal.returns-in-None
returns-in-None c = ap (option_map owner) (c.in-None.ensures ∙ (λ i. nth ((c.as_slice.ensures.value ∙ c.args.self.now.named) i) c.args.k)) ∙ owner_at c.args.self.now.params c.args.k 0
