use Rattle.std.proofs.Common.{◌∙◌}
use Rattle.term_unify.specs.Terms.{first}
use Rattle.clock_pairs.proofs.Named.{owner_named}
use Rattle.clock_pairs.proofs.index.Index.param_named.Goals as goal

pub returns-in-Some : goal.returns-in-Some
returns-in-Some c = c.in-Some.ensures ∙ (λ i. first (c.args.self.now.named i) c.args.x) ∙ owner_named c.args.self.now.params c.args.x 0

pub returns-in-None : goal.returns-in-None
returns-in-None c = c.in-None.ensures ∙ (λ i. first (c.args.self.now.named i) c.args.x) ∙ owner_named c.args.self.now.params c.args.x 0
