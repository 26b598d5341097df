use Rattle.std.proofs.Common.{◌∙◌, length}
use Rattle.term_unify.specs.Terms.{first}
use Rattle.clock_pairs.proofs.Named.{brought_first}
use Rattle.clock_pairs.proofs.index.Index.clock_name.Goals as goal

pub returns-in-Some : goal.returns-in-Some
returns-in-Some c = c.in-Some.ensures ∙ (λ i. first (c.args.self.now.clocked i) c.args.x) ∙ brought_first c.args.self.now.places.names c.args.x (length c.args.self.now.params)

pub returns-in-None : goal.returns-in-None
returns-in-None c = c.in-None.ensures ∙ (λ i. first (c.args.self.now.clocked i) c.args.x) ∙ brought_first c.args.self.now.places.names c.args.x (length c.args.self.now.params)
