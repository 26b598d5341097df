use Rattle.std.proofs.Common.{◌∙◌}
use Rattle.term_unify.specs.Terms.{first}
use Rattle.tree_notes.proofs.Applied as Ap
use Rattle.clock_rules.specs.Instances.{in_note}
use Rattle.clock_infer.specs.declared.puts.Putting.{Putting}
use Rattle.clock_infer.proofs.puts.put_body.Goals as goal

pub returns : goal.returns
returns c = c.in_ok-body.ensures.made ∙ (λ i. (Ap.body_put _ _ _ (λ (it : Putting) n. in_note (first it.by.now.list) n) c.args.body.now i (record { by = c.args.by })).0)
