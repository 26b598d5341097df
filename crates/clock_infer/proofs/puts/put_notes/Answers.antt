use Rattle.std.proofs.Common.{◌∙◌}
use Rattle.term_unify.specs.Terms.{first}
use Rattle.clock_rules.specs.Instances.{in_note}
use Rattle.clock_infer.proofs.Putting.{notes_put}
use Rattle.clock_infer.specs.declared.puts.Putting.{Putting}
use Rattle.clock_infer.proofs.puts.put_notes.Goals as goal

pub returns : goal.returns
returns c = c.in_ok-notes.ensures.made ∙ notes_put (λ (it : Putting) n. in_note (first it.by.now.list) n) (record { by = c.args.by }) c.args.notes.now
