use Rattle.std.proofs.Common.{rules, ◌≡◌, ◌∙◌, ap, w64, to_z, of_z}
use Rattle.sum_model.specs.Running.{node_on}
use Rattle.sum_model.proofs.RunningLemmas.{at_start}
use Rattle.sum_model.proofs.machine.Machine.new.Goals as goal

pub returns : goal.returns
returns c =
    let first : to_z w64 (of_z w64 c.args.body.first) ≡ c.args.body.first = search rules in
    ap (node_on c.args.body) first ∙ at_start c.args.body
