use Rattle.std.proofs.Common.{ap, ◌∙◌}
use Rattle.scope_rules.specs.Faults.{variables}
use Rattle.scope_rules.specs.Places.{Contents}
use Rattle.ls_scope.proofs.definition.judge.Goals as goal

pub judge_contents-requires : goal.judge_contents-requires
judge_contents-requires g c = record {
  names = c.as_slice-3.ensures.value ∙ c.in_ok-names.ensures;
  params = c.in_ok-params.ensures ∙ c.as_slice.ensures.value ∙ c.in_ok-names.ensures;
  contents = c.in_ok-contents.ensures;
  vars = c.in_ok-vars.ensures ∙ ap variables (c.as_slice-2.ensures.value ∙ ap (λ (f : Contents g.row.N.Denot). f.sites) c.in_ok-contents.ensures);
}
