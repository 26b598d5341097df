-- What is answered for a definition.
use Rattle.ls_places.specs.declared.definition.Definition.{Definition}
use Rattle.causality_rules.specs.Items.{Ranked, WaitsForItself}
use Rattle.causality.specs.declared.judge.Judgement.{Judgement}
use Rattle.causality.specs.declared.judge.Judgement.TheVariants as judgement

abbrev pub Decided : Definition → Judgement → Type 0
Decided d (judgement.Causal list) = Ranked d list
Decided d (judgement.Cyclic found) = WaitsForItself d found
