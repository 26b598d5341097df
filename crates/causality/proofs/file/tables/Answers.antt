use Rattle.std.specs.Prelude.{◌≡◌, IfOk}
use Rattle.std.proofs.Common.{◌∙◌, subst}
use Rattle.ls_places.specs.declared.definition.Definition.{Definition}
use Rattle.causality.proofs.file.tables.Goals as goal

pub returns : goal.returns
returns c = subst (λ (z : Definition). IfOk c.new-2.result (λ r. r ≡ z)) (c.in_ok-known.ensures ∙ c.in_ok-def.ensures) c.new-2.ensures
