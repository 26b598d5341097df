use Rattle.std.proofs.Common.{◌∙◌}
use Rattle.tree_notes.proofs.Applied.{definition_put}
use Rattle.tree_notes.specs.declared.instances.Eraser.{Eraser}
use Rattle.ls_ast.specs.declared.tree.Plain.{Plain}
use Rattle.tree_notes.proofs.definitions.erase_definition.Goals as goal

pub returns : goal.returns
returns g c = c.in_ok-def.ensures.made ∙ (λ i. (definition_put Eraser g.row.N.Denot Plain (λ s n. record {}) c.args.def.now i (record {})).0)
