use Rattle.std.proofs.Common.{ap, ◌∙◌, map}
use Rattle.ls_sig.specs.declared.binder.TypeNote.{TypeNote}
use Rattle.tree_notes.specs.Noted.{in_body}
use Rattle.type_infer.specs.Inference as spec
use Rattle.type_infer.specs.declared.trees.Typer.{Typer}
use Rattle.type_rules.specs.Numbers.{Placed}
use Rattle.type_rules.specs.Principal.{typed_by}
use Rattle.type_infer.proofs.Made.{notes_typed, notes_stay, body_typed}
use Rattle.type_infer.proofs.trees.annotate.Goals as goal

abbrev typer : Typer → Placed → TypeNote
typer it n = typed_by (spec.type_of it.solution.now) n

pub returns-clause-notes : goal.returns-clause-notes
returns-clause-notes c =
    c.in_ok-notes.ensures.made ∙ notes_typed typer c.as_slice.result.now (record { solution = c.args.solution })
    ∙ ap (map (typed_by (spec.type_of c.args.solution.now))) c.as_slice.ensures.value

pub returns-clause-body : goal.returns-clause-body
returns-clause-body c =
    c.in_ok-body.ensures.made ∙ body_typed typer c.args.numbered.now.body c.renote_notes.new.by
    ∙ ap (λ k. in_body Placed TypeNote (typer k) c.args.numbered.now.body) (c.in_ok-notes.ensures.next ∙ notes_stay typer c.as_slice.result.now (record { solution = c.args.solution }))
