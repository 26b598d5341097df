use Rattle.std.specs.Prelude.{◌≡◌, ℕ, length, List, Option}
use Rattle.ls_ast.specs.declared.tree.BodyOf.{BodyOf}
use Rattle.ls_ast.specs.declared.tree.Expr.{Expr}
use Rattle.ls_ast.specs.declared.tree.Pat.{Pat}
use Rattle.ls_terms.specs.declared.clocks.ClockTerm.{ClockTerm}
use Rattle.ls_sig.specs.declared.binder.Note.{Note}
use Rattle.ls_places.specs.Clocks.{is_signal}
use Rattle.ls_places.specs.Places.{find}
use Rattle.ls_places.specs.declared.definition.Definition.{Definition}
use Rattle.ls_places.specs.declared.places.Places.{Places}
use Rattle.std.proofs.Common.{◌∙◌, ap}
use Rattle.ls_places.specs.Definitions.{definition_of, note_clocks}
use Rattle.case_tables.specs.Cases.{place}
use Rattle.causality.proofs.file.definition.Goals as goal

abbrev made_of : List Pat → List ClockTerm → Expr Note → Places Note → Definition
made_of a b c d = record { params = a; clocks = b; result = c; places = d }

made : (cases : ℕ → Option ℕ) (params copied : List Pat) (notes : List Note) (clocks : List ClockTerm) (body : BodyOf Note) (result : Expr Note) (places : Places Note) (n : ℕ)
    → copied ≡ params → clocks ≡ note_clocks notes → result ≡ body.result → n ≡ length params → places ≡ find Note n cases (λ e. is_signal e.note) body
    → made_of copied clocks result places ≡ definition_of cases params notes body
made cases params copied notes clocks body result places n p k r len f =
    ap (λ z. made_of z clocks result places) p ∙ ap (λ z. made_of params z result places) k ∙ ap (λ z. made_of params (note_clocks notes) z places) r
    ∙ ap (λ z. made_of params (note_clocks notes) body.result z) (f ∙ ap (λ z. find Note z cases (λ e. is_signal e.note) body) len)

pub returns : goal.returns
returns c =
    made (place c.args.cases.now) c.args.params.now c.in_ok-copy.field-0 c.args.notes.now c.in_ok-note_clocks.field-0 c.args.body.now c.in_ok-copy-2.field-0 c.in_ok-places.places _
    c.in_ok-copy.ensures c.in_ok-note_clocks.ensures c.in_ok-copy-2.ensures c.len.ensures.value c.in_ok-places.ensures.found
