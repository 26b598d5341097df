use Rattle.std.proofs.Common.{◌≡◌, ℕ, ◌≤◌, ◌∙◌, length, true, sym, ap, subst}
use Rattle.step_code.specs.Drafts as drafts
use Rattle.step_code.specs.declared.code.Code.{Code}
use Rattle.step_code.specs.declared.draft.Draft.{Draft}
use Rattle.step_text.specs.Lines.{size}
use Rattle.step_text.specs.Text.{IsJudged, IsRefused, IsWhole, code_text}
use Rattle.step_text.specs.declared.fault.CodeFault.{CodeFault}
use Rattle.step_text.proofs.ReadLemmas.{err_more, few_lines, few_slots, ok_more, refused, small_draft, whole_draft, whole_text}
use Rattle.step_text.proofs.read.read_code.Goals as goal

pub judge-requires-clause-formed : goal.judge-requires-clause-formed
judge-requires-clause-formed c = λ w. subst IsWhole (sym c.in-Ok-into_draft.ensures) (whole_draft c.args.bytes.now c.read_lines.new.reading c.in-Ok.read.lines c.in-Ok.read.whole c.in-Ok.ensures w)

pub judge-requires-clause-lines : goal.judge-requires-clause-lines
judge-requires-clause-lines c = few_lines c.args.bytes.now c.read_lines.new.reading c.in-Ok.read.lines c.in-Ok.read.whole c.in-Ok.ensures c.requires.short

pub judge-requires-clause-short : goal.judge-requires-clause-short
judge-requires-clause-short c = subst (λ (d : Draft). size d ≤ 4294967290) (sym c.in-Ok-into_draft.ensures) (small_draft c.args.bytes.now c.read_lines.new.reading c.in-Ok.read.lines c.in-Ok.read.whole c.in-Ok.ensures c.requires.short)

pub returns-in-Ok-into_draft-clause-accepted : goal.returns-in-Ok-into_draft-clause-accepted
returns-in-Ok-into_draft-clause-accepted c =
    ok_more
    (λ (code : Code). (drafts.draft_of code ≡ c.in-Ok-into_draft.draft) × (c.in-Ok.read.whole ≡ true))
    (λ (code : Code). c.args.bytes.now ≡ code_text (drafts.draft_of code))
    c.judge.result
    (λ code h. whole_text c.args.bytes.now c.read_lines.new.reading c.in-Ok.read.lines c.in-Ok.read.whole c.in-Ok.ensures h.1 ∙ ap code_text (sym (h.0 ∙ c.in-Ok-into_draft.ensures)))
    c.judge.ensures.ok

pub returns-in-Ok-into_draft-clause-few : goal.returns-in-Ok-into_draft-clause-few
returns-in-Ok-into_draft-clause-few c =
    ok_more
    (λ (code : Code). (drafts.draft_of code ≡ c.in-Ok-into_draft.draft) × (c.in-Ok.read.whole ≡ true))
    (λ (code : Code). length code.slots ≤ 1000000)
    c.judge.result
    (λ code h. subst (λ (n : ℕ). n ≤ 1000000) (sym (ap (λ (d : Draft). length d.slots) (h.0 ∙ c.in-Ok-into_draft.ensures)))
    (few_slots c.args.bytes.now c.read_lines.new.reading c.in-Ok.read.lines c.in-Ok.read.whole c.in-Ok.ensures h.1))
    c.judge.ensures.ok

pub returns-in-Ok-into_draft-clause-refused : goal.returns-in-Ok-into_draft-clause-refused
returns-in-Ok-into_draft-clause-refused c =
    err_more
    (λ (f : CodeFault). IsJudged c.in-Ok.read.whole c.in-Ok.read.lines c.in-Ok-into_draft.draft f)
    (λ (f : CodeFault). IsRefused c.args.bytes.now f)
    c.judge.result
    (λ f h. refused c.args.bytes.now c.read_lines.new.reading c.in-Ok.read.lines c.in-Ok.read.whole c.in-Ok.ensures f (subst (λ (d : Draft). IsJudged c.in-Ok.read.whole c.in-Ok.read.lines d f) c.in-Ok-into_draft.ensures h))
    c.judge.ensures.err
