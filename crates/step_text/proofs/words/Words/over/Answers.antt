use Rattle.std.proofs.Common.{sym, ◌∙◌, true≢false}
use Rattle.step_text.proofs.WordLemmas.{nothing_left}
use Rattle.step_text.proofs.words.Words.over.Goals as goal

pub returns-in-Some : goal.returns-in-Some
returns-in-Some c = (λ h. absurd (true≢false (sym h)), λ e. let none = nothing_left c.self.inside.rest (c.self.view_is ∙ e) in let some = c.in-Some.is in absurd (cc))
