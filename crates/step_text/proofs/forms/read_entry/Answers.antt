use Rattle.std.proofs.Common.{◌≡◌, ℕ, List, ◌∙◌, sym, subst, IfOk, IfSome}
use Rattle.step_text.specs.Entries.{entry_words}
use Rattle.step_text.specs.Legal.{IsEntry}
use Rattle.step_text.proofs.forms.read_entry.Goals as goal

pub returns-in-Some-clause-found : goal.returns-in-Some-clause-found
returns-in-Some-clause-found c =
    let all = sym c.new-words.ensures ∙ c.in-Some.ensures.word in
    subst (λ (ws : List (List ℕ)). IfOk c.read_from.result (λ found. IfSome found (λ e. (ws ≡ entry_words e) × IsEntry e))) (sym all) c.read_from.ensures.found

pub returns-in-Some-clause-back : goal.returns-in-Some-clause-back
returns-in-Some-clause-back c = λ e legal h. let all = sym c.new-words.ensures ∙ c.in-Some.ensures.word in c.read_from.ensures.back e legal (sym all ∙ h)
