use Rattle.std.proofs.Common.{◌≡◌, ℕ, List, [], ◌∷◌, ◌++◌, ◌∙◌, true, sym, ap, subst, All, append_assoc, rules}
use Rattle.std.proofs.lemmas.List.Elements.{All-append}
use Rattle.step_text.specs.Legal.{IsConstructor}
use Rattle.step_text.proofs.FormLemmas.{all_one, by_not}
use Rattle.step_text.proofs.forms.read_cases.Goals as goal

pub loop-word-preserved : goal.loop-word-preserved
loop-word-preserved c =
    let now = c.in-Some.ensures.word in
    let word = c.in-Some.word.now in
    let cases = c.loop-word.cases in
    let test = c.if-not-branch.false in
    let is_true : c.in_ok-is_constructor.field-0 ≡ true = search (rules, by_not) in
    let constructor = c.in_ok-is_constructor.ensures.0 is_true in
    let bytes_is = c.in_ok-bytes_of.ensures in
    let cases_is = c.in_ok-push.ensures.ok in
    record {
      read =
          c.loop-word.invariant.read ∙ ap (λ (ws : List (List ℕ)). c.loop-word.cases ++ ws) now ∙ sym (append_assoc c.loop-word.cases (c.in-Some.word.now ∷ []) c.next.new.self)
          ∙ ap (λ (w : List ℕ). (c.loop-word.cases ++ w ∷ []) ++ c.next.new.self) (sym bytes_is) ∙ ap (λ (ws : List (List ℕ)). ws ++ c.next.new.self) (sym cases_is);
      legal =
          subst (All IsConstructor) (sym cases_is)
          (All-append IsConstructor c.loop-word.cases (c.in_ok-bytes_of.field-0 ∷ []) c.loop-word.invariant.legal (all_one IsConstructor c.in_ok-bytes_of.field-0 (subst IsConstructor (sym bytes_is) constructor)));
    }
