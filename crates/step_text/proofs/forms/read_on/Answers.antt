use Rattle.std.proofs.Common.{◌≡◌, ℕ, List, [], ◌∷◌, ◌++◌, ◌∙◌, Some, sym, ap, subst, All}
use Rattle.std.proofs.lemmas.List.Elements.{All-append}
use Rattle.ls_value.specs.declared.leaf.Leaf.{Leaf}
use Rattle.step_text.specs.Entries.{on_words}
use Rattle.step_text.specs.Legal.{IsAsked}
use Rattle.step_text.proofs.FormLemmas.{Left, all_one, left_next, left_over, on_more}
use Rattle.step_text.proofs.forms.read_on.Goals as goal

pub loop-word-preserved : goal.loop-word-preserved
loop-word-preserved c =
    let now = c.in-Some.ensures.word in
    let asked = c.in-Some-read_asked.asked in
    let found = c.in-Some-read_asked.ensures.found in
    let on_is = c.in_ok-push-in-Some-read_asked.ensures.ok in
    let was = c.in-Some-read_asked.is in
    record {
      read = subst (λ (on : List (ℕ × Leaf)). c.args.words.now ≡ on_words on ++ c.read_asked.new.words) (sym on_is) (on_more c.args.words.now c.loop-word.words c.read_asked.new.words c.loop-word.on c.in-Some-read_asked.asked c.loop-word.invariant.read (now ∙ found.0));
      legal = subst (All IsAsked) (sym on_is) (All-append IsAsked c.loop-word.on (c.in-Some-read_asked.asked ∷ []) c.loop-word.invariant.legal (all_one IsAsked c.in-Some-read_asked.asked found.1));
      back = λ all h e.
          let n = left_next c.loop-word.on c.loop-word.words c.in-Some.word.now c.next.new.self c.read_asked.new.words c.read_asked.result all c.read_asked.ensures.back now (c.loop-word.invariant.back all h e) in
          let is_found = n.is_found in
          let same : c.in-Some-read_asked.asked ≡ n.asked = cc in
          subst (λ (on : List (ℕ × Leaf)). Left on c.read_asked.new.words all) (ap (λ (a : ℕ × Leaf). c.loop-word.on ++ a ∷ []) (sym same) ∙ sym on_is) n.left;
    }

pub returns-in-None-clause-back : goal.returns-in-None-clause-back
returns-in-None-clause-back c = λ all h e.
    let n = left_next c.loop-word.on c.loop-word.words c.in-Some.word.now c.next.new.self c.read_asked.new.words c.read_asked.result all c.read_asked.ensures.back c.in-Some.ensures.word (c.loop-word.invariant.back all h e) in
    let is_found = n.is_found in
    let none = c.in-None.is in
    absurd (cc)

pub returns-clause-back : goal.returns-clause-back
returns-clause-back c = λ all h e. ap (λ (on : List (ℕ × Leaf)). Some on) (left_over c.loop-word.on c.loop-word.words all c.in_default.ensures.none.0 (c.loop-word.invariant.back all h e))
