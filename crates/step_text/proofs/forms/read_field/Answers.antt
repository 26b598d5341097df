use Rattle.std.proofs.Common.{◌≡◌, ℕ, Option, ◌∙◌, ap, Some, ◌++◌}
use Rattle.step_text.specs.Entries.{on_words, signal_words}
use Rattle.step_text.proofs.FormLemmas.{signal_back}
use Rattle.step_text.proofs.forms.read_field.Goals as goal

pub returns-clause-back : goal.returns-clause-back
returns-clause-back c = λ line h.
    let n = c.number.ensures.back line.slot (signal_words line.signal ++ on_words line.on) h.2.0 h.1 in
    let s = signal_back line.signal line.on c.number.new.self c.read_signal.new.words c.read_signal.result c.read_signal.ensures.some c.read_signal.ensures.none h.2.1 n.1 in
    let n_was = c.in_ok-slot.was in
    let s_was = c.in_ok-signal.was in
    let n_is : c.in_ok-slot.slot ≡ line.slot = cc in
    let s_is : c.in_ok-signal.signal ≡ line.signal = cc in
    (ap (λ (x : ℕ). Some (x, c.in_ok-signal.signal)) n_is ∙ ap (λ (y : Option ℕ). Some (line.slot, y)) s_is, s.1)
