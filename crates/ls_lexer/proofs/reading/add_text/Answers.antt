use Rattle.std.proofs.Common.{ℕ, List, refl, sym, ◌∙◌, subst}
use Rattle.ls_value.specs.Reading.{IsToken}
use Rattle.ls_lexer.proofs.reading.add_text.Goals as goal

pub returns-clause-fault : goal.returns-clause-fault
returns-clause-fault c = λ given.
    let characters = c.requires.characters.0 in
    let P : List ℕ → Type 0 = λ bytes. IsToken 34 characters bytes in
    let token = subst P (sym (c.as_bytes.ensures.value ∙ c.in_ok-text.ensures)) c.requires.characters.1 in
    ((characters, c.requires.characters.1, c.in-None.ensures.none characters token), refl)
