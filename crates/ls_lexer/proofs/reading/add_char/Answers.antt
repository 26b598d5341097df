use Rattle.std.proofs.Common.{ℕ, List, [], ◌∷◌, refl, sym, ◌∙◌, subst}
use Rattle.ls_value.specs.Reading.{IsToken}
use Rattle.ls_lexer.proofs.reading.add_char.Goals as goal

pub returns-clause-fault : goal.returns-clause-fault
returns-clause-fault c = λ given. (
  λ x token. let P : List ℕ → Type 0 = λ bytes. IsToken 39 (x ∷ []) bytes in
      c.in-None.ensures.none x (subst P (sym (c.as_bytes.ensures.value ∙ c.in_ok-text.ensures)) token),
  refl,
)
