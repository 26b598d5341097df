-- What is read of a pattern. `n` is the number of all tokens, which bounds each repetition.
use Rattle.std.specs.Prelude.{ℕ, zero, suc, [], ◌∷◌, Some, None, if◌then◌else◌}
use Rattle.ls_ast.specs.declared.tree.Pat.{Pat}
use Rattle.ls_ast.specs.declared.tree.Pat.TheVariants as pat
use Rattle.ls_lexer.specs.declared.token.Fixed.TheVariants.{ParenLeft, ParenRight, Comma, Underscore}
use Rattle.ls_parser.specs.Reading.{◌>>=◌, Reader, starts, word, name, taller, behind, collect}

-- P reads the parts.
module _ (n : ℕ) (P : Reader Pat) where
  -- the other parts of a tuple, whose first one was read
  unfoldable pub parts_from : Pat → ℕ → Reader Pat
  parts_from p h ts = collect n (starts Comma) (behind Comma P) (p ∷ []) h ts >>= λ x. word ParenRight x.2 >>= λ m. taller x.1 >>= λ k. Some (pat.Tuple x.0, k, m)

  -- what stands behind an opening parenthesis
  unfoldable pub inner : Reader Pat
  inner ts =
      if starts ParenRight ts then (word ParenRight ts >>= λ m. Some (pat.Unit, 1, m))
      else (P ts >>= λ p. if starts Comma p.2 then parts_from p.0 p.1 p.2 else (word ParenRight p.2 >>= λ m. taller p.1 >>= λ k. Some (p.0, k, m)))

  unfoldable pub layer : Reader Pat
  layer ts =
      if starts ParenLeft ts then (word ParenLeft ts >>= inner)
      else if starts Underscore ts then (word Underscore ts >>= λ m. Some (pat.Any, 1, m))
      else (name ts >>= λ p. Some (pat.Var p.0, 1, p.1))

-- a pattern, of which the parts nest up to a depth
unfoldable pub pattern : ℕ → ℕ → Reader Pat
pattern n zero ts = None
pattern n (suc depth) ts = layer n (pattern n depth) ts
