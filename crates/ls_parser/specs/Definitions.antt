-- What is read of definitions. `n` is the number of all tokens, which bounds each repetition.
use Rattle.std.specs.Prelude.{◌≡◌, ℕ, zero, suc, ◌-◌, List, [], ◌∷◌, ◌++◌, Option, Some, None, Result, Ok, Err, Bool, true, false, ◌&&◌, ◌||◌, map, drop, length, max, nat_eq, unwrap_or, option_map, if◌then◌else◌}
use Rattle.ls_ast.specs.declared.tree.BodyOf.{BodyOf}
use Rattle.ls_ast.specs.declared.tree.DefOf.{DefOf}
use Rattle.ls_ast.specs.declared.tree.DefOf.TheVariants as def
use Rattle.ls_ast.specs.declared.tree.Equation.{Equation}
use Rattle.ls_ast.specs.declared.tree.Pat.{Pat}
use Rattle.ls_ast.specs.declared.tree.Plain.{Plain}
use Rattle.ls_base.specs.declared.Line.{Line}
use Rattle.ls_base.specs.declared.Name.{Name}
use Rattle.ls_lexer.specs.declared.token.Fixed.TheVariants.{KwLet, KwNode, KwRec, KwType, KwWhere, ParenLeft, Equal, Bar, Underscore}
use Rattle.ls_lexer.specs.declared.token.Token.{Token}
use Rattle.ls_lexer.specs.declared.token.Token.TheVariants.{Fixed as Word, Id}
use Rattle.ls_parser.specs.declared.level.Level.TheVariants.{Expr}
use Rattle.ls_parser.specs.declared.definitions.SyntaxFault.{SyntaxFault}
use Rattle.ls_parser.specs.declared.definitions.SyntaxFault.TheVariants as fault
use Rattle.ls_parser.specs.Equations.{equations, equation_at, doing_at, skip}
use Rattle.ls_parser.specs.Expressions.{expression}
use Rattle.ls_parser.specs.Making.{body_with, definition}
use Rattle.ls_parser.specs.Patterns.{pattern}
use Rattle.ls_parser.specs.Reading.{◌>>=◌, Reader, starts, is_word, word, name, constructor, taller, behind, collect}

abbrev pub opens : Token → Bool
opens (Id x) = true
opens (Word w) = is_word ParenLeft (Word w) || is_word Underscore (Word w)
opens _ = false

-- whether a pattern begins
unfoldable pub begins_pattern : List Token → Bool
begins_pattern [] = false
begins_pattern (t ∷ ts) = opens t

-- a constructor, which has no height
unfoldable pub case_alone : Reader Name
case_alone ts = constructor ts >>= λ p. Some (p.0, 0, p.1)

module _ (n : ℕ) where
  -- the constructors of a type
  unfoldable pub cases : Reader (List Name)
  cases ts = case_alone ts >>= λ x. collect n (starts Bar) (behind Bar case_alone) (x.0 ∷ []) x.1 x.2

  unfoldable pub enumeration : Line → Reader (DefOf Plain)
  enumeration line ts = word KwType ts >>= λ m. name m >>= λ p. word Equal p.1 >>= λ m. cases (skip Bar m) >>= λ x. taller x.1 >>= λ h. Some (def.Cases line p.0 x.0, h, x.2)

  -- the equations behind `where`, if any
  unfoldable pub conditions : ℕ → Reader (List (Equation Plain))
  conditions depth ts =
      if starts KwWhere ts then (word KwWhere ts >>= λ m. equations n (expression n depth Expr) (pattern n depth) (equation_at n depth) (doing_at n depth) false (skip KwRec m))
      else Some ([], 0, ts)

  unfoldable pub body : ℕ → Reader (BodyOf Plain)
  body depth ts = expression n depth Expr ts >>= λ e. conditions depth e.2 >>= λ q. taller (max e.1 q.1) >>= λ h. Some (body_with e.0 q.0, h, q.2)

  unfoldable pub params : ℕ → Reader (List Pat)
  params depth = collect n begins_pattern (pattern n depth) [] 0

  -- a definition behind `let`
  unfoldable pub function : ℕ → Bool → Line → Reader (DefOf Plain)
  function depth is_node line ts = name ts >>= λ p. params depth p.1 >>= λ x.
      if is_node && nat_eq (length x.0) 0 then None
      else (word Equal x.2 >>= λ m. body (depth - 1) m >>= λ b. taller (max x.1 b.1) >>= λ h. Some (definition line is_node p.0 x.0 b.0, h, b.2))

  -- a definition whose first token stands in a line; depth bounds the nesting of its parts, and is not 0
  unfoldable pub definition_at : ℕ → Line → Reader (DefOf Plain)
  definition_at depth line ts =
      if starts KwType ts then enumeration line ts
      else (word KwLet ts >>= λ m. function depth (starts KwNode m) line (skip KwNode m))

-- whether a definition may end before these tokens
unfoldable pub ends : List Token → Bool
ends [] = true
ends (t ∷ ts) = is_word KwLet t || is_word KwType t

-- a definition that may end where it does, and what stands behind it; a definition has height at most 200
unfoldable pub followed : ℕ → Line → List Token → Option (DefOf Plain × List Token)
followed n line ts = definition_at n 199 line ts >>= λ z. if ends z.2 then Some (z.0, z.2) else None

abbrev pub first_line : List (Line × Token) → Option Line
first_line [] = None
first_line (t ∷ ts) = Some t.0

-- the definitions of a file from some of its tokens on, behind those that were read, or the line where none begins; up to a number of times
abbrev pub file_from : List (Line × Token) → ℕ → List (DefOf Plain) → List (Line × Token) → Result (List (DefOf Plain)) Line
file_from all zero done ts = Ok done
file_from all (suc k) done [] = Ok done
file_from all (suc k) done (t ∷ ts) =
    unwrap_or (option_map (λ z. file_from all k (done ++ z.0 ∷ []) (drop (length all - length z.1) all)) (followed (length all) t.0 (map (λ p. p.1) (t ∷ ts)))) (Err t.0)

-- what a function returned is what reading gives, unless memory ran out
abbrev pub Finds : {X Y : Type 0} → (X → Y) → Line → Result X SyntaxFault → Option Y → Type 0
Finds view line (Ok x) read = read ≡ Some (view x)
Finds view line (Err (fault.Syntax l)) read = (l ≡ line) × (read ≡ None)
Finds view line (Err fault.NoMemory) read = Unit {0}

abbrev pub IsRead : {X : Type 0} → Result X SyntaxFault → Result X Line → Type 0
IsRead (Ok x) read = read ≡ Ok x
IsRead (Err (fault.Syntax l)) read = read ≡ Err l
IsRead (Err fault.NoMemory) read = Unit {0}
