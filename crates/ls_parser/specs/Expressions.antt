-- What is read of an expression. `n` is the number of all tokens, which bounds each repetition; R reads the parts.
use Rattle.std.specs.Prelude.{ℕ, zero, suc, List, [], ◌∷◌, Option, Some, None, Bool, true, false, not, ◌&&◌, max, length, nat_lt, nat_eq, unwrap_or, if◌then◌else◌}
use Rattle.std.specs.Option.{option_map}
use Rattle.ls_ast.specs.declared.tree.Case.{Case}
use Rattle.ls_ast.specs.declared.tree.Case.TheVariants as case
use Rattle.ls_ast.specs.declared.tree.Form.TheVariants as form
use Rattle.ls_base.specs.declared.Name.{Name}
use Rattle.ls_lexer.specs.declared.token.Fixed.{Fixed}
use Rattle.ls_lexer.specs.declared.token.Fixed.TheVariants.{KwElse, KwEvery, KwFalse, KwIf, KwLast, KwMerge, KwNot, KwPre, KwRun, KwThen, KwTrue, ParenLeft, ParenRight, Comma, Minus, Arrow, Question}
use Rattle.ls_lexer.specs.declared.token.Token.{Token}
use Rattle.ls_lexer.specs.declared.token.Token.TheVariants.{Fixed as Word, Id, Cons, Prefix}
use Rattle.ls_ops.specs.declared.kinds.Op.{Op}
use Rattle.ls_ops.specs.declared.kinds.Op.TheVariants as op
use Rattle.ls_value.specs.declared.leaf.Leaf.TheVariants as leaf
use Rattle.ls_parser.specs.declared.level.Level.{Level}
use Rattle.ls_parser.specs.declared.level.Level.TheVariants.{Expr, Delay, Unary, App, Atom}
use Rattle.ls_parser.specs.declared.level.Infix.{Infix}
use Rattle.ls_parser.specs.declared.level.Infix.TheVariants as between
use Rattle.ls_parser.specs.Levels.{rank, left, right, infix_of, level_of}
use Rattle.ls_parser.specs.Making.{Tree, node, constant, chosen, unary, binary, previous, applied, merged, operands, simple}
use Rattle.ls_parser.specs.Reading.{◌>>=◌, Reader, uncons, starts, is_word, word, name, constructor, taller, behind, both, form_of, collect}

-- whether a word begins an atom
abbrev pub opens : Fixed → Bool
opens KwTrue = true
opens KwFalse = true
opens KwLast = true
opens Question = true
opens ParenLeft = true
opens _ = false

abbrev pub opens_atom : Token → Bool
opens_atom (Word w) = opens w
opens_atom (Prefix op) = false
opens_atom _ = true

-- whether an atom begins
unfoldable pub begins_atom : List Token → Bool
begins_atom [] = false
begins_atom (t ∷ ts) = opens_atom t

abbrev pub opens_call : Token → Bool
opens_call (Id x) = true
opens_call (Word w) = is_word KwRun (Word w)
opens_call _ = false

-- whether a name or `run` stands first
unfoldable pub begins_call : List Token → Bool
begins_call [] = false
begins_call (t ∷ ts) = opens_call t

abbrev pub is_constructor : Token → Bool
is_constructor (Cons x) = true
is_constructor _ = false

abbrev pub begins_case : List Token → Bool
begins_case [] = false
begins_case (t ∷ ts) = is_constructor t && starts Arrow ts

-- whether a branch of a merge begins: a parenthesis, a constructor and an arrow
unfoldable pub begins_branch : List Token → Bool
begins_branch [] = false
begins_branch (t ∷ ts) = is_word ParenLeft t && begins_case ts

-- the operator that stands first behind an operand
unfoldable pub infix_at : List Token → Option (Infix × List Token)
infix_at [] = None
infix_at (Word w ∷ ts) = infix_of w >>= λ o. Some (o, ts)
infix_at (_ ∷ ts) = None

abbrev pub condition_at : Token → List Token → Option ((Name × Case) × List Token)
condition_at (Id x) m = Some ((x, case.True), m)
condition_at (Cons k) m = word ParenLeft m >>= λ m. name m >>= λ p. word ParenRight p.1 >>= λ m. Some ((p.0, case.Of k), m)
condition_at _ m = None

-- a condition of `when`: a name that is true, or a name of which a constructor is the case
unfoldable pub condition : List Token → Option ((Name × Case) × List Token)
condition ts = uncons ts >>= λ p. condition_at p.0 p.1

-- whether an operator goes on from a phrase of the level `from` inside one of the level `least`
abbrev pub goes_on : Level → Level → Infix → Bool
goes_on least from o = not (nat_lt (rank (level_of o)) (rank least)) && not (nat_lt (rank from) (rank (left (level_of o))))

-- a literal, a constructor or a name
unfoldable pub single : Reader Tree
single ts = uncons ts >>= λ p. simple p.0 >>= λ e. Some (e, 1, p.1)

module _ (n : ℕ) (R : Level → Reader Tree) where
  unfoldable pub conditional : Reader Tree
  conditional = form_of chosen (behind KwIf (both (R Expr) (behind KwThen (both (R Expr) (behind KwElse (R Expr))))))

  -- up to so many atoms
  unfoldable pub arguments : ℕ → Reader (List Tree)
  arguments limit = collect limit begins_atom (R Atom) [] 0

  -- `run` or not, a name, and atoms
  unfoldable pub call : Reader (Bool × (Name × List Tree))
  call ts =
      if starts KwRun ts then
      (word KwRun ts >>= λ m. name m >>= λ p. arguments n p.1 >>= λ x. Some ((true, (p.0, x.0)), x.1, x.2))
      else
      (name ts >>= λ p. arguments n p.1 >>= λ x. Some ((false, (p.0, x.0)), x.1, x.2))

  -- a call, or a name alone
  unfoldable pub named : Reader Tree
  named ts = call ts >>= λ x. applied x.0.0 x.0.1.0 x.0.1.1 >>= λ e. taller x.1 >>= λ h. Some (e, h, x.2)

  -- a branch of a merge
  unfoldable pub branch : Reader (Case × Tree)
  branch ts = word ParenLeft ts >>= λ m. constructor m >>= λ p. word Arrow p.1 >>= λ m. R Expr m >>= λ x. word ParenRight x.2 >>= λ m. Some ((case.Of p.0, x.0), x.1, m)

  unfoldable pub branches : Reader (List (Case × Tree))
  branches ts = branch ts >>= λ b. collect n begins_branch branch (b.0 ∷ []) b.1 b.2

  -- what stands behind `merge c`: branches, or two operands that do not begin as a branch
  unfoldable pub merge : Name → Reader Tree
  merge x ts =
      if begins_branch ts then
      (branches ts >>= λ bs. taller bs.1 >>= λ h. Some (node (form.Merge x bs.0), h, bs.2))
      else
      (R Atom ts >>= λ a. if begins_branch a.2 then None else (R Atom a.2 >>= λ b. taller (max a.1 b.1) >>= λ h. Some (merged x a.0 b.0, h, b.2)))

  -- an operator that is a word before its operands
  unfoldable pub prefixed : Op → Reader Tree
  prefixed o ts = arguments (operands o) ts >>= λ x. if nat_eq (length x.0) (operands o) then (taller x.1 >>= λ h. Some (node (form.Op o x.0), h, x.2)) else None

  -- what stands right of an operator, joined to what stands left
  unfoldable pub suffix : Infix → Tree → ℕ → Reader Tree
  suffix between.Init e h ts = R Expr ts >>= λ y. taller (max h y.1) >>= λ k. Some (node (form.Init e y.0), k, y.2)
  suffix between.Fby e h ts = R Delay ts >>= λ y. taller (max h y.1) >>= λ k. Some (node (form.Fby e y.0), k, y.2)
  suffix between.When e h ts = condition ts >>= λ c. taller h >>= λ k. Some (node (form.When e c.0.0 c.0.1), k, c.1)
  suffix between.Whenot e h ts = name ts >>= λ c. taller h >>= λ k. Some (node (form.When e c.0 case.False), k, c.1)
  suffix (between.Binary level o) e h ts = R (right level) ts >>= λ y. taller (max h y.1) >>= λ k. Some (binary o e y.0, k, y.2)

  -- the operators that follow a phrase of a level, as often as they go on, up to a number of times
  abbrev pub climb : ℕ → Level → Level → Tree → ℕ → Reader Tree
  climb zero least from e h ts = Some (e, h, ts)
  climb (suc k) least from e h ts =
      unwrap_or (option_map (λ p. if goes_on least from p.0 then (suffix p.0 e h p.1 >>= λ x. climb k least (level_of p.0) x.0 x.1 x.2) else Some (e, h, ts)) (infix_at ts)) (Some (e, h, ts))

  -- the other parts of a tuple, whose first one was read
  unfoldable pub tuple : Tree → ℕ → Reader Tree
  tuple e h ts = collect n (starts Comma) (behind Comma (R Expr)) (e ∷ []) h ts >>= λ x. word ParenRight x.2 >>= λ m. taller x.1 >>= λ k. Some (node (form.Tuple x.0), k, m)

  -- what stands behind an opening parenthesis, whose first expression was read
  unfoldable pub group_from : Tree → ℕ → Reader Tree
  group_from e h ts = if starts Comma ts then tuple e h ts else (word ParenRight ts >>= λ m. taller h >>= λ k. Some (e, k, m))

  -- what stands behind the arguments of a call with `every`
  unfoldable pub every : Bool → Name → List Tree → ℕ → Reader Tree
  every run x args h ts =
      if nat_eq (length args) 0 then None else
      (word KwEvery ts >>= λ m. R Expr m >>= λ c. word ParenRight c.2 >>= λ m. taller (max h c.1) >>= λ k. Some (node (form.Call run x args (Some c.0)), k, m))

  -- what stands behind an opening parenthesis
  unfoldable pub group : Reader Tree
  group ts =
      if starts ParenRight ts then
      (word ParenRight ts >>= λ m. Some (constant leaf.Unit, 1, m))
      else if begins_call ts then
      (call ts >>= λ x.
      if starts KwEvery x.2 then every x.0.0 x.0.1.0 x.0.1.1 x.1 x.2
      else (applied x.0.0 x.0.1.0 x.0.1.1 >>= λ e. taller x.1 >>= λ h. climb n Expr Unary e h x.2 >>= λ y. group_from y.0 y.1 y.2))
      else (R Expr ts >>= λ y. group_from y.0 y.1 y.2)

  unfoldable pub atom : Reader Tree
  atom ts =
      if starts ParenLeft ts then (word ParenLeft ts >>= group)
      else if starts KwLast ts then (word KwLast ts >>= λ m. name m >>= λ p. Some (node (form.Last p.0), 1, p.1))
      else if starts Question ts then (word Question ts >>= λ m. name m >>= λ p. Some (node (form.Asked p.0), 1, p.1))
      else single ts

  abbrev pub application_at : Token → List Token → Reader Tree
  application_at (Prefix o) m ts = prefixed o m
  application_at (Id x) m ts = named ts
  application_at (Word w) m ts = if is_word KwRun (Word w) then named ts else if is_word KwMerge (Word w) then (name m >>= λ p. merge p.0 p.1) else atom ts
  application_at _ m ts = atom ts

  unfoldable pub application : Reader Tree
  application ts = uncons ts >>= λ p. application_at p.0 p.1 ts

  unfoldable pub operand : Reader Tree
  operand ts =
      if starts Minus ts then form_of (unary op.Neg) (behind Minus (R Unary)) ts
      else if starts KwNot ts then form_of (unary op.Not) (behind KwNot (R Unary)) ts
      else if starts KwPre ts then form_of previous (behind KwPre (R Unary)) ts
      else application ts

  -- a phrase of a level
  unfoldable pub phrase : Level → Reader Tree
  phrase Atom ts = atom ts
  phrase App ts = application ts
  phrase Expr ts = if starts KwIf ts then conditional ts else (operand ts >>= λ x. climb n Expr Unary x.0 x.1 x.2)
  phrase level ts = operand ts >>= λ x. climb n level Unary x.0 x.1 x.2

-- an expression of a level, of which the parts nest up to a depth
unfoldable pub expression : ℕ → ℕ → Level → Reader Tree
expression n zero level ts = None
expression n (suc depth) level ts = phrase n (expression n depth) level ts
