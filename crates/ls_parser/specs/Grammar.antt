-- The grammar. For each level of precedence, each kind of equation and each other kind of phrase there is a relation between a tree and the tokens that spell it. Each relation
-- speaks of phrases up to a height: what has no parts has height 1, and everything else 1 more than its highest part, where parentheses count as what stands in them and 1 more.
use Rattle.std.specs.Prelude.{◌≡◌, ◌≤◌, ℕ, zero, suc, List, [], ◌∷◌, ◌++◌, map, Option, Some, None, Bool, true, false, ◌⊎◌, length}
use Rattle.ls_ast.specs.declared.tree.Arm.{Arm}
use Rattle.ls_ast.specs.declared.tree.BodyOf.{BodyOf}
use Rattle.ls_ast.specs.declared.tree.Case.{Case}
use Rattle.ls_ast.specs.declared.tree.Case.TheVariants as case
use Rattle.ls_ast.specs.declared.tree.DefOf.{DefOf}
use Rattle.ls_ast.specs.declared.tree.DefOf.TheVariants as def
use Rattle.ls_ast.specs.declared.tree.Equation.{Equation}
use Rattle.ls_ast.specs.declared.tree.Equation.TheVariants as eq
use Rattle.ls_ast.specs.declared.tree.Form.TheVariants as form
use Rattle.ls_ast.specs.declared.tree.Guard.{Guard}
use Rattle.ls_ast.specs.declared.tree.Handler.{Handler}
use Rattle.ls_ast.specs.declared.tree.Pat.{Pat}
use Rattle.ls_ast.specs.declared.tree.Pat.TheVariants as pat
use Rattle.ls_ast.specs.declared.tree.Plain.{Plain}
use Rattle.ls_ast.specs.declared.tree.State.{State}
use Rattle.ls_ast.specs.declared.tree.Test.{Test}
use Rattle.ls_base.specs.declared.Line.{Line}
use Rattle.ls_base.specs.declared.Name.{Name}
use Rattle.ls_base.specs.declared.TheConstants.Name.{FALSE, TRUE}
use Rattle.ls_lexer.specs.declared.token.Fixed.{Fixed}
use Rattle.ls_lexer.specs.declared.token.Fixed.TheVariants.{KwAnd, KwAutomaton, KwClock, KwContinue, KwDo, KwDone, KwElse, KwEmit, KwEnd, KwEvery, KwFalse, KwIf, KwIn, KwLast, KwLet, KwMatch, KwMerge, KwNode, KwNot, KwPre, KwPresent, KwRec, KwReset, KwRun, KwThen, KwTrue, KwType, KwUnless, KwUntil, KwWhere, KwWith, ParenLeft, ParenRight, Comma, Equal, Minus, Arrow, Bar, Question, Underscore}
use Rattle.ls_lexer.specs.declared.token.Token.{Token}
use Rattle.ls_lexer.specs.declared.token.Token.TheVariants.{Fixed as Word, Cons, Prefix}
use Rattle.ls_ops.specs.declared.kinds.Op.{Op}
use Rattle.ls_ops.specs.declared.kinds.Op.TheVariants as op
use Rattle.ls_value.specs.declared.leaf.Leaf.TheVariants as leaf
use Rattle.ls_parser.specs.declared.level.Level.{Level}
use Rattle.ls_parser.specs.declared.level.Level.TheVariants.{Expr, Delay, Unary, App, Atom}
use Rattle.ls_parser.specs.declared.level.Infix.{Infix}
use Rattle.ls_parser.specs.declared.level.Infix.TheVariants as between
use Rattle.ls_parser.specs.Levels.{rank, left, right, infix_of, level_of}
use Rattle.ls_parser.specs.Making.{Tree, node, constant, chosen, unary, binary, previous, called, merged, operands, simple, guard, arm_of, arms_of, test_of, state_of, handler_of, body_of, definition}
use Rattle.ls_parser.specs.Notation.{Phrase, ◌▷◌, ◌◁◌, ◌⊗◌, ◌⇒◌, ◌or◌, many, some, separated, maybe, after, identifier, constructor}

-- one token, of which something is made
abbrev pub token : {A : Type 0} → (Token → Option A) → Phrase A
token f x ts = (t : Token) × (ts ≡ t ∷ []) × (f t ≡ Some x)

-- a word alone
abbrev pub sole : {A : Type 0} → Fixed → A → Phrase A
sole w value x ts = (x ≡ value) × (ts ≡ Word w ∷ [])

-- nothing but two parentheses
abbrev pub brackets : {A : Type 0} → A → Phrase A
brackets {A} value x ts = (x ≡ value) × (ts ≡ Word ParenLeft ∷ Word ParenRight ∷ [])

-- the tokens begin as a branch of a merge does
abbrev pub LooksAsBranch : List Token → Type 0
LooksAsBranch ts = (k : Name) × (others : List Token) × (ts ≡ Word ParenLeft ∷ Cons k ∷ Word Arrow ∷ others)

-- a condition of `when`: a name that is true, or a name of which a constructor is the case
abbrev pub condition : Phrase (Name × Case)
condition = (identifier ⇒ λ x. (x, case.True)) or ((constructor ⊗ (ParenLeft ▷ (identifier ◁ ParenRight))) ⇒ λ p. (p.1, case.Of p.0))

-- R is the relation of the expressions that are less high, for each level.
module _ (R : Level → Phrase Tree) where
  -- what stands right of an operator, seen as what it makes of what stands left
  abbrev pub operand : Infix → Phrase (Tree → Tree)
  operand between.Init = R Expr ⇒ λ y x. node (form.Init x y)
  operand between.Fby = R Delay ⇒ λ y x. node (form.Fby x y)
  operand between.When = condition ⇒ λ c x. node (form.When x c.0 c.1)
  operand between.Whenot = identifier ⇒ λ c x. node (form.When x c case.False)
  operand (between.Binary level o) = R (right level) ⇒ λ y x. binary o x y

  -- an operator of a level between its operands
  abbrev pub operation : Level → Phrase Tree
  operation level x ts = (w : Fixed) × (o : Infix) × (infix_of w ≡ Some o) × (level_of o ≡ level)
      × ((R (left level) ⊗ (w ▷ operand o)) ⇒ λ p. p.1 p.0) x ts

  -- a name that is applied to at least one atom
  abbrev pub call : Phrase (Bool × (Name × List Tree))
  call = (identifier ⊗ some (R Atom)) ⇒ (λ p. (false, p)) or (KwRun ▷ (identifier ⊗ some (R Atom))) ⇒ (λ p. (true, p))

  -- a branch of a merge
  abbrev pub branch : Phrase (Case × Tree)
  branch = (ParenLeft ▷ (constructor ⊗ (Arrow ▷ (R Expr ◁ ParenRight)))) ⇒ λ p. (case.Of p.0, p.1)

  -- an atom that does not look as a branch of a merge
  abbrev pub bare : Phrase Tree
  bare x ts = R Atom x ts × (LooksAsBranch ts → ⊥)

  -- the operands of an operator that is a word before them
  abbrev pub prefixed : Phrase Tree
  prefixed x ts = (o : Op) × (xs : List Tree) × (back : List Token) × (ts ≡ Prefix o ∷ back) × (length xs ≡ operands o) × many (R Atom) xs back × (x ≡ node (form.Op o xs))

  -- The phrases of a level that are of no tighter one.
  abbrev pub rule : Level → Phrase Tree
  rule Expr = (KwIf ▷ (R Expr ⊗ (KwThen ▷ (R Expr ⊗ (KwElse ▷ R Expr))))) ⇒ chosen
  rule Unary =
      (Minus ▷ R Unary) ⇒ unary op.Neg
      or (KwNot ▷ R Unary) ⇒ unary op.Not
      or (KwPre ▷ R Unary) ⇒ previous
  rule App =
      call ⇒ called None
      or prefixed
      or (KwMerge ▷ (identifier ⊗ some branch)) ⇒ (λ p. node (form.Merge p.0 p.1))
      or (KwMerge ▷ (identifier ⊗ (bare ⊗ bare))) ⇒ (λ p. merged p.0 p.1.0 p.1.1)
  rule Atom =
      token simple
      or (KwLast ▷ identifier) ⇒ (λ x. node (form.Last x))
      or (Question ▷ identifier) ⇒ (λ x. node (form.Asked x))
      or brackets (constant leaf.Unit)
      or (ParenLeft ▷ (R Expr ◁ ParenRight))
      or (ParenLeft ▷ ((R Expr ⊗ some (Comma ▷ R Expr)) ◁ ParenRight)) ⇒ (λ p. node (form.Tuple (p.0 ∷ p.1)))
      or (ParenLeft ▷ ((call ⊗ (KwEvery ▷ R Expr)) ◁ ParenRight)) ⇒ (λ p. called (Some p.1) p.0)
  rule level = operation level

-- Expressions of a level, up to a height: the phrases of the level and of each tighter one.
abbrev pub IsExpr : ℕ → Level → Phrase Tree
IsExpr zero level x ts = ⊥
IsExpr (suc height) level x ts = (own : Level) × (rank level ≤ rank own) × rule (IsExpr height) own x ts

-- The patterns of which P is the relation of those that are less high.
abbrev pub pattern : Phrase Pat → Phrase Pat
pattern P =
    identifier ⇒ pat.Var
    or sole Underscore pat.Any
    or brackets pat.Unit
    or (ParenLeft ▷ (P ◁ ParenRight))
    or (ParenLeft ▷ ((P ⊗ some (Comma ▷ P)) ◁ ParenRight)) ⇒ (λ p. pat.Tuple (p.0 ∷ p.1))

-- Patterns up to a height.
abbrev pub IsPat : ℕ → Phrase Pat
IsPat zero x ts = ⊥
IsPat (suc height) x ts = pattern (IsPat height) x ts

-- equations between which `and` stands
abbrev pub equations : Phrase (Equation Plain) → Phrase (List (Equation Plain))
equations Q = separated KwAnd Q

-- the name of an arm's case
abbrev pub case_name : Phrase Name
case_name = constructor or sole KwTrue TRUE or sole KwFalse FALSE

-- a guard of a state, by the word that begins it: the state is left where the condition is true, for a state that is entered anew by `then`
abbrev pub guarded : Phrase Tree → Fixed → Phrase (Guard Plain)
guarded E w =
    (w ▷ (E ⊗ (KwThen ▷ constructor))) ⇒ (λ p. guard p.0 true p.1)
    or (w ▷ (E ⊗ (KwContinue ▷ constructor))) ⇒ (λ p. guard p.0 false p.1)

-- a guard of a state, strong (`unless`) or weak (`until`)
abbrev pub transition : Phrase Tree → Phrase (Bool × Guard Plain)
transition E = guarded E KwUnless ⇒ (λ g. (true, g)) or guarded E KwUntil ⇒ (λ g. (false, g))

-- Guards up to a height.
abbrev pub IsGuard : ℕ → Phrase (Bool × Guard Plain)
IsGuard zero x ts = ⊥
IsGuard (suc height) x ts = transition (IsExpr height Expr) x ts

-- what stands behind the equations of a state whose guards are those of G
abbrev pub exits : Phrase (Bool × Guard Plain) → Phrase (List (Bool × Guard Plain))
exits G = sole KwDone [] or some G or (some G ◁ KwDone)

-- E, P, Q, H and G are the relations of the expressions, patterns, equations, handlers and guards that are less high. Q true is that of the equations of a `do`.
module _ (E : Phrase Tree) (P : Phrase Pat) (Q : Bool → Phrase (Equation Plain)) (H : Phrase (Handler Plain)) (G : Phrase (Bool × Guard Plain)) where
  -- a handler, up to its end
  abbrev pub handler : Phrase (Handler Plain)
  handler = H ◁ KwDone

  abbrev pub arm : Phrase (Arm Plain)
  arm = (case_name ⊗ (Arrow ▷ handler)) ⇒ (λ p. arm_of (Some p.0) p.1)

  abbrev pub other_arm : Phrase (Arm Plain)
  other_arm = (Bar ▷ (Underscore ▷ (Arrow ▷ handler))) ⇒ arm_of None

  abbrev pub test : Phrase (Test Plain)
  test = (identifier ⊗ (maybe (ParenLeft ▷ (P ◁ ParenRight)) ⊗ (Arrow ▷ handler))) ⇒ (λ p. test_of p.0 p.1.0 p.1.1)

  abbrev pub state : Phrase (State Plain)
  state = (constructor ⊗ (Arrow ▷ (H ⊗ exits G))) ⇒ (λ p. state_of p.0 p.1.0 p.1.1)

  -- `clock` and `last`, which do not stand in a `do`
  abbrev pub outer : Phrase (Equation Plain)
  outer =
      (KwClock ▷ (identifier ⊗ (Equal ▷ E))) ⇒ (λ p. eq.Clock p.0 p.1)
      or (KwLast ▷ (identifier ⊗ (Equal ▷ E))) ⇒ (λ p. eq.Initial p.0 p.1)

  abbrev pub inner : Bool → Phrase (Equation Plain)
  inner in_do =
      (P ⊗ (Equal ▷ E)) ⇒ (λ p. eq.Plain p.0 p.1)
      or (KwEmit ▷ (identifier ⊗ (Equal ▷ E))) ⇒ (λ p. eq.Emit p.0 p.1)
      or (KwReset ▷ (equations (Q in_do) ⊗ (KwEvery ▷ E))) ⇒ (λ p. eq.Reset p.0 p.1)
      or (KwMatch ▷ (E ⊗ (KwWith ▷ after Bar (separated Bar arm ⊗ (maybe other_arm ◁ KwEnd))))) ⇒ (λ p. eq.Match p.0 (arms_of p.1.0 p.1.1))
      or (KwPresent ▷ after Bar (separated Bar test ⊗ (maybe (KwElse ▷ handler) ◁ KwEnd))) ⇒ (λ p. eq.Present p.0 p.1)
      or (KwAutomaton ▷ after Bar (separated Bar state ◁ KwEnd)) ⇒ eq.Automaton

  -- in_do: an equation of a `do`
  abbrev pub equation : Bool → Phrase (Equation Plain)
  equation true = inner true
  equation false = outer or inner false

  -- what stands between `let` and `in`
  abbrev pub locals : Phrase (List (Equation Plain))
  locals = KwLet ▷ after KwRec (equations (Q false) ◁ KwIn)

  -- a handler without its end
  abbrev pub doing : Phrase (Handler Plain)
  doing = (maybe locals ⊗ (KwDo ▷ maybe (equations (Q true)))) ⇒ (λ p. handler_of p.0 p.1)

abbrev mutual
  -- Equations up to a height, in a `do` or elsewhere.
  pub IsEquation : ℕ → Bool → Phrase (Equation Plain)
  IsEquation zero in_do x ts = ⊥
  IsEquation (suc height) in_do x ts = equation (IsExpr height Expr) (IsPat height) (IsEquation height) (IsHandler height) (IsGuard height) in_do x ts

  -- Handlers without their end, up to a height.
  pub IsHandler : ℕ → Phrase (Handler Plain)
  IsHandler zero x ts = ⊥
  IsHandler (suc height) x ts = doing (IsExpr height Expr) (IsPat height) (IsEquation height) (IsHandler height) (IsGuard height) x ts

-- the body of a definition, up to a height
abbrev pub IsBody : ℕ → Phrase (BodyOf Plain)
IsBody zero x ts = ⊥
IsBody (suc height) x ts = ((IsExpr height Expr ⊗ maybe (KwWhere ▷ after KwRec (equations (IsEquation height false)))) ⇒ (λ p. body_of p.0 p.1)) x ts

-- a definition whose first token stands in a line, up to a height
abbrev pub IsDef : ℕ → Line → Phrase (DefOf Plain)
IsDef zero line x ts = ⊥
IsDef (suc height) line x ts = (
    (KwType ▷ (identifier ⊗ (Equal ▷ after Bar (separated Bar constructor)))) ⇒ (λ p. def.Cases line p.0 p.1)
    or (KwLet ▷ (identifier ⊗ (many (IsPat height) ⊗ (Equal ▷ IsBody height)))) ⇒ (λ p. definition line false p.0 p.1.0 p.1.1)
    or (KwLet ▷ (KwNode ▷ (identifier ⊗ (some (IsPat height) ⊗ (Equal ▷ IsBody height))))) ⇒ (λ p. definition line true p.0 p.1.0 p.1.1)
    ) x ts

-- a definition: its height is at most 200, and its line is that of its first token
abbrev pub IsDefinition : DefOf Plain → List (Line × Token) → Type 0
IsDefinition d [] = ⊥
IsDefinition d (t ∷ ts) = IsDef 200 t.0 d (map (λ p. p.1) (t ∷ ts))

-- what may follow a definition: `let`, `type` or the end
abbrev pub MayFollow : List (Line × Token) → Type 0
MayFollow [] = Unit {0}
MayFollow (t ∷ ts) = (t.1 ≡ Word KwLet) ⊎ (t.1 ≡ Word KwType)

-- definitions one after the other, each followed by what may follow it, before what is left
abbrev pub IsRow : List (DefOf Plain) → List (Line × Token) → List (Line × Token) → Type 0
IsRow [] ts left = ts ≡ left
IsRow (d ∷ ds) ts left = (front : List (Line × Token)) × (back : List (Line × Token)) × (ts ≡ front ++ back) × IsDefinition d front × MayFollow back × IsRow ds back left

-- a file
abbrev pub IsFile : List (DefOf Plain) → List (Line × Token) → Type 0
IsFile defs ts = IsRow defs ts []

-- no part at the front of the tokens is a definition that something follows which may follow it
abbrev pub NoneBegins : List (Line × Token) → Type 0
NoneBegins ts = (d : DefOf Plain) (front back : List (Line × Token)) → ts ≡ front ++ back → IsDefinition d front → MayFollow back → ⊥

-- definitions, and then tokens at whose front none stands; the first of these stands in the line
abbrev pub StopsAt : List (Line × Token) → Line → Type 0
StopsAt ts line = (defs : List (DefOf Plain)) × (t : Line × Token) × (left : List (Line × Token)) × (t.0 ≡ line) × IsRow defs ts (t ∷ left) × NoneBegins (t ∷ left)
