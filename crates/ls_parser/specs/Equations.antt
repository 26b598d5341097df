-- What is read of equations and of the blocks that hold some. `n` is the number of all tokens, which bounds each repetition.
use Rattle.std.specs.Prelude.{ℕ, zero, suc, List, [], ◌∷◌, ◌++◌, Option, Some, None, Bool, true, false, not, ◌&&◌, ◌||◌, max, if◌then◌else◌}
use Rattle.ls_ast.specs.declared.tree.Arm.{Arm}
use Rattle.ls_ast.specs.declared.tree.Equation.{Equation}
use Rattle.ls_ast.specs.declared.tree.Equation.TheVariants as eq
use Rattle.ls_ast.specs.declared.tree.Guard.{Guard}
use Rattle.ls_ast.specs.declared.tree.Handler.{Handler}
use Rattle.ls_ast.specs.declared.tree.Pat.{Pat}
use Rattle.ls_ast.specs.declared.tree.Plain.{Plain}
use Rattle.ls_ast.specs.declared.tree.State.{State}
use Rattle.ls_ast.specs.declared.tree.Test.{Test}
use Rattle.ls_base.specs.declared.Name.{Name}
use Rattle.ls_base.specs.declared.TheConstants.Name.{FALSE, TRUE}
use Rattle.ls_lexer.specs.declared.token.Fixed.{Fixed}
use Rattle.ls_lexer.specs.declared.token.Fixed.TheVariants.{KwAnd, KwAutomaton, KwClock, KwContinue, KwDo, KwDone, KwElse, KwEmit, KwEnd, KwEvery, KwFalse, KwIn, KwLast, KwLet, KwMatch, KwPresent, KwRec, KwReset, KwThen, KwTrue, KwUnless, KwUntil, KwWith, ParenLeft, ParenRight, Equal, Arrow, Bar, Underscore}
use Rattle.ls_lexer.specs.declared.token.Token.{Token}
use Rattle.ls_lexer.specs.declared.token.Token.TheVariants.{Fixed as Word, Id, Cons}
use Rattle.ls_parser.specs.declared.level.Level.TheVariants.{Expr}
use Rattle.ls_parser.specs.Expressions.{expression}
use Rattle.ls_parser.specs.Making.{Tree, guard, arm_of, test_of, state_with, handler_with, with_strong, with_weak}
use Rattle.ls_parser.specs.Patterns.{pattern}
use Rattle.ls_parser.specs.Reading.{◌>>=◌, Reader, uncons, starts, is_word, word, name, constructor, taller, behind, collect}

-- what stands behind a word, or all where it does not stand first
unfoldable pub skip : Fixed → List Token → List Token
skip w [] = []
skip w (t ∷ ts) = if is_word w t then ts else t ∷ ts

abbrev pub case_of : Token → Option Name
case_of (Cons x) = Some x
case_of (Word KwTrue) = Some TRUE
case_of (Word KwFalse) = Some FALSE
case_of _ = None

-- the name of an arm's case, and what stands behind it
unfoldable pub case_name : List Token → Option (Name × List Token)
case_name ts = uncons ts >>= λ p. case_of p.0 >>= λ x. Some (x, p.1)

-- whether a bar stands first, and no `_` behind it
unfoldable pub begins_arm : List Token → Bool
begins_arm [] = false
begins_arm (t ∷ ts) = is_word Bar t && not (starts Underscore ts)

abbrev pub opens : Fixed → Bool
opens KwClock = true
opens KwLast = true
opens KwEmit = true
opens KwReset = true
opens KwMatch = true
opens KwPresent = true
opens KwAutomaton = true
opens ParenLeft = true
opens Underscore = true
opens _ = false

abbrev pub opens_equation : Token → Bool
opens_equation (Id x) = true
opens_equation (Word w) = opens w
opens_equation _ = false

-- whether an equation begins
unfoldable pub begins_equation : List Token → Bool
begins_equation [] = false
begins_equation (t ∷ ts) = opens_equation t

-- whether a guard of a state begins
unfoldable pub begins_guard : List Token → Bool
begins_guard ts = starts KwUnless ts || starts KwUntil ts

-- which of two words stands first, and what stands behind it
unfoldable pub either : Fixed → Fixed → List Token → Option (Bool × List Token)
either v w ts = if starts v ts then (word v ts >>= λ m. Some (true, m)) else (word w ts >>= λ m. Some (false, m))

-- E, P, Q and H read the expressions, patterns, equations and handlers that are parts. Q true reads those of a `do`.
module _ (n : ℕ) (E : Reader Tree) (P : Reader Pat) (Q : Bool → Reader (Equation Plain)) (H : Reader (Handler Plain)) where
  unfoldable pub equations : Bool → Reader (List (Equation Plain))
  equations in_do ts = Q in_do ts >>= λ e. collect n (starts KwAnd) (behind KwAnd (Q in_do)) (e.0 ∷ []) e.1 e.2

  -- a word, a name, `=` and an expression
  unfoldable pub bound : Fixed → Reader (Name × Tree)
  bound w ts = word w ts >>= λ m. name m >>= λ p. word Equal p.1 >>= λ m. E m >>= λ e. taller e.1 >>= λ h. Some ((p.0, e.0), h, e.2)

  unfoldable pub plain_equation : Reader (Equation Plain)
  plain_equation ts = P ts >>= λ p. word Equal p.2 >>= λ m. E m >>= λ e. taller (max p.1 e.1) >>= λ h. Some (eq.Plain p.0 e.0, h, e.2)

  unfoldable pub reset : Bool → Reader (Equation Plain)
  reset in_do ts = word KwReset ts >>= λ m. equations in_do m >>= λ qs. word KwEvery qs.2 >>= λ m. E m >>= λ e. taller (max qs.1 e.1) >>= λ h. Some (eq.Reset qs.0 e.0, h, e.2)

  unfoldable pub handler : Reader (Handler Plain)
  handler ts = H ts >>= λ x. word KwDone x.2 >>= λ m. Some (x.0, x.1, m)

  unfoldable pub arm : Reader (Arm Plain)
  arm ts = case_name ts >>= λ p. word Arrow p.1 >>= λ m. handler m >>= λ x. Some (arm_of (Some p.0) x.0, x.1, x.2)

  -- the arms of a match, and at its end the one for all other cases
  unfoldable pub arms : Reader (List (Arm Plain))
  arms ts = arm ts >>= λ a. collect n begins_arm (behind Bar arm) (a.0 ∷ []) a.1 a.2

  unfoldable pub other_arm : List (Arm Plain) → ℕ → Reader (List (Arm Plain))
  other_arm xs h ts =
      if starts Bar ts then (word Bar ts >>= λ m. word Underscore m >>= λ m. word Arrow m >>= λ m. handler m >>= λ x. Some (xs ++ arm_of None x.0 ∷ [], max h x.1, x.2))
      else Some (xs, h, ts)

  unfoldable pub matching : Reader (Equation Plain)
  matching ts = word KwMatch ts >>= λ m. E m >>= λ e. word KwWith e.2 >>= λ m. arms (skip Bar m) >>= λ x. other_arm x.0 x.1 x.2 >>= λ y.
      word KwEnd y.2 >>= λ m. taller (max e.1 y.1) >>= λ h. Some (eq.Match e.0 y.0, h, m)

  -- the pattern of a test, in parentheses
  unfoldable pub tested : Reader (Option Pat)
  tested ts = if starts ParenLeft ts then (word ParenLeft ts >>= λ m. P m >>= λ p. word ParenRight p.2 >>= λ m. Some (Some p.0, p.1, m)) else Some (None, 0, ts)

  unfoldable pub one_test : Reader (Test Plain)
  one_test ts = name ts >>= λ p. tested p.1 >>= λ t. word Arrow t.2 >>= λ m. handler m >>= λ x. Some (test_of p.0 t.0 x.0, max t.1 x.1, x.2)

  unfoldable pub tests : Reader (List (Test Plain))
  tests ts = one_test ts >>= λ t. collect n (starts Bar) (behind Bar one_test) (t.0 ∷ []) t.1 t.2

  unfoldable pub otherwise : Reader (Option (Handler Plain))
  otherwise ts = if starts KwElse ts then (word KwElse ts >>= λ m. handler m >>= λ x. Some (Some x.0, x.1, x.2)) else Some (None, 0, ts)

  unfoldable pub presence : Reader (Equation Plain)
  presence ts = word KwPresent ts >>= λ m. tests (skip Bar m) >>= λ x. otherwise x.2 >>= λ y. word KwEnd y.2 >>= λ m. taller (max x.1 y.1) >>= λ h. Some (eq.Present x.0 y.0, h, m)

  -- a guard: whether it is strong, and itself
  unfoldable pub transition : Reader (Bool × Guard Plain)
  transition ts = either KwUnless KwUntil ts >>= λ s. E s.1 >>= λ e. taller e.1 >>= λ h. either KwThen KwContinue e.2 >>= λ r. constructor r.1 >>= λ p. Some ((s.0, guard e.0 r.0 p.0), h, p.1)

  -- the guards of a state behind those that were read, strong ones and weak ones
  abbrev pub gather : ℕ → List (Guard Plain) → List (Guard Plain) → ℕ → Reader (List (Guard Plain) × List (Guard Plain))
  gather zero strong weak h ts = Some ((strong, weak), h, ts)
  gather (suc k) strong weak h ts =
      if begins_guard ts then (transition ts >>= λ x. gather k (with_strong x.0 strong) (with_weak x.0 weak) (max h x.1) x.2) else Some ((strong, weak), h, ts)

  unfoldable pub guards : Reader (List (Guard Plain) × List (Guard Plain))
  guards ts = transition ts >>= λ g. gather n (with_strong g.0 []) (with_weak g.0 []) g.1 g.2

  -- what stands behind the equations of a state
  unfoldable pub exits : Reader (List (Guard Plain) × List (Guard Plain))
  exits ts =
      if starts KwDone ts then (word KwDone ts >>= λ m. Some (([], []), 0, m))
      else if begins_guard ts then (guards ts >>= λ x. Some (x.0, x.1, skip KwDone x.2))
      else None

  unfoldable pub state : Reader (State Plain)
  state ts = constructor ts >>= λ p. word Arrow p.1 >>= λ m. H m >>= λ x. exits x.2 >>= λ g. Some (state_with p.0 x.0 g.0.0 g.0.1, max x.1 g.1, g.2)

  unfoldable pub states : Reader (List (State Plain))
  states ts = state ts >>= λ s. collect n (starts Bar) (behind Bar state) (s.0 ∷ []) s.1 s.2

  unfoldable pub automaton : Reader (Equation Plain)
  automaton ts = word KwAutomaton ts >>= λ m. states (skip Bar m) >>= λ x. word KwEnd x.2 >>= λ m. taller x.1 >>= λ h. Some (eq.Automaton x.0, h, m)

  -- an equation, of a `do` or not
  unfoldable pub equation : Bool → Reader (Equation Plain)
  equation in_do ts =
      if not in_do && starts KwClock ts then (bound KwClock ts >>= λ x. Some (eq.Clock x.0.0 x.0.1, x.1, x.2))
      else if not in_do && starts KwLast ts then (bound KwLast ts >>= λ x. Some (eq.Initial x.0.0 x.0.1, x.1, x.2))
      else if starts KwEmit ts then (bound KwEmit ts >>= λ x. Some (eq.Emit x.0.0 x.0.1, x.1, x.2))
      else if starts KwReset ts then reset in_do ts
      else if starts KwMatch ts then matching ts
      else if starts KwPresent ts then presence ts
      else if starts KwAutomaton ts then automaton ts
      else plain_equation ts

  -- the equations between `let` and `in`, if any
  unfoldable pub locals : Reader (List (Equation Plain))
  locals ts = if starts KwLet ts then (word KwLet ts >>= λ m. equations false (skip KwRec m) >>= λ x. word KwIn x.2 >>= λ m. Some (x.0, x.1, m)) else Some ([], 0, ts)

  -- the equations of a `do`, if any
  unfoldable pub within : Reader (List (Equation Plain))
  within ts = if begins_equation ts then equations true ts else Some ([], 0, ts)

  -- a handler without its end
  unfoldable pub doing : Reader (Handler Plain)
  doing ts = locals ts >>= λ l. word KwDo l.2 >>= λ m. within m >>= λ q. taller (max l.1 q.1) >>= λ h. Some (handler_with l.0 q.0, h, q.2)

unfoldable mutual
  -- an equation, of which the parts nest up to a depth
  pub equation_at : ℕ → ℕ → Bool → Reader (Equation Plain)
  equation_at n zero in_do ts = None
  equation_at n (suc depth) in_do ts = equation n (expression n depth Expr) (pattern n depth) (equation_at n depth) (doing_at n depth) in_do ts

  -- a handler without its end, of which the parts nest up to a depth
  pub doing_at : ℕ → ℕ → Reader (Handler Plain)
  doing_at n zero ts = None
  doing_at n (suc depth) ts = doing n (expression n depth Expr) (pattern n depth) (equation_at n depth) (doing_at n depth) ts

-- what a reader makes of readers of the parts, which nest up to a depth, given the number of all tokens
abbrev pub of_parts : {X : Type 0} → ℕ → (ℕ → Reader Tree → Reader Pat → (Bool → Reader (Equation Plain)) → Reader (Handler Plain) → X) → ℕ → X
of_parts depth reader n = reader n (expression n depth Expr) (pattern n depth) (equation_at n depth) (doing_at n depth)
