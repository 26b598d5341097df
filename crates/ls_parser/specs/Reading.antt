-- What is read at the front of the tokens: the value, its height, and the tokens behind it.
use Rattle.std.specs.Prelude.{◌≡◌, ℕ, zero, suc, ◌+◌, List, [], ◌∷◌, ◌++◌, Option, Some, None, Bool, false, Result, Ok, Err, map, drop, length, max, nat_lt, option_and_then, if◌then◌else◌}
use denote.Enum.Bare.{sameb}
use Rattle.ls_base.specs.declared.Line.{Line}
use Rattle.ls_base.specs.declared.Name.{Name}
use Rattle.ls_lexer.specs.declared.token.Fixed.{Fixed}
use Rattle.ls_lexer.specs.contracts.token.Fixed.{the_type}
use Rattle.ls_lexer.specs.declared.token.Token.{Token}
use Rattle.ls_lexer.specs.declared.token.Token.TheVariants.{Fixed as Word, Id, Cons}
use Rattle.ls_parser.specs.declared.cursor.Stop.{Stop}
use Rattle.ls_parser.specs.declared.cursor.Stop.TheVariants as stop

infixl 10 ◌>>=◌
abbrev pub ◌>>=◌ : {A B : Type 0} → Option A → (A → Option B) → Option B
o >>= f = option_and_then f o

-- the tokens from a place on, without their lines
unfoldable pub rest : List (Line × Token) → ℕ → List Token
rest tokens at = map (λ p. p.1) (drop at tokens)

-- what a function returned, seen by view, is what reading gives, unless memory ran out
abbrev pub Stops : {Y : Type 0} → Stop → Option Y → Type 0
Stops stop.NoMemory read = Unit {0}
Stops stop.Fault read = read ≡ None

abbrev pub Gives : {X Y : Type 0} → (X → Y) → Result X Stop → Option Y → Type 0
Gives view (Ok x) read = read ≡ Some (view x)
Gives view (Err e) read = Stops e read

-- a value, its height and the place behind it, seen as what is read
abbrev pub seen : {A : Type 0} → List (Line × Token) → (A × ℕ × ℕ) → (A × ℕ × List Token)
seen tokens x = (x.0, x.1, rest tokens x.2)

-- what a function that reads at a place returned is what a reader reads there, given the number of all tokens
abbrev pub Reads : {A : Type 0} → List (Line × Token) → ℕ → Result (A × ℕ × ℕ) Stop → (ℕ → List Token → Option (A × ℕ × List Token)) → Type 0
Reads tokens at result reader = Gives (λ x. seen tokens x) result (reader (length tokens) (rest tokens at))

-- the same of what is read without a height
abbrev pub Takes : {A : Type 0} → List (Line × Token) → ℕ → Result (A × ℕ) Stop → (List Token → Option (A × List Token)) → Type 0
Takes tokens at result reader = Gives (λ p. (p.0, rest tokens p.1)) result (reader (rest tokens at))

-- the first token, and the others
abbrev pub uncons : List Token → Option (Token × List Token)
uncons [] = None
uncons (t ∷ ts) = Some (t, ts)

abbrev pub same : Fixed → Fixed → Bool
same v w = sameb the_type v w

-- whether a token is a word
abbrev pub is_word : Fixed → Token → Bool
is_word w (Word v) = same v w
is_word w _ = false

-- whether a word stands first
unfoldable pub starts : Fixed → List Token → Bool
starts w [] = false
starts w (t ∷ ts) = is_word w t

-- what stands behind a word
unfoldable pub word : Fixed → List Token → Option (List Token)
word w ts = uncons ts >>= λ p. if is_word w p.0 then Some p.1 else None

abbrev pub name_of : Token → Option Name
name_of (Id x) = Some x
name_of _ = None

abbrev pub constructor_of : Token → Option Name
constructor_of (Cons x) = Some x
constructor_of _ = None

-- an identifier, and what stands behind it
unfoldable pub name : List Token → Option (Name × List Token)
name ts = uncons ts >>= λ p. name_of p.0 >>= λ x. Some (x, p.1)

-- a constructor, and what stands behind it
unfoldable pub constructor : List Token → Option (Name × List Token)
constructor ts = uncons ts >>= λ p. constructor_of p.0 >>= λ x. Some (x, p.1)

-- one more than a height, up to 200
abbrev pub taller : ℕ → Option ℕ
taller h = if nat_lt h 200 then Some (h + 1) else None

-- a reader
abbrev pub Reader : Type 0 → Type 0
Reader A = List Token → Option (A × ℕ × List Token)

-- a word, then what r reads
abbrev pub behind : {A : Type 0} → Fixed → Reader A → Reader A
behind w r ts = word w ts >>= r

-- what r reads, and then what s reads
abbrev pub both : {A B : Type 0} → Reader A → Reader B → Reader (A × B)
both r s ts = r ts >>= λ x. s x.2 >>= λ y. Some ((x.0, y.0), max x.1 y.1, y.2)

-- what a function makes of what r reads, one higher
abbrev pub form_of : {A B : Type 0} → (A → B) → Reader A → Reader B
form_of f r ts = r ts >>= λ x. taller x.1 >>= λ h. Some (f x.0, h, x.2)

-- what r reads as often as the test holds, up to a number of times, behind what was read so far
abbrev pub collect : {A : Type 0} → ℕ → (List Token → Bool) → Reader A → List A → ℕ → Reader (List A)
collect zero test r done h ts = Some (done, h, ts)
collect (suc k) test r done h ts = if test ts then (r ts >>= λ x. collect k test r (done ++ x.0 ∷ []) (max h x.1) x.2) else Some (done, h, ts)
