-- A file has at most one row of tokens, or one first fault.
use Rattle.std.proofs.Common.{◌≡◌, ◌≢◌, ℕ, zero, suc, ◌+◌, ◌<◌, inl, inr, if◌then◌else◌, List, [], ◌∷◌, ◌++◌, length, take, drop, slice_get, Option, Some, None, Result, Ok, Err, IfOk, IfErr, MatchResult, encode_utf8_all, codes, refl, sym, ap, subst, ◌∙◌, arith}
use Rattle.std.specs.Str.{IsUtf8, chars}
use Rattle.std.proofs.lemmas.Str.{utf8_valid_len-IsValidUpTo, utf8_valid_len-IsUtf8}
use Rattle.ls_base.specs.declared.Line.{Line}
use Rattle.ls_base.specs.declared.Name.{Name}
use Rattle.ls_base.specs.Names.{Distinct}
use Rattle.ls_value.proofs.Tokens.{token_unique}
use Rattle.ls_lexer.specs.declared.token.Token.{Token}
use Rattle.ls_lexer.specs.declared.token.Token.TheVariants.{Id, Cons, Char, Text, Prefix, Fixed}
use Rattle.ls_lexer.specs.declared.token.Tokens.{Tokens}
use Rattle.ls_lexer.specs.declared.fault.LexFault.{LexFault}
use Rattle.ls_lexer.specs.declared.fault.LexFault.TheVariants.{NotUtf8, Bad, LongText, WideInt, OpenComment, NoMemory}
use Rattle.ls_lexer.specs.declared.keyword.Keyword.{Keyword}
use Rattle.ls_lexer.specs.declared.keyword.Keyword.TheVariants.{Fixed as Only, Prefix as Before}
use Rattle.ls_lexer.specs.declared.piece.Kind.{Kind}
use Rattle.ls_lexer.specs.declared.piece.Kind.TheVariants.{Blank, Comment, Word, Number, Char as Quoted, Text as LongQuoted, Symbol}
use Rattle.ls_lexer.specs.declared.piece.Piece.{Piece}
use Rattle.ls_lexer.specs.Characters.{newlines}
use Rattle.ls_lexer.specs.Keywords.{keyword_of}
use Rattle.ls_lexer.specs.Pieces.{piece_at}
use Rattle.ls_lexer.specs.Lexing.{begins_with_capital, Adds, AddsName, AddsWord, AddsPiece, IsNoToken, State, IsStep, Leads, start, HasTokens, FaultsHere, HasFault, Lexes, IsNotUtf8, IsLexFault}
use Rattle.ls_lexer.proofs.NameLemmas.{Distinct-with_name}

tokens_same : (a b : Tokens) → a.list ≡ b.list → a.names ≡ b.names → a ≡ b
tokens_same a b p q = λ i. record { list = p i; names = q i }

Adds-unique : (line : Line) (token : Token) (old a b : Tokens) → Adds line token old a → Adds line token old b → a ≡ b
Adds-unique line token old a b h k = tokens_same a b (h.0 ∙ sym k.0) (h.1 ∙ sym k.1)

AddsName-unique : (line : Line) (spelling : List ℕ) (old a b : Tokens) → Distinct old.names → AddsName line spelling old a → AddsName line spelling old b → a ≡ b
AddsName-unique line spelling old a b d (x, xs, at_x, xl) (y, ys, at_y, yl) =
    let q = encode_utf8_all spelling in
    let names : a.names ≡ b.names = xs ∙ sym ys in
    let apart : Distinct a.names = subst Distinct (sym xs) (Distinct-with_name old.names q d) in
    let P : List (List ℕ) → Type 0 = λ ns. slice_get ns y.0 ≡ Some q in
    let number : x.0 ≡ y.0 = apart x.0 y.0 q at_x (subst P (sym names) at_y) in
    let one : ◌≡◌ {A = Name} x y = λ i. record { 0 = number i } in
    tokens_same a b (xl ∙ ap (λ (n : Name). old.list ++ (line, if begins_with_capital spelling then Cons n else Id n) ∷ []) one ∙ sym yl) names

AddsWord-unique : (keyword : Option Keyword) (line : Line) (spelling : List ℕ) (old a b : Tokens) → Distinct old.names
    → AddsWord keyword line spelling old a → AddsWord keyword line spelling old b → a ≡ b
AddsWord-unique (Some (Only word)) line spelling old a b d h k = Adds-unique line (Fixed word) old a b h k
AddsWord-unique (Some (Before op)) line spelling old a b d h k = Adds-unique line (Prefix op) old a b h k
AddsWord-unique None line spelling old a b d h k = AddsName-unique line spelling old a b d h k

AddsPiece-unique : (kind : Kind) (line : Line) (spelling : List ℕ) (old a b : Tokens) → Distinct old.names
    → AddsPiece kind line spelling old a → AddsPiece kind line spelling old b → a ≡ b
AddsPiece-unique Blank line spelling old a b d h k = h ∙ sym k
AddsPiece-unique Comment line spelling old a b d h k = h ∙ sym k
AddsPiece-unique Word line spelling old a b d h k = AddsWord-unique (keyword_of (encode_utf8_all spelling)) line spelling old a b d h k
AddsPiece-unique Number line spelling old a b d h k = Adds-unique line _ old a b h.1 k.1
AddsPiece-unique Quoted line spelling old a b d (x, xt, xa) (y, yt, ya) =
    let both = token_unique 39 (x ∷ []) (y ∷ []) (encode_utf8_all spelling) xt yt in
    let same : x ≡ y = cc in
    let P : ℕ → Type 0 = λ c. Adds line (Char c) old a in
    Adds-unique line (Char y) old a b (subst P same xa) ya
AddsPiece-unique LongQuoted line spelling old a b d (x, xt, xs, xa) (y, yt, ys, ya) =
    let P : List ℕ → Type 0 = λ t. Adds line (Text t) old a in
    Adds-unique line (Text y) old a b (subst P (token_unique 34 x y (encode_utf8_all spelling) xt yt) xa) ya
AddsPiece-unique (Symbol symbol) line spelling old a b d h k = Adds-unique line (Fixed symbol) old a b h k

same_names : (old new : Tokens) → new.names ≡ old.names → Distinct old.names → Distinct new.names
same_names old new e d = subst Distinct (sym e) d

AddsWord-Distinct : (keyword : Option Keyword) (line : Line) (spelling : List ℕ) (old new : Tokens) → Distinct old.names
    → AddsWord keyword line spelling old new → Distinct new.names
AddsWord-Distinct (Some (Only word)) line spelling old new d h = same_names old new h.1 d
AddsWord-Distinct (Some (Before op)) line spelling old new d h = same_names old new h.1 d
AddsWord-Distinct None line spelling old new d (x, xs, at_x, xl) = subst Distinct (sym xs) (Distinct-with_name old.names (encode_utf8_all spelling) d)

AddsPiece-Distinct : (kind : Kind) (line : Line) (spelling : List ℕ) (old new : Tokens) → Distinct old.names
    → AddsPiece kind line spelling old new → Distinct new.names
AddsPiece-Distinct Blank line spelling old new d h = same_names old new (ap (λ (t : Tokens). t.names) h) d
AddsPiece-Distinct Comment line spelling old new d h = same_names old new (ap (λ (t : Tokens). t.names) h) d
AddsPiece-Distinct Word line spelling old new d h = AddsWord-Distinct (keyword_of (encode_utf8_all spelling)) line spelling old new d h
AddsPiece-Distinct Number line spelling old new d h = same_names old new h.1.1 d
AddsPiece-Distinct Quoted line spelling old new d h = same_names old new h.2.1 d
AddsPiece-Distinct LongQuoted line spelling old new d h = same_names old new h.3.1 d
AddsPiece-Distinct (Symbol symbol) line spelling old new d h = same_names old new h.1 d

-- a step by its piece alone
abbrev ByPiece : State → State → Piece → Type 0
ByPiece s t piece = AddsPiece piece.kind s.line (take piece.len s.left) s.tokens t.tokens
    × (t.left ≡ drop piece.len s.left) × (t.line.0 ≡ s.line.0 + newlines (take piece.len s.left))

by_piece : (s t : State) (h : IsStep s t) → ByPiece s t h.1.0
by_piece s t (len, (piece, is, long, adds), left, line) =
    let A : ℕ → Type 0 = λ n. AddsPiece piece.kind s.line (take n s.left) s.tokens t.tokens in
    let L : ℕ → Type 0 = λ n. t.left ≡ drop n s.left in
    let N : ℕ → Type 0 = λ n. t.line.0 ≡ s.line.0 + newlines (take n s.left) in
    (subst A (sym long) adds, subst L (sym long) left, subst N (sym long) line)

state_same : (s t : State) → s.line.0 ≡ t.line.0 → s.left ≡ t.left → s.tokens ≡ t.tokens → s ≡ t
state_same s t p q r = λ i. record { line = record { 0 = p i }; left = q i; tokens = r i }

one_piece : (line : Line) (text : List ℕ) (p q : Piece) → piece_at line text ≡ Ok p → piece_at line text ≡ Ok q → p ≡ q
one_piece line text p q a b = cc

IsStep-unique : (s t u : State) → Distinct s.tokens.names → IsStep s t → IsStep s u → t ≡ u
IsStep-unique s t u d h k =
    let same = one_piece s.line s.left h.1.0 k.1.0 h.1.1 k.1.1 in
    let a = by_piece s t h in
    let b = subst (ByPiece s u) (sym same) (by_piece s u k) in
    let piece = h.1.0 in
    state_same t u (a.2 ∙ sym b.2) (a.1 ∙ sym b.1) (AddsPiece-unique piece.kind s.line (take piece.len s.left) s.tokens t.tokens u.tokens d a.0 b.0)

IsStep-Distinct : (s t : State) → Distinct s.tokens.names → IsStep s t → Distinct t.tokens.names
IsStep-Distinct s t d h =
    let piece = h.1.0 in
    AddsPiece-Distinct piece.kind s.line (take piece.len s.left) s.tokens t.tokens d (by_piece s t h).0

-- no step leads on
abbrev IsLast : State → Type 0
IsLast s = (t : State) → IsStep s t → ⊥

pub Leads-unique : (n m : ℕ) (s t u : State) → Distinct s.tokens.names → IsLast t → IsLast u → Leads n s t → Leads m s u → t ≡ u
Leads-unique zero zero s t u d lt lu h k = sym h ∙ k
Leads-unique zero (suc m) s t u d lt lu h (x, first, rest) =
    let P : State → Type 0 = λ y. IsStep y x in absurd (lt x (subst P h first))
Leads-unique (suc n) zero s t u d lt lu (x, first, rest) k =
    let P : State → Type 0 = λ y. IsStep y x in absurd (lu x (subst P k first))
Leads-unique (suc n) (suc m) s t u d lt lu (x, first, rest) (y, first', rest') =
    let same = IsStep-unique s x y d first first' in
    let P : State → Type 0 = λ z. Leads m z u in
    Leads-unique n m x t u (IsStep-Distinct s x d first) lt lu rest (subst P (sym same) rest')

no_piece : (line : Line) (text : List ℕ) (p : Piece) (f : LexFault) → piece_at line text ≡ Ok p → piece_at line text ≡ Err f → ⊥
no_piece line text p f a b = cc

-- nothing follows the end
end_last : (s : State) → s.left ≡ [] → IsLast s
end_last s e = λ t h.
    let P : List ℕ → Type 0 = λ text. piece_at s.line text ≡ Ok h.1.0 in
    no_piece s.line [] h.1.0 (Bad s.line) (subst P e h.1.1) refl

no_token_adds : (kind : Kind) (line : Line) (spelling : List ℕ) (f : LexFault) (old new : Tokens)
    → IsNoToken kind line spelling f → AddsPiece kind line spelling old new → ⊥
no_token_adds Blank line spelling f old new unfit h = unfit
no_token_adds Comment line spelling f old new unfit h = unfit
no_token_adds Word line spelling f old new unfit h = unfit
no_token_adds Number line spelling f old new unfit h = let wide = unfit.0 in let few = h.0 in omega (arith, wide, few)
no_token_adds Quoted line spelling f old new unfit h = unfit.0 h.0 h.1
no_token_adds LongQuoted line spelling f old new unfit h =
    let P : List ℕ → Type 0 = λ cs. 63 < length cs in
    let many = subst P (token_unique 34 unfit.0.0 h.0 (encode_utf8_all spelling) unfit.0.1 h.1) unfit.0.2 in
    let few = h.2 in omega (arith, many, few)
no_token_adds (Symbol symbol) line spelling f old new unfit h = unfit

no_token_unique : (kind : Kind) (line : Line) (spelling : List ℕ) (f g : LexFault) → IsNoToken kind line spelling f → IsNoToken kind line spelling g → f ≡ g
no_token_unique Blank line spelling f g h k = absurd h
no_token_unique Comment line spelling f g h k = absurd h
no_token_unique Word line spelling f g h k = absurd h
no_token_unique Number line spelling f g h k = h.1 ∙ sym k.1
no_token_unique Quoted line spelling f g h k = h.1 ∙ sym k.1
no_token_unique LongQuoted line spelling f g h k = h.1 ∙ sym k.1
no_token_unique (Symbol symbol) line spelling f g h k = absurd h

-- nothing follows a fault
fault_last : (s : State) (f : LexFault) → FaultsHere s.line s.left f → IsLast s
fault_last s f (inl e) = λ t h. no_piece s.line s.left h.1.0 f h.1.1 e
fault_last s f (inr (p, is, unfit)) = λ t h.
    let same = one_piece s.line s.left h.1.0 p h.1.1 is in
    let adds = subst (ByPiece s t) same (by_piece s t h) in
    no_token_adds p.kind s.line (take p.len s.left) f s.tokens t.tokens unfit adds.0

one_fault : (line : Line) (text : List ℕ) (f g : LexFault) → piece_at line text ≡ Err f → piece_at line text ≡ Err g → f ≡ g
one_fault line text f g a b = cc

FaultsHere-unique : (line : Line) (text : List ℕ) (f g : LexFault) → FaultsHere line text f → FaultsHere line text g → f ≡ g
FaultsHere-unique line text f g (inl a) (inl b) = one_fault line text f g a b
FaultsHere-unique line text f g (inl a) (inr (p, is, unfit)) = absurd (no_piece line text p f is a)
FaultsHere-unique line text f g (inr (p, is, unfit)) (inl b) = absurd (no_piece line text p g is b)
FaultsHere-unique line text f g (inr (p, is, unfit)) (inr (q, is', unfit')) =
    let P : Piece → Type 0 = λ x. IsNoToken x.kind line (take x.len text) g in
    no_token_unique p.kind line (take p.len text) f g unfit (subst P (sym (one_piece line text p q is is')) unfit')

nothing_twice : Distinct []
nothing_twice i j spelling a b = absurd (cc)

start_distinct : (text : List ℕ) → Distinct (start text).tokens.names
start_distinct text = Distinct-with_name (codes "false" ∷ []) (codes "true") (Distinct-with_name [] (codes "false") nothing_twice)

tokens_unique : (text : List ℕ) (a b : Tokens) → HasTokens text a → HasTokens text b → a ≡ b
tokens_unique text a b (n, s, leads, left, tokens) (m, t, leads', left', tokens') =
    let same = Leads-unique n m (start text) s t (start_distinct text) (end_last s left) (end_last t left') leads leads' in
    sym tokens ∙ ap (λ (x : State). x.tokens) same ∙ tokens'

tokens_or_fault : (text : List ℕ) (a : Tokens) (f : LexFault) → HasTokens text a → HasFault text f → ⊥
tokens_or_fault text a f (n, s, leads, left, tokens) (m, t, leads', more, faults) =
    let same = Leads-unique n m (start text) s t (start_distinct text) (end_last s left) (fault_last t f faults) leads leads' in
    let unfit : length t.left ≡ 0 = ap (λ (x : State). length x.left) (sym same) ∙ ap (λ (x : List ℕ). length x) left in
    omega (arith, more, unfit)

fault_unique : (text : List ℕ) (f g : LexFault) → HasFault text f → HasFault text g → f ≡ g
fault_unique text f g (n, s, leads, more, faults) (m, t, leads', more', faults') =
    let same = Leads-unique n m (start text) s t (start_distinct text) (fault_last s f faults) (fault_last t g faults') leads leads' in
    let P : State → Type 0 = λ x. FaultsHere x.line x.left g in
    FaultsHere-unique s.line s.left f g faults (subst P (sym same) faults')

not_both : (bytes : List ℕ) (f : LexFault) → IsUtf8 bytes → IsNotUtf8 bytes f → ⊥
not_both bytes f u (n, line, v, at, is) =
    omega (arith, utf8_valid_len-IsUtf8 bytes u, utf8_valid_len-IsValidUpTo bytes n v, v.short)

-- a file that has tokens has unfit others, and unfit fault
pub Lexes-unique : (bytes : List ℕ) (a b : Tokens) → Lexes bytes a → Lexes bytes b → a ≡ b
Lexes-unique bytes a b h k = tokens_unique (chars bytes) a b h.1 k.1

pub Lexes-or_fault : (bytes : List ℕ) (a : Tokens) (f : LexFault) → Lexes bytes a → IsLexFault bytes f → ⊥
Lexes-or_fault bytes a f h (inl k) = not_both bytes f h.0 k
Lexes-or_fault bytes a f h (inr k) = tokens_or_fault (chars bytes) a f h.1 k.1

line_same : (a b : Line) → a.0 ≡ b.0 → a ≡ b
line_same a b e = λ i. record { 0 = e i }

-- a file that has a first fault has unfit other one
pub IsLexFault-unique : (bytes : List ℕ) (f g : LexFault) → IsLexFault bytes f → IsLexFault bytes g → f ≡ g
IsLexFault-unique bytes f g (inl (n, a, v, at_a, is_a)) (inl (m, b, w, at_b, is_b)) =
    let same : n ≡ m = sym (utf8_valid_len-IsValidUpTo bytes n v) ∙ utf8_valid_len-IsValidUpTo bytes m w in
    let line = line_same a b (at_a ∙ ap (λ (x : ℕ). 1 + newlines (take x bytes)) same ∙ sym at_b) in
    is_a ∙ ap (λ (x : Line). NotUtf8 x) line ∙ sym is_b
IsLexFault-unique bytes f g (inl h) (inr k) = absurd (not_both bytes f k.0 h)
IsLexFault-unique bytes f g (inr h) (inl k) = absurd (not_both bytes g h.0 k)
IsLexFault-unique bytes f g (inr h) (inr k) = fault_unique (chars bytes) f g h.1 k.1

memory_alone : (f : LexFault) → (f ≢ NoMemory → ⊥) → f ≡ NoMemory
memory_alone (NotUtf8 line) h = absurd (h (λ e. cc))
memory_alone (Bad line) h = absurd (h (λ e. cc))
memory_alone (LongText line) h = absurd (h (λ e. cc))
memory_alone (WideInt line) h = absurd (h (λ e. cc))
memory_alone (OpenComment line) h = absurd (h (λ e. cc))
memory_alone NoMemory h = refl

-- what an answer means for a file that has tokens, or a fault
pub tokens_answered : (bytes : List ℕ) (answer : Result Tokens LexFault) → IfOk answer (λ tokens. Lexes bytes tokens)
    → IfErr answer (λ fault. fault ≢ NoMemory → IsLexFault bytes fault)
    → (tokens : Tokens) → Lexes bytes tokens → MatchResult answer (λ found. found ≡ tokens) (λ fault. fault ≡ NoMemory)
tokens_answered bytes (Ok found) ok err tokens h = Lexes-unique bytes found tokens ok h
tokens_answered bytes (Err fault) ok err tokens h = memory_alone fault (λ given. Lexes-or_fault bytes tokens fault h (err given))

pub fault_answered : (bytes : List ℕ) (answer : Result Tokens LexFault) → IfOk answer (λ tokens. Lexes bytes tokens)
    → IfErr answer (λ fault. fault ≢ NoMemory → IsLexFault bytes fault)
    → (fault : LexFault) → IsLexFault bytes fault → MatchResult answer (λ found. ⊥) (λ given. given ≢ NoMemory → given ≡ fault)
fault_answered bytes (Ok found) ok err fault h = Lexes-or_fault bytes found fault ok h
fault_answered bytes (Err given) ok err fault h = λ apart. IsLexFault-unique bytes given fault (err apart) h
