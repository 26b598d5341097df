-- The names of the tokens that were read.
use Rattle.std.proofs.Common.{◌≡◌, ℕ, zero, suc, Bool, true, false, if◌then◌else◌, List, [], ◌∷◌, ◌++◌, take, slice_get, slice_index_or, codes, Option, Some, None, Result, Ok, Err, IfOk, All, encode_utf8_all, refl, sym, ap, subst, ◌∙◌}
use Rattle.std.specs.List.{list_any}
use Rattle.std.specs.Str.{bytes_eq, chars}
use Rattle.std.proofs.lemmas.Bool.{cond-true, cond-false}
use Rattle.std.proofs.lemmas.List.Elements.{All-push, All-nil}
use Rattle.ls_base.specs.declared.Line.{Line}
use Rattle.ls_base.specs.declared.Name.{Name}
use Rattle.ls_base.specs.Names.{with_name}
use Rattle.ls_base.proofs.Spellings.{slice_get-append}
use Rattle.ls_lexer.specs.declared.token.Token.{Token}
use Rattle.ls_lexer.specs.declared.token.Token.TheVariants.{Id, Cons, Int, Char, Text, Prefix, Fixed}
use Rattle.ls_lexer.specs.declared.token.Tokens.{Tokens}
use Rattle.ls_lexer.specs.declared.fault.LexFault.{LexFault}
use Rattle.ls_lexer.specs.declared.keyword.Keyword.{Keyword}
use Rattle.ls_lexer.specs.declared.keyword.Keyword.TheVariants.{Fixed as Only, Prefix as Before}
use Rattle.ls_lexer.specs.declared.piece.Kind.{Kind}
use Rattle.ls_lexer.specs.declared.piece.Kind.TheVariants.{Blank, Comment, Word, Number, Char as Quoted, Text as LongQuoted, Symbol}
use Rattle.ls_lexer.specs.Keywords.{keyword_of}
use Rattle.ls_lexer.specs.Lexing.{begins_with_capital, Adds, AddsWord, AddsPiece, State, Leads, start, IsNamed, HasNames, Lexes}

-- a spelling keeps its number
abbrev Keeps : List (List ℕ) → List (List ℕ) → Type 0
Keeps old new = (n : ℕ) (known : List ℕ) → slice_get old n ≡ Some known → slice_get new n ≡ Some known

with_keeps : (names : List (List ℕ)) (q : List ℕ) → Keeps names (with_name names q)
with_keeps names q n known at = by (list_any (bytes_eq q) names) refl
  where
    by : (b : Bool) → list_any (bytes_eq q) names ≡ b → slice_get (with_name names q) n ≡ Some known
    by true e = ap (λ (xs : List (List ℕ)). slice_get xs n) (cond-true _ _ _ e) ∙ at
    by false e = ap (λ (xs : List (List ℕ)). slice_get xs n) (cond-false _ _ _ e) ∙ slice_get-append names (q ∷ []) n known at

named_still : (old new : List (List ℕ)) (token : Token) → Keeps old new → IsNamed old token → IsNamed new token
named_still old new (Id name) keeps h = (h.0, keeps name.0 h.0 h.1)
named_still old new (Cons name) keeps h = (h.0, keeps name.0 h.0 h.1)
named_still old new (Int n) keeps h = tt
named_still old new (Char c) keeps h = tt
named_still old new (Text t) keeps h = tt
named_still old new (Prefix op) keeps h = tt
named_still old new (Fixed word) keeps h = tt

all_still : (old new : List (List ℕ)) (entries : List (Line × Token)) → Keeps old new → All (λ entry. IsNamed old entry.1) entries → All (λ entry. IsNamed new entry.1) entries
all_still old new entries keeps h = λ k d within. named_still old new (slice_index_or entries k d).1 keeps (h k d within)

-- one token more, with its name
one_more : (line : Line) (token : Token) (old new : Tokens) → Keeps old.names new.names → IsNamed new.names token → new.list ≡ old.list ++ (line, token) ∷ [] → HasNames old → HasNames new
one_more line token old new keeps named list h =
    let P : List (Line × Token) → Type 0 = λ entries. All (λ entry. IsNamed new.names entry.1) entries in (
      keeps 0 _ h.0,
      keeps 1 _ h.1,
      subst P (sym list) (All-push (λ (entry : Line × Token). IsNamed new.names entry.1) old.list (line, token)
          (all_still old.names new.names old.list keeps h.2) named),
    )

same_names : (old new : Tokens) → new.names ≡ old.names → Keeps old.names new.names
same_names old new e n known at = ap (λ (xs : List (List ℕ)). slice_get xs n) e ∙ at

Adds-names : (line : Line) (token : Token) (old new : Tokens) → IsNamed new.names token → Adds line token old new → HasNames old → HasNames new
Adds-names line token old new named h k = one_more line token old new (same_names old new h.1) named h.0 k

named_either : (capital : Bool) (name : Name) (names : List (List ℕ)) (q : List ℕ) → slice_get names name.0 ≡ Some q → IsNamed names (if capital then Cons name else Id name)
named_either true name names q h = (q, h)
named_either false name names q h = (q, h)

AddsWord-names : (keyword : Option Keyword) (line : Line) (spelling : List ℕ) (old new : Tokens) → AddsWord keyword line spelling old new → HasNames old → HasNames new
AddsWord-names (Some (Only word)) line spelling old new h k = Adds-names line (Fixed word) old new tt h k
AddsWord-names (Some (Before op)) line spelling old new h k = Adds-names line (Prefix op) old new tt h k
AddsWord-names None line spelling old new (name, names, at, list) k =
    let q = encode_utf8_all spelling in
    let P : List (List ℕ) → Type 0 = λ xs. Keeps old.names xs in
    one_more line (if begins_with_capital spelling then Cons name else Id name) old new (subst P (sym names) (with_keeps old.names q))
    (named_either (begins_with_capital spelling) name new.names q at) list k

AddsPiece-names : (kind : Kind) (line : Line) (spelling : List ℕ) (old new : Tokens) → AddsPiece kind line spelling old new → HasNames old → HasNames new
AddsPiece-names Blank line spelling old new h k = subst HasNames (sym h) k
AddsPiece-names Comment line spelling old new h k = subst HasNames (sym h) k
AddsPiece-names Word line spelling old new h k = AddsWord-names (keyword_of (encode_utf8_all spelling)) line spelling old new h k
AddsPiece-names Number line spelling old new h k = Adds-names line _ old new tt h.1 k
AddsPiece-names Quoted line spelling old new h k = Adds-names line _ old new tt h.2 k
AddsPiece-names LongQuoted line spelling old new h k = Adds-names line _ old new tt h.3 k
AddsPiece-names (Symbol symbol) line spelling old new h k = Adds-names line (Fixed symbol) old new tt h k

Leads-names : (n : ℕ) (s t : State) → Leads n s t → HasNames s.tokens → HasNames t.tokens
Leads-names zero s t h k = subst (λ (x : State). HasNames x.tokens) h k
Leads-names (suc n) s t (m, (len, (piece, is, long, adds), left, line), rest) k =
    Leads-names n m t rest (AddsPiece-names piece.kind s.line (take len s.left) s.tokens m.tokens adds k)

-- what a file's tokens say of its names
pub Lexes-names : (bytes : List ℕ) (answer : Result Tokens LexFault) → IfOk answer (λ tokens. Lexes bytes tokens) → IfOk answer (λ tokens. HasNames tokens)
Lexes-names bytes (Ok tokens) (u, (n, end, leads, left, is)) = subst HasNames is (Leads-names n (start (chars bytes)) end leads (refl, refl, All-nil (λ (entry : Line × Token). IsNamed (codes "false" ∷ codes "true" ∷ []) entry.1)))
Lexes-names bytes (Err fault) h = tt
