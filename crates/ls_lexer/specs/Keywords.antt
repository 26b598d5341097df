-- The keywords, and the symbols.
use Rattle.std.specs.Prelude.{ℕ, Bool, ◌==◌, ◌&&◌, if◌then◌else◌, List, [], ◌∷◌, Option, Some, None, codes, find}
use Rattle.std.specs.Option.{option_map}
use Rattle.std.specs.Str.{bytes_eq}
use Rattle.ls_ops.specs.declared.kinds.Op.{Op}
use Rattle.ls_ops.specs.Signature.{is_prefix, symbol_of}
use Rattle.ls_ops.specs.Symbols.{all_operators}
use Rattle.ls_lexer.specs.declared.token.Fixed.{Fixed}
use Rattle.ls_lexer.specs.declared.token.Fixed.TheVariants.{KwAnd, KwAutomaton, KwClock, KwContinue, KwDo, KwDone, KwElse, KwEmit, KwEnd, KwEvery, KwFalse, KwFby, KwIf, KwIn, KwLast, KwLet, KwMatch, KwMerge, KwMod, KwNode, KwNot, KwOr, KwPre, KwPresent, KwRec, KwReset, KwRun, KwThen, KwTrue, KwType, KwUnless, KwUntil, KwWhen, KwWhenot, KwWhere, KwWith, KwXor, ParenLeft, ParenRight, Comma, Equal, Differ, Less, LessEq, Greater, GreaterEq, Plus, Minus, Star, Slash, Arrow, Ampersand, Bar, Question}
use Rattle.ls_lexer.specs.declared.keyword.Keyword.{Keyword}
use Rattle.ls_lexer.specs.declared.keyword.Keyword.TheVariants.{Fixed as Only, Prefix}

-- each keyword that is a token of its own, with its token
abbrev pub words : List (List ℕ × Fixed)
words =
    (codes "and", KwAnd) ∷ (codes "automaton", KwAutomaton) ∷ (codes "clock", KwClock) ∷ (codes "continue", KwContinue)
    ∷ (codes "do", KwDo) ∷ (codes "done", KwDone) ∷ (codes "else", KwElse) ∷ (codes "emit", KwEmit)
    ∷ (codes "end", KwEnd) ∷ (codes "every", KwEvery) ∷ (codes "false", KwFalse) ∷ (codes "fby", KwFby)
    ∷ (codes "if", KwIf) ∷ (codes "in", KwIn) ∷ (codes "last", KwLast) ∷ (codes "let", KwLet) ∷ (codes "match", KwMatch)
    ∷ (codes "merge", KwMerge) ∷ (codes "mod", KwMod) ∷ (codes "node", KwNode) ∷ (codes "not", KwNot)
    ∷ (codes "or", KwOr) ∷ (codes "pre", KwPre) ∷ (codes "present", KwPresent) ∷ (codes "rec", KwRec)
    ∷ (codes "reset", KwReset) ∷ (codes "run", KwRun) ∷ (codes "then", KwThen) ∷ (codes "true", KwTrue)
    ∷ (codes "type", KwType) ∷ (codes "unless", KwUnless) ∷ (codes "until", KwUntil) ∷ (codes "when", KwWhen)
    ∷ (codes "whenot", KwWhenot) ∷ (codes "where", KwWhere) ∷ (codes "with", KwWith) ∷ (codes "xor", KwXor) ∷ []

-- the token of a word in a table, if it is there
abbrev pub word_in : List (List ℕ × Fixed) → List ℕ → Option Fixed
word_in rows word = option_map (λ row. row.1) (find (λ row. bytes_eq row.0 word) rows)

-- the operator stands before its operands, and the word is its symbol
abbrev pub is_prefix_word : List ℕ → Op → Bool
is_prefix_word word op = is_prefix op && bytes_eq (symbol_of op) word

-- the operator that is written before its operands by a word, if there is one
abbrev pub prefix_of : List ℕ → Option Op
prefix_of word = find (is_prefix_word word) all_operators

-- an operator's word is its keyword, and any other word is one where it is a token of its own
abbrev pub keyword_or : Option Op → Option Fixed → Option Keyword
keyword_or (Some op) word = Some (Prefix op)
keyword_or None word = option_map Only word

-- the keyword that a word is, if it is one
abbrev pub keyword_of : List ℕ → Option Keyword
keyword_of word = keyword_or (prefix_of word) (word_in words word)

-- the symbol of two characters: `<>` `<=` `>=` `->` `&&` `||`, where `&&` is `&` and `||` is `or`
abbrev pub symbol_of_two : ℕ → ℕ → Option Fixed
symbol_of_two c d =
    if c == 60 && d == 62 then Some Differ else (if c == 60 && d == 61 then Some LessEq else (if c == 62 && d == 61 then Some GreaterEq
    else (if c == 45 && d == 62 then Some Arrow else (if c == 38 && d == 38 then Some Ampersand else (if c == 124 && d == 124 then Some KwOr else None)))))

-- the symbol of one character: `(` `)` `,` `=` `<` `>` `+` `-` `*` `/` `&` `|` `?`
abbrev pub symbol_of_one : ℕ → Option Fixed
symbol_of_one c =
    if c == 40 then Some ParenLeft else (if c == 41 then Some ParenRight else (if c == 44 then Some Comma else (if c == 61 then Some Equal
    else (if c == 60 then Some Less else (if c == 62 then Some Greater else (if c == 43 then Some Plus else (if c == 45 then Some Minus
    else (if c == 42 then Some Star else (if c == 47 then Some Slash else (if c == 38 then Some Ampersand else (if c == 124 then Some Bar
    else (if c == 63 then Some Question else None))))))))))))
