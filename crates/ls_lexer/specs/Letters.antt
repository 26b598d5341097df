-- The keywords by their first letters, as they are looked up.
use Rattle.std.specs.Prelude.{ℕ, ◌==◌, if◌then◌else◌, List, [], ◌∷◌, Option, None, codes, map, find}
use Rattle.std.specs.Option.{option_map}
use Rattle.std.specs.Str.{bytes_eq}
use denote.Ref.{Bor}
use Rattle.ls_ops.specs.declared.kinds.Op.TheVariants.{Min, Max, Sign, Odd, IntOfChar, IsDigit, IsLetter}
use Rattle.ls_lexer.specs.declared.token.Fixed.TheVariants.{KwAnd, KwAutomaton, KwClock, KwContinue, KwDo, KwDone, KwElse, KwEmit, KwEnd, KwEvery, KwFalse, KwFby, KwIf, KwIn, KwLast, KwLet, KwMatch, KwMerge, KwMod, KwNode, KwNot, KwOr, KwPre, KwPresent, KwRec, KwReset, KwRun, KwThen, KwTrue, KwType, KwUnless, KwUntil, KwWhen, KwWhenot, KwWhere, KwWith, KwXor}
use Rattle.ls_lexer.specs.declared.keyword.Keyword.{Keyword}
use Rattle.ls_lexer.specs.declared.keyword.Keyword.TheVariants.{Fixed as Only, Prefix as Before}

-- the keywords of a first letter
abbrev pub Letter : Type 0
Letter = ℕ × List (List ℕ × Keyword)

abbrev pub letters : List Letter
letters =
    (97, (codes "and", Only KwAnd) ∷ (codes "automaton", Only KwAutomaton) ∷ [])
    ∷ (99, (codes "clock", Only KwClock) ∷ (codes "continue", Only KwContinue) ∷ [])
    ∷ (100, (codes "do", Only KwDo) ∷ (codes "done", Only KwDone) ∷ [])
    ∷ (101, (codes "else", Only KwElse) ∷ (codes "emit", Only KwEmit) ∷ (codes "end", Only KwEnd) ∷ (codes "every", Only KwEvery) ∷ [])
    ∷ (102, (codes "false", Only KwFalse) ∷ (codes "fby", Only KwFby) ∷ [])
    ∷ (105, (codes "if", Only KwIf) ∷ (codes "in", Only KwIn) ∷ (codes "int_of_char", Before IntOfChar) ∷ (codes "is_digit", Before IsDigit) ∷ (codes "is_letter", Before IsLetter) ∷ [])
    ∷ (108, (codes "last", Only KwLast) ∷ (codes "let", Only KwLet) ∷ [])
    ∷ (109, (codes "match", Only KwMatch) ∷ (codes "max", Before Max) ∷ (codes "merge", Only KwMerge) ∷ (codes "min", Before Min) ∷ (codes "mod", Only KwMod) ∷ [])
    ∷ (110, (codes "node", Only KwNode) ∷ (codes "not", Only KwNot) ∷ [])
    ∷ (111, (codes "odd", Before Odd) ∷ (codes "or", Only KwOr) ∷ [])
    ∷ (112, (codes "pre", Only KwPre) ∷ (codes "present", Only KwPresent) ∷ [])
    ∷ (114, (codes "rec", Only KwRec) ∷ (codes "reset", Only KwReset) ∷ (codes "run", Only KwRun) ∷ [])
    ∷ (115, (codes "sign", Before Sign) ∷ [])
    ∷ (116, (codes "then", Only KwThen) ∷ (codes "true", Only KwTrue) ∷ (codes "type", Only KwType) ∷ [])
    ∷ (117, (codes "unless", Only KwUnless) ∷ (codes "until", Only KwUntil) ∷ [])
    ∷ (119, (codes "when", Only KwWhen) ∷ (codes "whenot", Only KwWhenot) ∷ (codes "where", Only KwWhere) ∷ (codes "with", Only KwWith) ∷ [])
    ∷ (120, (codes "xor", Only KwXor) ∷ [])
    ∷ []

-- what a word is in a table, if it is there
abbrev pub keyword_in : List (List ℕ × Keyword) → List ℕ → Option Keyword
keyword_in rows word = option_map (λ row. row.1) (find (λ row. bytes_eq row.0 word) rows)

-- the rows of a table as the code has it
abbrev pub entries : List (Bor (List ℕ) × Keyword) → List (List ℕ × Keyword)
entries rows = map (λ row. (row.0.now, row.1)) rows

-- the same look-up in the rows as the code has them
abbrev pub first_in : List (Bor (List ℕ) × Keyword) → List ℕ → Option Keyword
first_in rows word = option_map (λ row. row.1) (find (λ row. bytes_eq row.0.now word) rows)

-- what a word is among the keywords that begin with c
abbrev pub keyword_from : List Letter → ℕ → List ℕ → Option Keyword
keyword_from [] c word = None
keyword_from (letter ∷ rest) c word = if c == letter.0 then keyword_in letter.1 word else keyword_from rest c word

-- what a word is among the keywords of its first letter
abbrev pub by_letter : List ℕ → Option Keyword
by_letter [] = None
by_letter (c ∷ cs) = keyword_from letters c (c ∷ cs)
