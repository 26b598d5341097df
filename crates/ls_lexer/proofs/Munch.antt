-- The piece at the front of a text is that of each longer front.
use Rattle.std.proofs.Common.{◌≡◌, ℕ, zero, suc, ◌+◌, ◌-◌, ◌<◌, ◌≤◌, Bool, true, false, ◌==◌, ◌&&◌, nat_le, if◌then◌else◌, List, [], ◌∷◌, take, Option, Some, None, Result, Ok, refl, sym, ap, ◌∙◌, arith}
use Rattle.std.proofs.lemmas.Bool.Decides.{nat_tests}
use Rattle.ls_base.specs.declared.Line.{Line}
use Rattle.ls_lexer.specs.declared.token.Fixed.{Fixed}
use Rattle.ls_lexer.specs.declared.token.Fixed.TheVariants.{Underscore}
use Rattle.ls_lexer.specs.declared.fault.LexFault.{LexFault}
use Rattle.ls_lexer.specs.declared.fault.LexFault.TheVariants.{Bad, OpenComment}
use Rattle.ls_lexer.specs.declared.scan.Turn.{Turn}
use Rattle.ls_lexer.specs.declared.scan.Turn.TheVariants.{Opens, Closes, Passes}
use Rattle.ls_lexer.specs.declared.scan.Inside.{Inside}
use Rattle.ls_lexer.specs.declared.scan.Inside.TheVariants.{Plain, Backslash, Quote, Wrong}
use Rattle.ls_lexer.specs.declared.piece.Kind.{Kind}
use Rattle.ls_lexer.specs.declared.piece.Kind.TheVariants.{Blank, Comment, Word, Number, Char, Text, Symbol}
use Rattle.ls_lexer.specs.declared.piece.Piece.{Piece}
use Rattle.ls_lexer.specs.Characters.{is_blank, is_digit, begins_word, continues_word, front_len}
use Rattle.ls_lexer.specs.Keywords.{symbol_of_one, symbol_of_two}
use Rattle.ls_lexer.specs.Pieces.{behind, turn_of, after_turn, comments_len, comment_len, inside_of, after_inside, closing_len, piece, piece_or, word_piece, symbol_piece, symbol_at, begins_comment, piece_at}

-- a length with one more before it
one_more : (o : Option ℕ) (n : ℕ) → behind 1 o ≡ Some n → (m : ℕ) × (o ≡ Some m) × (suc m ≡ n)
one_more None n e = absurd (cc)
one_more (Some m) n e = (m, refl, let sum : 1 + m ≡ n = cc in omega arith)

one_some : (n m : ℕ) (o : Option ℕ) → o ≡ Some m → suc m ≡ n → behind 1 o ≡ Some n
one_some n m o e s = ap (behind 1) e ∙ ap (λ (x : ℕ). Some x) (let sum : 1 + m ≡ n = omega arith in sum)

front_step : (test : ℕ → Bool) (c : ℕ) (cs : List ℕ) (k : ℕ) → (front_len test cs ≤ k → front_len test (take k cs) ≡ front_len test cs)
    → (b : Bool) → test c ≡ b → front_len test (c ∷ cs) ≤ suc k → front_len test (c ∷ take k cs) ≡ front_len test (c ∷ cs)
front_step test c cs k later true e h =
    let long : front_len test (c ∷ cs) ≡ 1 + front_len test cs = λ i. if e i then 1 + front_len test cs else 0 in
    let cut : front_len test (c ∷ take k cs) ≡ 1 + front_len test (take k cs) = λ i. if e i then 1 + front_len test (take k cs) else 0 in
    cut ∙ ap (λ n. 1 + n) (later (omega (arith, long, h))) ∙ sym long
front_step test c cs k later false e h =
    (λ i. if e i then 1 + front_len test (take k cs) else 0) ∙ sym (λ i. if e i then 1 + front_len test cs else 0)

-- the longest front of a class is that of each longer front
front_stays : (test : ℕ → Bool) (cs : List ℕ) (k : ℕ) → front_len test cs ≤ k → front_len test (take k cs) ≡ front_len test cs
front_stays test [] zero h = refl
front_stays test [] (suc k) h = refl
front_stays test (c ∷ cs) zero h = let n = front_len test (c ∷ cs) in let at : 0 ≡ n = omega (arith, h) in at
front_stays test (c ∷ cs) (suc k) h = front_step test c cs k (front_stays test cs k) (test c) refl h

-- where one of two lengths is told, it is told of a longer front
abbrev Stays : ℕ → Option ℕ → Option ℕ → Type 0
Stays k o cut = (m : ℕ) → o ≡ Some m → m ≤ k → cut ≡ Some m

inside_step : (k m : ℕ) (at : Inside) (p e p' e' : Option ℕ) → Stays k p p' → Stays k e e' → after_inside at p e ≡ Some m → m ≤ suc k → after_inside at p' e' ≡ Some m
inside_step k m Plain p e p' e' hp he h small =
    let more = one_more p m h in let next = more.2 in one_some m more.0 p' (hp more.0 more.1 (omega (arith, next, small))) next
inside_step k m Backslash p e p' e' hp he h small =
    let more = one_more e m h in let next = more.2 in one_some m more.0 e' (he more.0 more.1 (omega (arith, next, small))) next
inside_step k m Quote p e p' e' hp he h small = h
inside_step k m Wrong p e p' e' hp he h small = absurd (cc)

inside_some : (m : ℕ) (at : Inside) (p e : Option ℕ) → after_inside at p e ≡ Some m → 1 ≤ m
inside_some m Plain p e h = let more = one_more p m h in let next = more.2 in omega (arith, next)
inside_some m Backslash p e h = let more = one_more e m h in let next = more.2 in omega (arith, next)
inside_some m Quote p e h = let one : 1 ≡ m = cc in omega (arith, one)
inside_some m Wrong p e h = absurd (cc)

closing_stays : (quote : ℕ) (after : Bool) (cs : List ℕ) (k : ℕ) → Stays k (closing_len quote after cs) (closing_len quote after (take k cs))
closing_stays quote after [] k m h small = absurd (cc)
closing_stays quote after (c ∷ cs) zero m h small =
    let some = inside_some m (inside_of quote after c) (closing_len quote false cs) (closing_len quote true cs) h in absurd (omega (arith, some, small))
closing_stays quote after (c ∷ cs) (suc k) m h small =
    inside_step k m (inside_of quote after c) (closing_len quote false cs) (closing_len quote true cs) (closing_len quote false (take k cs)) (closing_len quote true (take k cs))
    (closing_stays quote false cs k) (closing_stays quote true cs k) h small

last_step : (k m : ℕ) (last : Bool) (f f' : Option ℕ) → Stays k f f' → (if last then Some 1 else behind 1 f) ≡ Some m → m ≤ suc k → (if last then Some 1 else behind 1 f') ≡ Some m
last_step k m true f f' hf h small = h
last_step k m false f f' hf h small =
    let more = one_more f m h in let next = more.2 in one_some m more.0 f' (hf more.0 more.1 (omega (arith, next, small))) next

turn_step : (k m depth : ℕ) (turn : Turn) (a f o a' f' o' : Option ℕ) → Stays k a a' → Stays k f f' → Stays k o o'
    → after_turn turn depth a f o ≡ Some m → m ≤ suc k → after_turn turn depth a' f' o' ≡ Some m
turn_step k m depth Opens a f o a' f' o' ha hf ho h small =
    let more = one_more a m h in let next = more.2 in one_some m more.0 a' (ha more.0 more.1 (omega (arith, next, small))) next
turn_step k m depth Closes a f o a' f' o' ha hf ho h small = last_step k m (nat_le depth 1) f f' hf h small
turn_step k m depth Passes a f o a' f' o' ha hf ho h small =
    let more = one_more o m h in let next = more.2 in one_some m more.0 o' (ho more.0 more.1 (omega (arith, next, small))) next

last_some : (m : ℕ) (last : Bool) (f : Option ℕ) → (if last then Some 1 else behind 1 f) ≡ Some m → 1 ≤ m
last_some m true f h = let one : 1 ≡ m = cc in omega (arith, one)
last_some m false f h = let more = one_more f m h in let next = more.2 in omega (arith, next)

turn_some : (m depth : ℕ) (turn : Turn) (a f o : Option ℕ) → after_turn turn depth a f o ≡ Some m → 1 ≤ m
turn_some m depth Opens a f o h = let more = one_more a m h in let next = more.2 in omega (arith, next)
turn_some m depth Closes a f o h = last_some m (nat_le depth 1) f h
turn_some m depth Passes a f o h = let more = one_more o m h in let next = more.2 in omega (arith, next)

comments_some : (depth before : ℕ) (cs : List ℕ) (m : ℕ) → comments_len depth before cs ≡ Some m → 1 ≤ m
comments_some depth before [] m h = absurd (cc)
comments_some depth before (c ∷ cs) m h =
    turn_some m depth (turn_of before c) (comments_len (depth + 1) 0 cs) (comments_len (depth - 1) 0 cs) (comments_len depth c cs) h

comments_stay : (depth before : ℕ) (cs : List ℕ) (k : ℕ) → Stays k (comments_len depth before cs) (comments_len depth before (take k cs))
comments_stay depth before [] k m h small = absurd (cc)
comments_stay depth before (c ∷ cs) zero m h small = let some = comments_some depth before (c ∷ cs) m h in absurd (omega (arith, some, small))
comments_stay depth before (c ∷ cs) (suc k) m h small =
    turn_step k m depth (turn_of before c) (comments_len (depth + 1) 0 cs) (comments_len (depth - 1) 0 cs) (comments_len depth c cs)
    (comments_len (depth + 1) 0 (take k cs)) (comments_len (depth - 1) 0 (take k cs)) (comments_len depth c (take k cs))
    (comments_stay (depth + 1) 0 cs k) (comments_stay (depth - 1) 0 cs k) (comments_stay depth c cs k) h small

abbrev Answer : Type 0
Answer = Result Piece LexFault

piece_or_len : (f : LexFault) (kind : Kind) (o : Option ℕ) (p : Piece) → piece_or f kind o ≡ Ok p → o ≡ Some p.len
piece_or_len f kind None p h = absurd (cc)
piece_or_len f kind (Some n) p h = let same : piece kind n ≡ p = cc in ap (λ (x : Piece). Some x.len) same

-- a piece by a length stays where the length does
piece_or_stays : (f : LexFault) (kind : Kind) (k : ℕ) (o cut : Option ℕ) (p : Piece) → Stays k o cut → piece_or f kind o ≡ Ok p → p.len ≤ k → piece_or f kind cut ≡ Ok p
piece_or_stays f kind k o cut p stays h small =
    let is = piece_or_len f kind o p h in ap (piece_or f kind) (stays p.len is small ∙ sym is) ∙ h

behind_stays : (k : ℕ) (o cut : Option ℕ) → Stays k o cut → Stays (suc k) (behind 1 o) (behind 1 cut)
behind_stays k o cut stays m h small =
    let more = one_more o m h in let next = more.2 in one_some m more.0 cut (stays more.0 more.1 (omega (arith, next, small))) next

is_zero : (n : ℕ) → (n == 0) ≡ true → n ≤ 0
is_zero n h = grind (arith, nat_tests)

second : (a b : Bool) → (a && b) ≡ true → b ≡ true
second true b h = h
second false b h = absurd (cc)

word_fits : (lone : Bool) (more k : ℕ) (p : Piece) → (lone ≡ true → more ≤ 0) → ◌≡◌ {A = Answer} (Ok (if lone then piece (Symbol Underscore) 1 else piece Word (1 + more))) (Ok p) → p.len ≤ suc k → more ≤ k
word_fits true more k p none h small = let few = none refl in omega (arith, few)
word_fits false more k p none h small =
    let same : piece Word (1 + more) ≡ p = cc in let long : 1 + more ≡ p.len = ap (λ (x : Piece). x.len) same in omega (arith, long, small)

word_stays : (c : ℕ) (cs : List ℕ) (k : ℕ) (p : Piece) → ◌≡◌ {A = Answer} (Ok (word_piece c (front_len continues_word cs))) (Ok p) → p.len ≤ suc k
    → ◌≡◌ {A = Answer} (Ok (word_piece c (front_len continues_word (take k cs)))) (Ok p)
word_stays c cs k p h small =
    let more = front_len continues_word cs in
    let fits = word_fits (c == 95 && more == 0) more k p (λ e. is_zero more (second (c == 95) (more == 0) e)) h small in
    ap (λ (n : ℕ). Ok (word_piece c n)) (front_stays continues_word cs k fits) ∙ h

number_stays : (cs : List ℕ) (k : ℕ) (p : Piece) → ◌≡◌ {A = Answer} (Ok (piece Number (1 + front_len is_digit cs))) (Ok p) → p.len ≤ suc k
    → ◌≡◌ {A = Answer} (Ok (piece Number (1 + front_len is_digit (take k cs)))) (Ok p)
number_stays cs k p h small =
    let same : piece Number (1 + front_len is_digit cs) ≡ p = cc in
    let long : 1 + front_len is_digit cs ≡ p.len = ap (λ (x : Piece). x.len) same in
    ap (λ (n : ℕ). Ok (piece Number (1 + n))) (front_stays is_digit cs k (omega (arith, long, small))) ∙ h

-- where a comment or a symbol stands, it stands at the front of a longer front
abbrev rest_at : Line → List ℕ → Answer
rest_at line text = if begins_comment text then piece_or (OpenComment line) Comment (comment_len text) else symbol_at line text

short_symbol : (line : Line) (two one : Option Fixed) (p : Piece) → symbol_piece line two one ≡ Ok p → p.len ≤ 1 → symbol_piece line None one ≡ Ok p
short_symbol line (Some two) one p h small =
    let same : piece (Symbol two) 2 ≡ p = cc in let long : 2 ≡ p.len = ap (λ (x : Piece). x.len) same in absurd (omega (arith, long, small))
short_symbol line None one p h small = h

first_alone : (line : Line) (f : LexFault) (comment : Bool) (o : Option ℕ) (two one : Option Fixed) (p : Piece) → ((m : ℕ) → o ≡ Some m → 2 ≤ m)
    → (if comment then piece_or f Comment o else symbol_piece line two one) ≡ Ok p → p.len ≤ 1 → symbol_piece line None one ≡ Ok p
first_alone line f true o two one p long h small = let more = long p.len (piece_or_len f Comment o p h) in absurd (omega (arith, more, small))
first_alone line f false o two one p long h small = short_symbol line two one p h small

first_two : (f : LexFault) (comment : Bool) (k : ℕ) (o cut : Option ℕ) (symbol : Answer) (p : Piece) → Stays k o cut
    → (if comment then piece_or f Comment o else symbol) ≡ Ok p → p.len ≤ k → (if comment then piece_or f Comment cut else symbol) ≡ Ok p
first_two f true k o cut symbol p stays h small = piece_or_stays f Comment k o cut p stays h small
first_two f false k o cut symbol p stays h small = h

-- a comment that begins with two characters has at least two
comment_long : (c d : ℕ) (ds : List ℕ) (m : ℕ) → comment_len (c ∷ d ∷ ds) ≡ Some m → 2 ≤ m
comment_long c d ds m h =
    let more = one_more (comments_len 0 c (d ∷ ds)) m h in
    let some = comments_some 0 c (d ∷ ds) more.0 more.1 in
    let next = more.2 in omega (arith, some, next)

rest_stays : (line : Line) (c : ℕ) (cs : List ℕ) (k : ℕ) (p : Piece) → rest_at line (c ∷ cs) ≡ Ok p → p.len ≤ suc k → rest_at line (c ∷ take k cs) ≡ Ok p
rest_stays line c [] zero p h small = h
rest_stays line c [] (suc k) p h small = h
rest_stays line c (d ∷ ds) zero p h small =
    first_alone line (OpenComment line) (c == 40 && d == 42) (comment_len (c ∷ d ∷ ds)) (symbol_of_two c d) (symbol_of_one c) p (comment_long c d ds) h
    (omega (arith, small))
rest_stays line c (d ∷ ds) (suc k) p h small =
    first_two (OpenComment line) (c == 40 && d == 42) (suc (suc k)) (comment_len (c ∷ d ∷ ds)) (comment_len (c ∷ d ∷ take k ds))
    (symbol_piece line (symbol_of_two c d) (symbol_of_one c)) p (comments_stay 0 0 (c ∷ d ∷ ds) (suc (suc k))) h small

-- the first test that passes is the same one
tests_stay : (b w d q s : Bool) (B W N Q S R W' N' Q' S' R' : Answer) (p : Piece) → (W ≡ Ok p → W' ≡ Ok p) → (N ≡ Ok p → N' ≡ Ok p)
    → (Q ≡ Ok p → Q' ≡ Ok p) → (S ≡ Ok p → S' ≡ Ok p) → (R ≡ Ok p → R' ≡ Ok p)
    → (if b then B else (if w then W else (if d then N else (if q then Q else (if s then S else R))))) ≡ Ok p
    → (if b then B else (if w then W' else (if d then N' else (if q then Q' else (if s then S' else R'))))) ≡ Ok p
tests_stay true w d q s B W N Q S R W' N' Q' S' R' p hw hd hq hs hr h = h
tests_stay false true d q s B W N Q S R W' N' Q' S' R' p hw hd hq hs hr h = hw h
tests_stay false false true q s B W N Q S R W' N' Q' S' R' p hw hd hq hs hr h = hd h
tests_stay false false false true s B W N Q S R W' N' Q' S' R' p hw hd hq hs hr h = hq h
tests_stay false false false false true B W N Q S R W' N' Q' S' R' p hw hd hq hs hr h = hs h
tests_stay false false false false false B W N Q S R W' N' Q' S' R' p hw hd hq hs hr h = hr h

piece_stays : (line : Line) (c : ℕ) (cs : List ℕ) (k : ℕ) (p : Piece) → piece_at line (c ∷ cs) ≡ Ok p → p.len ≤ suc k → piece_at line (c ∷ take k cs) ≡ Ok p
piece_stays line c cs k p h small =
    tests_stay (is_blank c) (begins_word c) (is_digit c) (c == 39) (c == 34) (Ok (piece Blank 1))
    (Ok (word_piece c (front_len continues_word cs))) (Ok (piece Number (1 + front_len is_digit cs)))
    (piece_or (Bad line) Char (behind 1 (closing_len 39 false cs))) (piece_or (Bad line) Text (behind 1 (closing_len 34 false cs))) (rest_at line (c ∷ cs))
    (Ok (word_piece c (front_len continues_word (take k cs)))) (Ok (piece Number (1 + front_len is_digit (take k cs))))
    (piece_or (Bad line) Char (behind 1 (closing_len 39 false (take k cs)))) (piece_or (Bad line) Text (behind 1 (closing_len 34 false (take k cs)))) (rest_at line (c ∷ take k cs))
    p
    (λ e. word_stays c cs k p e small)
    (λ e. number_stays cs k p e small)
    (λ e. piece_or_stays (Bad line) Char (suc k) (behind 1 (closing_len 39 false cs)) (behind 1 (closing_len 39 false (take k cs))) p
    (behind_stays k (closing_len 39 false cs) (closing_len 39 false (take k cs)) (closing_stays 39 false cs k)) e small)
    (λ e. piece_or_stays (Bad line) Text (suc k) (behind 1 (closing_len 34 false cs)) (behind 1 (closing_len 34 false (take k cs))) p
    (behind_stays k (closing_len 34 false cs) (closing_len 34 false (take k cs)) (closing_stays 34 false cs k)) e small)
    (λ e. rest_stays line c cs k p e small)
    h

-- the piece at the front of a text is that of each front that holds it
pub front_has_piece : (line : Line) (text : List ℕ) (p : Piece) (n : ℕ) → piece_at line text ≡ Ok p → p.len ≤ n → 0 < n → piece_at line (take n text) ≡ Ok p
front_has_piece line [] p n h small some = absurd (cc)
front_has_piece line (c ∷ cs) p zero h small some = absurd (omega (arith, some))
front_has_piece line (c ∷ cs) p (suc k) h small some = piece_stays line c cs k p h small

-- so no longer front is a piece as a whole
pub no_longer_piece : (line : Line) (text : List ℕ) (p : Piece) (n : ℕ) (kind : Kind) → piece_at line text ≡ Ok p → p.len < n → piece_at line (take n text) ≡ Ok (piece kind n) → ⊥
no_longer_piece line text p n kind h less whole =
    let first = front_has_piece line text p n h (omega (arith, less)) (omega (arith, less)) in
    let same : p ≡ piece kind n = cc in
    let long : p.len ≡ n = ap (λ (x : Piece). x.len) same in omega (arith, long, less)
