-- A closed string stands for characters.
use Rattle.std.proofs.Common.{◌≡◌, ℕ, suc, ◌+◌, ◌<◌, Bool, true, false, ◌==◌, ◌&&◌, ◌||◌, not, nat_le, is_some, if◌then◌else◌, List, [], ◌∷◌, ◌++◌, take, Option, Some, None, encode_utf8_all, refl, ap, subst, ◌∙◌, arith}
use Rattle.std.proofs.lemmas.Bool.Decides.{nat_tests}
use Rattle.std.proofs.lemmas.Str.{encode_ascii}
use Rattle.ls_value.specs.Reading.{escape_value, plain_value, before, characters_after, IsToken}
use Rattle.ls_lexer.specs.declared.scan.Inside.{Inside}
use Rattle.ls_lexer.specs.declared.scan.Inside.TheVariants.{Plain, Backslash, Quote, Wrong}
use Rattle.ls_lexer.specs.Pieces.{behind, inside_of, after_inside, closing_len}

-- the front of a text is closed by the quote, and stands for characters
record Closed (quote : ℕ) (after : Bool) (front : List ℕ) : Type 0 where
  body : List ℕ
  characters : List ℕ
  ends : front ≡ body ++ quote ∷ []
  means : characters_after quote after body ≡ Some characters
  ascii : encode_utf8_all front ≡ front

-- a character of one byte before others
ascii_before : (c : ℕ) (front : List ℕ) → c < 128 → encode_utf8_all front ≡ front → encode_utf8_all (c ∷ front) ≡ c ∷ front
ascii_before c front h e = ap (λ xs. xs ++ encode_utf8_all front) (encode_ascii c h) ∙ ap (λ xs. c ∷ xs) e

-- a length with one more before it
one_more : (o : Option ℕ) (n : ℕ) → behind 1 o ≡ Some n → (m : ℕ) × (o ≡ Some m) × (suc m ≡ n)
one_more None n e = absurd (cc)
one_more (Some m) n e = (m, refl, let sum : 1 + m ≡ n = cc in omega arith)

some_of : (o : Option ℕ) → is_some o ≡ true → (d : ℕ) × (o ≡ Some d)
some_of None e = absurd (cc)
some_of (Some d) e = (d, refl)

-- which tests lead to what a character is
after_backslash : (e : Bool) → (if e then Plain else Wrong) ≡ Plain → e ≡ true
after_backslash true h = refl
after_backslash false h = absurd (cc)

plain_tests : (a b e : Bool) → (if a then Quote else (if b then Backslash else (if e then Plain else Wrong))) ≡ Plain → (b ≡ false) × (e ≡ true)
plain_tests true b e h = absurd (cc)
plain_tests false true e h = absurd (cc)
plain_tests false false true h = (refl, refl)
plain_tests false false false h = absurd (cc)

backslash_tests : (a b e : Bool) → (if a then Quote else (if b then Backslash else (if e then Plain else Wrong))) ≡ Backslash → b ≡ true
backslash_tests true b e h = absurd (cc)
backslash_tests false true e h = refl
backslash_tests false false true h = absurd (cc)
backslash_tests false false false h = absurd (cc)

quote_tests : (a b e : Bool) → (if a then Quote else (if b then Backslash else (if e then Plain else Wrong))) ≡ Quote → a ≡ true
quote_tests true b e h = refl
quote_tests false true e h = absurd (cc)
quote_tests false false true h = absurd (cc)
quote_tests false false false h = absurd (cc)

never_quote : (e : Bool) → (if e then Plain else Wrong) ≡ Quote → ⊥
never_quote true h = cc
never_quote false h = cc

never_backslash : (e : Bool) → (if e then Plain else Wrong) ≡ Backslash → ⊥
never_backslash true h = cc
never_backslash false h = cc

escape_tests : (a b e : Bool) (c : ℕ) → is_some (if a then Some 10 else (if b then Some 9 else (if e then Some c else None))) ≡ true
    → (a ≡ true → c < 128) → (b ≡ true → c < 128) → (e ≡ true → c < 128) → c < 128
escape_tests true b e c h x y z = x refl
escape_tests false true e c h x y z = y refl
escape_tests false false true c h x y z = z refl
escape_tests false false false c h x y z = absurd (cc)

escape_small : (c : ℕ) → is_some (escape_value c) ≡ true → c < 128
escape_small c h = escape_tests (c == 110) (c == 116) (c == 92 || c == 39 || c == 34) c h
    (λ e. grind (arith, nat_tests)) (λ e. grind (arith, nat_tests)) (λ e. grind (arith, nat_tests))

plain_test : (e : Bool) (c : ℕ) → is_some (if e then Some c else None) ≡ true → e ≡ true
plain_test true c h = refl
plain_test false c h = absurd (cc)

plain_small : (quote c : ℕ) → is_some (plain_value quote c) ≡ true → c < 128
plain_small quote c h =
    let test = plain_test (nat_le 32 c && nat_le c 126 && not (c == 92 || c == quote)) c h in grind (arith, nat_tests)

is_number : (a b : ℕ) → (a == b) ≡ true → a ≡ b
is_number a b h = grind (arith, nat_tests)

-- what is closed is closed
abbrev Front : ℕ → Bool → List ℕ → Type 0
Front quote after cs = (m : ℕ) → closing_len quote after cs ≡ Some m → Closed quote after (take m cs)

longer : (quote c n m : ℕ) (after : Bool) (cs : List ℕ) → suc m ≡ n → Closed quote after (c ∷ take m cs) → Closed quote after (take n (c ∷ cs))
longer quote c n m after cs e h = let P : ℕ → Type 0 = λ k. Closed quote after (take k (c ∷ cs)) in subst P e h

closed_step : (quote c n : ℕ) (after : Bool) (cs : List ℕ) → quote < 128 → Front quote false cs → Front quote true cs
    → (k : Inside) → inside_of quote after c ≡ k → after_inside k (closing_len quote false cs) (closing_len quote true cs) ≡ Some n
    → Closed quote after (take n (c ∷ cs))
closed_step quote c n true cs small plain escaped Plain is e =
    let more = one_more (closing_len quote false cs) n e in
    let h = plain more.0 more.1 in
    let test = after_backslash (is_some (escape_value c)) is in
    let value = some_of (escape_value c) test in
    longer quote c n more.0 true cs more.2 (record {
      body = c ∷ h.body;
      characters = value.0 ∷ h.characters;
      ends = ap (λ xs. c ∷ xs) h.ends;
      means = λ i. before (value.1 i) (h.means i);
      ascii = ascii_before c (take more.0 cs) (escape_small c test) h.ascii;
    })
closed_step quote c n false cs small plain escaped Plain is e =
    let more = one_more (closing_len quote false cs) n e in
    let h = plain more.0 more.1 in
    let tests = plain_tests (c == quote) (c == 92) (is_some (plain_value quote c)) is in
    let value = some_of (plain_value quote c) tests.1 in
    longer quote c n more.0 false cs more.2 (record {
      body = c ∷ h.body;
      characters = value.0 ∷ h.characters;
      ends = ap (λ xs. c ∷ xs) h.ends;
      means = λ i. if tests.0 i then characters_after quote true h.body else before (value.1 i) (h.means i);
      ascii = ascii_before c (take more.0 cs) (plain_small quote c tests.1) h.ascii;
    })
closed_step quote c n true cs small plain escaped Backslash is e = absurd (never_backslash (is_some (escape_value c)) is)
closed_step quote c n false cs small plain escaped Backslash is e =
    let more = one_more (closing_len quote true cs) n e in
    let h = escaped more.0 more.1 in
    let test = backslash_tests (c == quote) (c == 92) (is_some (plain_value quote c)) is in
    let same = is_number c 92 test in
    longer quote c n more.0 false cs more.2 (record {
      body = c ∷ h.body;
      characters = h.characters;
      ends = ap (λ xs. c ∷ xs) h.ends;
      means = λ i. if test i then h.means i else before (plain_value quote c) (characters_after quote false h.body);
      ascii = ascii_before c (take more.0 cs) (omega arith) h.ascii;
    })
closed_step quote c n true cs small plain escaped Quote is e = absurd (never_quote (is_some (escape_value c)) is)
closed_step quote c n false cs small plain escaped Quote is e =
    let same = is_number c quote (quote_tests (c == quote) (c == 92) (is_some (plain_value quote c)) is) in
    let one : 1 ≡ n = cc in
    let P : ℕ → Type 0 = λ k. Closed quote false (take k (c ∷ cs)) in
    subst P one (record {
      body = [];
      characters = [];
      ends = ap (λ x. x ∷ []) same;
      means = refl;
      ascii = ascii_before c [] (omega arith) refl;
    })
closed_step quote c n after cs small plain escaped Wrong is e = absurd (cc)

closed_from : (quote : ℕ) (after : Bool) (text : List ℕ) (n : ℕ) → quote < 128 → closing_len quote after text ≡ Some n → Closed quote after (take n text)
closed_from quote after [] n small e = absurd (cc)
closed_from quote after (c ∷ cs) n small e =
    closed_step quote c n after cs small (λ m h. closed_from quote false cs m small h) (λ m h. closed_from quote true cs m small h)
    (inside_of quote after c) refl e

-- what a quote begins and closes is a token of some characters
pub token_from : (quote n : ℕ) (text : List ℕ) → quote < 128 → closing_len quote false text ≡ Some n
    → (cs : List ℕ) × IsToken quote cs (encode_utf8_all (quote ∷ take n text))
token_from quote n text small e =
    let h = closed_from quote false text n small e in
    (h.characters, (h.body, ascii_before quote (take n text) small h.ascii ∙ ap (λ xs. quote ∷ xs) h.ends, h.means))
