-- The first byte of a leaf.
use Rattle.std.proofs.Common.{◌≡◌, ℕ, ◌<◌, ◌^◌, ◌==◌, Bool as Truth, true, false, List, [], ◌∷◌, ◌++◌, length, get_or, drop, ◌&&◌, refl, sym, arith, subst, decimal, ℤ, pos, negsuc, FitsSigned, true≢false}
use Rattle.std.specs.Char.{digit_value}
use Rattle.std.specs.Fmt.{signed_decimal}
use Rattle.std.specs.Str.Parse.{IsNumeral}
use Rattle.std.proofs.lemmas.Bool.{eqb-true}
use Rattle.std.proofs.lemmas.Fmt.{decimal_is_IsNumeral}
use Rattle.ls_value.specs.Spelling.{code_of, truth_code, Fits, IsLeaf}
use Rattle.ls_value.specs.declared.leaf.Leaf.{Leaf}
use Rattle.ls_value.specs.declared.leaf.Leaf.TheVariants.{Nil, Int, Bool, Char, Text, Enum, Unit as Nothing}
use Rattle.ls_value.specs.declared.leaf.Shape.TheVariants as shape
use Rattle.std.specs.List.{list_all}
use Rattle.ls_lexer.specs.Characters.{is_capital, continues_word}
use Rattle.step_code.specs.Valid.{is_constructor_text}
use Rattle.step_text.specs.Nearest.{shape_by_first}
use mir.Syntax.{w64}

not_by : (x c : ℕ) (b : Truth) → (c == x) ≡ b → (digit_value x < 10 → ⊥) → digit_value c < 10 → b ≡ false
not_by x c true e other d =
    let P : ℕ → Type 0 = λ n. digit_value n < 10 in
    absurd (other (subst P (eqb-true c x e) d))
not_by x c false e other d = refl

-- a digit is no other byte
not_digit : (x c : ℕ) → (digit_value x < 10 → ⊥) → digit_value c < 10 → (c == x) ≡ false
not_digit x c other d = not_by x c (c == x) refl other d

digit_shape : (c : ℕ) → digit_value c < 10 → shape_by_first c ≡ shape.Int
digit_shape c d =
    let quote : (c == 39) ≡ false = not_digit 39 c (λ h. omega arith) d in
    let double : (c == 34) ≡ false = not_digit 34 c (λ h. omega arith) d in
    let t : (c == 116) ≡ false = not_digit 116 c (λ h. omega arith) d in
    let f : (c == 102) ≡ false = not_digit 102 c (λ h. omega arith) d in
    let open_ : (c == 40) ≡ false = not_digit 40 c (λ h. omega arith) d in
    rw (quote, double, t, f, open_) refl

numeral_shape : (ds : List ℕ) → IsNumeral 10 ds → shape_by_first (get_or ds 0 0) ≡ shape.Int
numeral_shape [] h = absurd (omega (arith, h.0))
numeral_shape (c ∷ ds) h = digit_shape c h.1.0

int_shape : (z : ℤ) → FitsSigned w64 z → shape_by_first (get_or (signed_decimal z) 0 0) ≡ shape.Int
int_shape (pos n) h = numeral_shape (decimal n) (decimal_is_IsNumeral n (omega (arith, h.sfits))).0
int_shape (negsuc n) h = refl

truth_shape : (b : Truth) → shape_by_first (get_or (truth_code b) 0 0) ≡ shape.Bool
truth_shape true = refl
truth_shape false = refl

code_shape : (leaf : Leaf) → IsLeaf leaf → (get_or (code_of leaf) 0 0 == 35) ≡ false → Fits leaf (shape_by_first (get_or (code_of leaf) 0 0))
code_shape Nil h n = tt
code_shape (Int z) h n = sym (int_shape z h)
code_shape (Bool b) h n = sym (truth_shape b)
code_shape (Char c) h n = refl
code_shape (Text t) h n = refl
code_shape (Enum t k) h n = absurd (true≢false n)
code_shape Nothing h n = refl

-- a leaf fits the shape that its first byte tells
pub first_tells : (leaf : Leaf) (word : List ℕ) → IsLeaf leaf → word ≡ code_of leaf → (get_or word 0 0 == 35) ≡ false → Fits leaf (shape_by_first (get_or word 0 0))
first_tells leaf word h e n =
    let P : List ℕ → Type 0 = λ w. (get_or w 0 0 == 35) ≡ false → Fits leaf (shape_by_first (get_or w 0 0)) in
    subst P (sym e) (code_shape leaf h) n

some_code : (z : ℤ) → FitsSigned w64 z → signed_decimal z ≡ [] → ⊥
some_code (pos n) h e =
    let P : List ℕ → Type 0 = λ w. IsNumeral 10 w in
    let none : IsNumeral 10 [] = subst P e (decimal_is_IsNumeral n (omega (arith, h.sfits))).0 in
    omega (arith, none.0)
some_code (negsuc n) h e = cc

some_truth : (b : Truth) → truth_code b ≡ [] → ⊥
some_truth true e = cc
some_truth false e = cc

-- no leaf is spelled by nothing
pub some_byte : (leaf : Leaf) → IsLeaf leaf → code_of leaf ≡ [] → ⊥
some_byte Nil h e = cc
some_byte (Int z) h e = some_code z h e
some_byte (Bool b) h e = some_truth b e
some_byte (Char c) h e = cc
some_byte (Text t) h e = cc
some_byte (Enum t k) h e = cc
some_byte Nothing h e = cc

no_hash : (c : ℕ) → digit_value c < 10 → c ≡ 35 → ⊥
no_hash c d e =
    let P : ℕ → Type 0 = λ n. digit_value n < 10 in
    let h : digit_value 35 < 10 = subst P e d in
    omega arith

numeral_no_hash : (ds : List ℕ) → IsNumeral 10 ds → get_or ds 0 0 ≡ 35 → ⊥
numeral_no_hash [] h e = omega (arith, h.0)
numeral_no_hash (c ∷ ds) h e = no_hash c h.1.0 e

int_no_hash : (z : ℤ) → FitsSigned w64 z → get_or (signed_decimal z) 0 0 ≡ 35 → ⊥
int_no_hash (pos n) h e = numeral_no_hash (decimal n) (decimal_is_IsNumeral n (omega (arith, h.sfits))).0 e
int_no_hash (negsuc n) h e = let d : 45 ≡ 35 = e in omega arith

truth_no_hash : (b : Truth) → get_or (truth_code b) 0 0 ≡ 35 → ⊥
truth_no_hash true e = let d : 116 ≡ 35 = e in omega arith
truth_no_hash false e = let d : 102 ≡ 35 = e in omega arith

-- a leaf that begins with `#` is a constructor
pub record IsConstructorCode (leaf : Leaf) (word : List ℕ) : Type 0 where
  pub enumeration : ℕ
  pub place : ℕ
  pub is : leaf ≡ Enum enumeration place
  pub small : enumeration < 2 ^ 32
  pub rest : drop 1 word ≡ decimal enumeration ++ 46 ∷ decimal place

code_constructor : (leaf : Leaf) → IsLeaf leaf → get_or (code_of leaf) 0 0 ≡ 35 → IsConstructorCode leaf (code_of leaf)
code_constructor Nil h e = let d : 110 ≡ 35 = e in absurd (omega arith)
code_constructor (Int z) h e = absurd (int_no_hash z h e)
code_constructor (Bool b) h e = absurd (truth_no_hash b e)
code_constructor (Char c) h e = let d : 39 ≡ 35 = e in absurd (omega arith)
code_constructor (Text t) h e = let d : 34 ≡ 35 = e in absurd (omega arith)
code_constructor (Enum t k) h e = record { enumeration = t; place = k; is = refl; small = h.0; rest = refl }
code_constructor Nothing h e = let d : 40 ≡ 35 = e in absurd (omega arith)

pub constructor_of : (leaf : Leaf) (word : List ℕ) → IsLeaf leaf → word ≡ code_of leaf → get_or word 0 0 ≡ 35 → IsConstructorCode leaf word
constructor_of leaf word h e n =
    let P : List ℕ → Type 0 = λ w. get_or w 0 0 ≡ 35 → IsConstructorCode leaf w in
    subst P (sym e) (code_constructor leaf h) n

pub empty_word : (word : List ℕ) → (length word == 0) ≡ true → word ≡ []
empty_word [] e = refl
empty_word (c ∷ word) e = let h : length (c ∷ word) ≡ 0 = eqb-true (length (c ∷ word)) 0 e in absurd (omega arith)

-- a constructor's name by its first character and the others
pub constructor_parts : (cs : List ℕ) → 0 < length cs → is_constructor_text cs ≡ (is_capital (get_or cs 0 0) && list_all continues_word (drop 1 cs))
constructor_parts [] h = absurd (omega arith)
constructor_parts (c ∷ cs) h = refl

pub not_equal : (a b : ℕ) → (a ≡ b → ⊥) → (a == b) ≡ false
not_equal a b h = by_test (a == b) refl
  where
    by_test : (t : Truth) → (a == b) ≡ t → t ≡ false
    by_test true e = absurd (h (eqb-true a b e))
    by_test false e = refl
