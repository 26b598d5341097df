-- What a leaf's spelling tells of the leaf.
use Rattle.std.proofs.Common.{◌≡◌, ℕ, ◌≤◌, ◌++◌, Bool as Truth, true, false, ◌==◌, ◌&&◌, ◌||◌, not, nat_le, if◌then◌else◌, List, [], ◌∷◌, length, refl, sym, ◌∙◌, ap, arith, subst, codes, ℤ, FitsSigned, get_or, Option, Some}
use Rattle.std.specs.Fmt.{signed_decimal}
use mir.Syntax.{w64}
use Rattle.std.proofs.lemmas.Bool.{eqb-true, eqb-false}
use Rattle.std.proofs.lemmas.Bool.Decides.{nat_tests, not_from_Decides}
use Rattle.std.specs.Str.{bytes_eq}
use Rattle.std.proofs.lemmas.Slice.Eq.{bytes_eq-Decides}
use Rattle.ls_value.specs.Character.{is_character, AreCharacters}
use Rattle.ls_value.specs.Reading.{escape_value, plain_value, before, characters_after, characters_of, IsToken, IsIntText, int_value, digits_part}
use Rattle.std.specs.Str.Parse.{IsNumeral}
use Rattle.ls_value.specs.Spelling.{escaped, quoted, truth_code, code_of, Fits, IsLeaf}
use Rattle.ls_value.specs.declared.leaf.Leaf.{Leaf}
use Rattle.ls_value.specs.declared.leaf.Leaf.TheVariants.{Nil, Int, Bool, Char, Text, Enum, Unit as Nothing}
use Rattle.ls_value.specs.declared.leaf.Shape.TheVariants.{Int as Ints, Char as Chars, Text as Texts}
use Rattle.ls_value.proofs.Tokens.{no_backslash}
use Rattle.ls_value.proofs.Numbers.{int_text}

put : (o : Option ℕ) (p : Option (List ℕ)) (x : ℕ) (zs : List ℕ) → o ≡ Some x → p ≡ Some zs → before o p ≡ Some (x ∷ zs)
put o p x zs e f = rw (e, f) refl

abbrev IsQuote : ℕ → Type 0
IsQuote quote = (quote == 39 || quote == 34) ≡ true

one_of_three : (quote x : ℕ) → IsQuote quote → (x == 92 || x == quote) ≡ true → (x == 92 || x == 39 || x == 34) ≡ true
one_of_three quote x q h = grind (arith, nat_tests)

no_n : (quote x : ℕ) → IsQuote quote → (x == 92 || x == quote) ≡ true → (x == 110) ≡ false
no_n quote x q h = grind (arith, nat_tests)

no_t : (quote x : ℕ) → IsQuote quote → (x == 92 || x == quote) ≡ true → (x == 116) ≡ false
no_t quote x q h = grind (arith, nat_tests)

own_escape : (quote x : ℕ) → IsQuote quote → (x == 92 || x == quote) ≡ true → escape_value x ≡ Some x
own_escape quote x q h = rw (no_n quote x q h, no_t quote x q h, one_of_three quote x q h) refl

in_range : (quote x : ℕ) → is_character x ≡ true → (x == 10) ≡ false → (x == 9) ≡ false → (x == 92 || x == quote) ≡ false
    → (nat_le 32 x && nat_le x 126 && not (x == 92 || x == quote)) ≡ true
in_range quote x h e f g = grind (arith, nat_tests)

not_backslash : (quote x : ℕ) → (x == 92 || x == quote) ≡ false → (x == 92) ≡ false
not_backslash quote x g = grind (arith, nat_tests)

own_plain : (quote x : ℕ) → is_character x ≡ true → (x == 10) ≡ false → (x == 9) ≡ false → (x == 92 || x == quote) ≡ false → plain_value quote x ≡ Some x
own_plain quote x h e f g = rw (in_range quote x h e f g) refl

one_read : (quote x : ℕ) (rest zs : List ℕ) (a b d : Truth) → (x == 10) ≡ a → (x == 9) ≡ b → (x == 92 || x == quote) ≡ d → IsQuote quote → is_character x ≡ true
    → characters_after quote false rest ≡ Some zs
    → characters_after quote false ((if a then codes "\\n" else (if b then codes "\\t" else (if d then 92 ∷ x ∷ [] else x ∷ []))) ++ rest) ≡ Some (x ∷ zs)
one_read quote x rest zs true b d e f g q h k = put (Some 10) (characters_after quote false rest) x zs (ap (λ (n : ℕ). Some n) (sym (eqb-true x 10 e))) k
one_read quote x rest zs false true d e f g q h k = put (Some 9) (characters_after quote false rest) x zs (ap (λ (n : ℕ). Some n) (sym (eqb-true x 9 f))) k
one_read quote x rest zs false false true e f g q h k = put (escape_value x) (characters_after quote false rest) x zs (own_escape quote x q g) k
one_read quote x rest zs false false false e f g q h k =
    no_backslash quote x false rest (not_backslash quote x g)
    ∙ put (plain_value quote x) (characters_after quote false rest) x zs (own_plain quote x h e f g) k

first_of_and : (a b : Truth) → (a && b) ≡ true → a ≡ true
first_of_and true b h = refl
first_of_and false b h = absurd (cc)

second_of_and : (a b : Truth) → (a && b) ≡ true → b ≡ true
second_of_and true b h = h
second_of_and false b h = absurd (cc)

-- what is written with escapes is read back
pub escaped_read : (quote : ℕ) (xs : List ℕ) → IsQuote quote → AreCharacters xs → characters_of quote (escaped quote xs) ≡ Some xs
escaped_read quote [] q h = refl
escaped_read quote (x ∷ xs) q h =
    one_read quote x (escaped quote xs) xs (x == 10) (x == 9) (x == 92 || x == quote) refl refl refl q (first_of_and (is_character x) _ h)
    (escaped_read quote xs q (second_of_and (is_character x) _ h))

quoted_token : (quote : ℕ) (xs bytes : List ℕ) → IsQuote quote → AreCharacters xs → bytes ≡ quoted quote xs → IsToken quote xs bytes
quoted_token quote xs bytes q h e = (escaped quote xs, e, escaped_read quote xs q h)

nil_is_no_number : IsNumeral 10 (digits_part (codes "nil")) → ⊥
nil_is_no_number h = omega (arith, h.1.0)

no_number : (bytes : List ℕ) → IsNumeral 10 (digits_part bytes) → bytes ≡ codes "nil" → ⊥
no_number bytes h e = let P : List ℕ → Type 0 = λ b. IsNumeral 10 (digits_part b) in nil_is_no_number (subst P e h)

first_is_n : (bytes : List ℕ) (x : ℕ) (xs : List ℕ) → bytes ≡ codes "nil" → bytes ≡ x ∷ xs → x ≡ 110
first_is_n bytes x xs n e = ap (λ (b : List ℕ). get_or b 0 0) (sym e ∙ n)

other_not_nil : (bytes : List ℕ) (x : ℕ) (xs : List ℕ) → (x == 110) ≡ false → bytes ≡ codes "nil" → bytes ≡ x ∷ xs → ⊥
other_not_nil bytes x xs h n e = eqb-false x 110 h (first_is_n bytes x xs n e)

truth_not_nil : (bytes : List ℕ) (b : Truth) → bytes ≡ codes "nil" → bytes ≡ truth_code b → ⊥
truth_not_nil bytes true n e = other_not_nil bytes 116 (codes "rue") refl n e
truth_not_nil bytes false n e = other_not_nil bytes 102 (codes "alse") refl n e

pub nil_is : (bytes : List ℕ) (leaf : Leaf) → bytes ≡ codes "nil" → IsLeaf leaf → bytes ≡ code_of leaf → leaf ≡ Nil
nil_is bytes Nil n h e = refl
nil_is bytes (Int z) n h e = absurd (no_number (signed_decimal z) (int_text z h).int.0 (sym e ∙ n))
nil_is bytes (Bool b) n h e = absurd (truth_not_nil bytes b n e)
nil_is bytes (Char c) n h e = absurd (other_not_nil bytes 39 _ refl n e)
nil_is bytes (Text t) n h e = absurd (other_not_nil bytes 34 _ refl n e)
nil_is bytes (Enum t k) n h e = absurd (other_not_nil bytes 35 _ refl n e)
nil_is bytes Nothing n h e = absurd (other_not_nil bytes 40 _ refl n e)

pub int_is : (bytes : List ℕ) (leaf : Leaf) → (bytes ≡ codes "nil" → ⊥) → Fits leaf Ints → IsLeaf leaf → bytes ≡ code_of leaf → IsIntText bytes × (leaf ≡ Int (int_value bytes))
int_is bytes Nil n f h e = absurd (n e)
int_is bytes (Int z) n f h e =
    let P : List ℕ → Type 0 = λ b. IsIntText b × (Int z ≡ Int (int_value b)) in
    let text = int_text z h in
    subst P (sym e) (text.int, ap (λ (y : ℤ). Int y) (sym text.value))
int_is bytes (Bool b) n f h e = absurd (cc)
int_is bytes (Char c) n f h e = absurd (cc)
int_is bytes (Text t) n f h e = absurd (cc)
int_is bytes (Enum t k) n f h e = absurd (cc)
int_is bytes Nothing n f h e = absurd (cc)

pub char_is : (bytes : List ℕ) (leaf : Leaf) → (bytes ≡ codes "nil" → ⊥) → Fits leaf Chars → IsLeaf leaf → bytes ≡ code_of leaf → (c : ℕ) × (leaf ≡ Char c) × IsToken 39 (c ∷ []) bytes
char_is bytes Nil n f h e = absurd (n e)
char_is bytes (Int z) n f h e = absurd (cc)
char_is bytes (Bool b) n f h e = absurd (cc)
char_is bytes (Char c) n f h e = (c, refl, quoted_token 39 (c ∷ []) bytes refl (rw h refl) e)
char_is bytes (Text t) n f h e = absurd (cc)
char_is bytes (Enum t k) n f h e = absurd (cc)
char_is bytes Nothing n f h e = absurd (cc)

pub text_is : (bytes : List ℕ) (leaf : Leaf) → (bytes ≡ codes "nil" → ⊥) → Fits leaf Texts → IsLeaf leaf → bytes ≡ code_of leaf → (t : List ℕ) × (leaf ≡ Text t) × IsToken 34 t bytes × (length t ≤ 63)
text_is bytes Nil n f h e = absurd (n e)
text_is bytes (Int z) n f h e = absurd (cc)
text_is bytes (Bool b) n f h e = absurd (cc)
text_is bytes (Char c) n f h e = absurd (cc)
text_is bytes (Text t) n f h e = (t, refl, quoted_token 34 t bytes refl h.1 e, h.0)
text_is bytes (Enum t k) n f h e = absurd (cc)
text_is bytes Nothing n f h e = absurd (cc)

pub is_nil : (bytes nil : List ℕ) → nil ≡ codes "nil" → bytes_eq bytes nil ≡ true → bytes ≡ codes "nil"
is_nil bytes nil e h = (bytes_eq-Decides bytes nil).0 h ∙ e

pub not_nil : (bytes nil : List ℕ) → nil ≡ codes "nil" → bytes_eq bytes nil ≡ false → bytes ≡ codes "nil" → ⊥
not_nil bytes nil e h k = not_from_Decides (bytes_eq bytes nil) (bytes_eq-Decides bytes nil) h (k ∙ sym e)

pub read_back_int : (v z : ℤ) (bytes : List ℕ) (leaf : Leaf) → IsIntText bytes × (v ≡ int_value bytes) → leaf ≡ Int (int_value bytes) → z ≡ v → Some (Int z) ≡ Some leaf
read_back_int v z bytes leaf h e k = rw (e, k, h.1) refl

pub int_fits : (v : ℤ) (bytes : List ℕ) → IsIntText bytes × (v ≡ int_value bytes) → FitsSigned w64 v
int_fits v bytes h = let P : ℤ → Type 0 = λ z. FitsSigned w64 z in subst P (sym h.1) h.0.1
